use Rattle.tva_audit.proofs.Common.{List, sym, subst, ◌∙◌, Tally, AreTallied}
use Rattle.tva_audit.proofs.followed.Followed.answered.Goals as goal

pub returns-in-Ok-Some-clause-decided : goal.returns-in-Ok-Some-clause-decided
returns-in-Ok-Some-clause-decided c = λ report told h.
    let found = c.in-Ok-Some.ensures.found report _ (c.feed_total.ensures.fed report _ h.compares) in (found.0, sym found.1 ∙ c.in-Ok-Some.field-0-is)

pub returns-in-Err-clause-decided : goal.returns-in-Err-clause-decided
returns-in-Err-clause-decided c = λ report told h. c.in-Err.ensures.bad report _ (c.feed_total.ensures.fed report _ h.compares)

pub returns-in-Ok-clause-decided : goal.returns-in-Ok-clause-decided
returns-in-Ok-clause-decided c = λ report told h.
    let found = c.in-Ok-None.ensures.found report _ (c.feed_total.ensures.fed report _ h.compares) in (
      found.0,
      sym found.1 ∙ c.in-Ok-None.field-0-is,
      c.in-Ok.ensures told (subst (λ (ts : List Tally). AreTallied c.args.config.now told ts) (sym c.as_slice.ensures.value) h.tallied),
    )

pub returns-clause-decided : goal.returns-clause-decided
returns-clause-decided c = λ report told h. (c.in-Ok-None.ensures.found report _ (c.feed_total.ensures.fed report _ h.compares)).0
