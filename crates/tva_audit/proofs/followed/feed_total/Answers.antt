use Rattle.tva_audit.proofs.Common.{List, ℕ, ◌++◌, ◌∷◌, [], length, sym, subst, ap, ◌∙◌, text_of_totals}
use Rattle.tva_report.specs.Compared as compared
use Rattle.tva_audit.proofs.Texts.{IsText, one_line}
use Rattle.tva_audit.proofs.followed.feed_total.Goals as goal
use Rattle.tva_audit.proofs.followed.feed_total.Goals.{After-as_bytes}

fits : (c : After-as_bytes) → IsText (text_of_totals c.args.totals.now ∷ []) c.as_bytes.result.now
fits c =
    subst (IsText (text_of_totals c.args.totals.now ∷ [])) (sym (c.as_bytes.ensures.value ∙ c.deref.ensures.0 ∙ c.summary_text.ensures.line))
    (one_line (text_of_totals c.args.totals.now) c.summary_text.ensures.printable)

pub feed-requires-clause-good : goal.feed-requires-clause-good
feed-requires-clause-good c = (fits (goal.at.feed-requires-clause-good c).After-as_bytes).good

pub feed-requires-clause-count : goal.feed-requires-clause-count
feed-requires-clause-count c = sym (ap length (fits (goal.at.feed-requires-clause-count c).After-as_bytes).has)

pub returns-clause-fed : goal.returns-clause-fed
returns-clause-fed c = λ report fed stands.
    subst (λ (ls : List (List ℕ)). compared.StandsFor c.feed.new.self report (fed ++ ls)) (fits (goal.at.returns-clause-fed c).After-as_bytes).has (c.feed.ensures report fed stands)
