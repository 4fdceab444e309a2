use Rattle.tva_audit.proofs.Common.{Bool, cond, [], List, ◌++◌, length, is_some, refl, sym, ap, ◌∙◌, subst, length-map, with_items_is, Event, text_of_event, Tally, left, AreTallied}
use Rattle.tva_audit.proofs.Texts.{IsText, compares_more, lines_fit, ok_more, texts_of}
use Rattle.tva_audit.proofs.followed.Followed.follow.Goals as goal
use Rattle.tva_audit.proofs.followed.Followed.follow.Goals.{In_ok-put}

-- the text has the lines that are left
fits : (c : In_ok-put) → IsText (texts_of c.args.config.now (left c.args.self.now c.args.events.now)) c.args.text.now
fits c = lines_fit c.args.config.now (left c.args.self.now c.args.events.now) c.args.text.now (rw c.in_ok-put.was at c.requires.lines) (rw c.in_ok-put.was at c.requires.printable)

pub feed-requires-clause-good : goal.feed-requires-clause-good
feed-requires-clause-good c = (fits (goal.at.feed-requires-clause-good c).In_ok-put).good

pub feed-requires-clause-count : goal.feed-requires-clause-count
feed-requires-clause-count c =
    ap length (c.shown-count.ensures ∙ ap (λ (differs : Bool). cond {A = List Event} differs [] c.args.events.now) c.differs.ensures)
    ∙ sym (length-map (left c.args.self.now c.args.events.now) (text_of_event c.args.config.now)) ∙ sym (ap length (fits (goal.at.feed-requires-clause-count c).In_ok-put).has)

pub returns : goal.returns
returns c = λ report told h.
    let config = c.args.config.now in
    let before = c.args.self.now in
    let events = c.args.events.now in
    let old = subst (λ (ts : List Tally). AreTallied config told ts) (sym c.as_mut_slice.ensures.value) h.tallied in
    let items = with_items_is before.tallies c.tell_each.new.tallies (c.tell_each.auto.tallies ∙ c.as_mut_slice.ensures.len) in
    let compares = compares_more config before.comparison c.feed.new.self report told events c.args.text.now (is_some before.comparison.wanted) refl
    (fits (goal.at.returns c).In_ok-put) c.feed.ensures h.compares in
    record {
      bad = compares.bad;
      follows =
          ok_more c.tell_each.result
          (λ tallied. record { compares = compares; tallied = subst (λ (ts : List Tally). AreTallied config (told ++ events) ts) (sym items) tallied })
          (c.tell_each.ensures told old);
    }
