use Rattle.tva_report.proofs.Common.{◌≤◌, length, take, sym, refl, arith, eqb-false}
use Rattle.tva_report.proofs.Cuts.{cut_at_first, none_without_feed, pieces_cut, pieces_last, bytes_cut, bytes_last, some_ended, any_feed-ended, without_feed-ended, without_feed-unended}
use Rattle.tva_report.proofs.pieces.Pieces.next.Goals as goal

pub returns-in-Some : goal.returns-in-Some
returns-in-Some c =
    let text = c.self.inside.rest.now in
    let at = c.in-Some.end in
    let cut = cut_at_first text at (sym c.in-Some.ensures) in
    rw (← c.self.view_is) (record {
      first = pieces_cut text at cut;
      text = without_feed-ended (take at text) cut.before;
      ended = any_feed-ended (take at text);
      bytes = bytes_cut text at cut;
      some = some_ended (take at text);
      number = refl;
      next = refl;
    })

pub returns-in-None : goal.returns-in-None
returns-in-None c =
    let text = c.self.inside.rest.now in
    let none = none_without_feed text (sym c.in-None.ensures) in
    let nonzero = eqb-false (length text) 0 (sym c.if-is_empty.ensures) in
    let some : 1 ≤ length text = omega arith in
    rw (← c.self.view_is) (record {
      first = pieces_last text some none;
      text = without_feed-unended text none;
      ended = none;
      bytes = bytes_last text;
      some = some;
      number = refl;
      next = refl;
    })
