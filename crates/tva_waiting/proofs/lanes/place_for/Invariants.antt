use Rattle.tva_waiting.proofs.Common.{◌≡◌, ◌≤◌, ◌<◌, length, get_or, true, precedes}
use Rattle.tva_waiting.proofs.lanes.place_for.Given as goal

abbrev pub invariant-loop-place : goal.invariant-loop-place
invariant-loop-place g l = record {
  within : l.place ≤ length l.items.items;
  behind : (d : _) → l.place < length l.items.items → precedes g.T.Comes.time g.T.Comes.source l.item (get_or l.items.items l.place d) ≡ true;
}

abbrev pub decreases-loop-place : goal.decreases-loop-place
decreases-loop-place g l = l.place
