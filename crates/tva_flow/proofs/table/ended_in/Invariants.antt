use Rattle.tva_flow.proofs.Common.{◌≡◌, ◌+◌, ◌≤◌, ◌⊎◌, length, Some, IsLeastPlace, AreNoLater}
use Rattle.tva_flow.proofs.Late.{AllLive, late}
use Rattle.tva_flow.proofs.table.ended_in.Given as goal

-- each turn makes a late number right, or tells that all entries live
abbrev pub invariant-loop-turn : goal.invariant-loop-turn
invariant-loop-turn l = record {
  size : length l.ends ≡ length l.all.items;
  below : AreNoLater l.ends l.all.items;
  least : IsLeastPlace l.ends (Some l.first);
  left : AllLive l.now l.all.items ⊎ (late l.all.items l.ends + l._turn ≤ length l.all.items);
}
