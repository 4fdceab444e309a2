use Rattle.tva_trace.proofs.Common.{◌≡◌, ◌≤◌, ◌==◌, length, slice_split}
use Rattle.tva_trace.proofs.ItemLists.{IsReadTo}
use Rattle.tva_trace.proofs.items.caps_of.Given as goal

abbrev pub invariant-loop-item : goal.invariant-loop-item
invariant-loop-item l = record {
  can_next : (goal.iterator-loop-item).can_next l.item-iterator;
  finite : (goal.iterator-loop-item).is_finite l.item-iterator;
  read : IsReadTo l.plans l.flow l.rights (slice_split (λ b. b == 59) l.text) (length l.yielded) l.caps;
  count : length l.caps ≡ length l.yielded;
  few : length l.caps ≤ 16;
}
