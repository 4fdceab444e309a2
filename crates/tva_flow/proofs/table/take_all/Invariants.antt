use Rattle.tva_flow.proofs.Common.{◌≡◌, ℕ, ◌<◌, ◌≤◌, length, get_or, Some, None}
use Rattle.std.specs.Vec.{vec_capacity}
use Rattle.tva_flow.proofs.table.take_all.Given as goal

-- only places of entries that are left stand in a bucket
abbrev pub invariant-loop-places : goal.invariant-loop-places
invariant-loop-places l = record {
  few : (length l.all.items ≤ length l.places.homes) × (length l.all.items ≤ 1000000);
  within : (i b : ℕ) → get_or l.places.homes i None ≡ Some b → i < length l.all.items;
  room : vec_capacity l.all ≡ vec_capacity l.initial.all;
  same : (l.places.count ≡ l.initial.places.count) × (length l.places.homes ≡ length l.initial.places.homes);
}

abbrev pub decreases-loop-places : goal.decreases-loop-places
decreases-loop-places l = goal.left-loop-places l
