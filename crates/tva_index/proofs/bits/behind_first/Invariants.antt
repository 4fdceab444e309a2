use Rattle.tva_index.proofs.Common.{◌≡◌, ℕ, ◌+◌, ◌<◌, ◌≤◌, length, get_or, vec_capacity}
use Rattle.tva_index.proofs.bits.behind_first.Given as goal

-- the places so far
abbrev pub invariant-loop-place : goal.invariant-loop-place
invariant-loop-place l = record {
  count : length l.free.items ≡ l.place;
  each : (i : ℕ) → i < l.place → get_or l.free.items i 0 ≡ i + 1;
  room : l.places ≤ vec_capacity l.free;
}
