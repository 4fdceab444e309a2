use Rattle.tva_waiting.proofs.Common.{◌≡◌, ◌<◌, ℕ, List, length, get_or, head_at, never, queues_of}
use Rattle.tva_waiting.proofs.lanes.heads_of.Given as goal

abbrev pub invariant-loop-place : goal.invariant-loop-place
invariant-loop-place l = record {
  count : length l.heads ≡ l.places;
  each : (layouts : List ℕ) (place : ℕ) → place < l.place → get_or l.heads place never ≡ head_at (queues_of layouts l.rows.items l.list.items) place;
}
