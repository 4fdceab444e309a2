use Rattle.tva_node.proofs.Common.{◌≡◌, ℕ, ◌<◌, None, length, get_or, IsKey}
use Rattle.tva_node.proofs.links.first_keys.Given as goal

abbrev pub invariant-loop-place : goal.invariant-loop-place
invariant-loop-place l = record {
  count : length l.keys ≡ l.count;
  each : (place : ℕ) → place < l.place → IsKey place None (get_or l.keys place 0);
}
