use Rattle.tva_net.proofs.Common.{◌≡◌, ℕ, ◌<◌, [], All, length, get_or, NodeState, IsFirstNode}
use Rattle.tva_net.proofs.building.nodes_of.Given as goal

abbrev pub invariant-loop-number : goal.invariant-loop-number
invariant-loop-number l = record {
  count : length l.nodes.items ≡ l.number;
  keeps : All (λ v. v.keeps ≡ l.keeps) l.nodes.items;
  each : (n : ℕ) (d : NodeState) → n < l.number → IsFirstNode l.config [] n (get_or l.nodes.items n d);
}
