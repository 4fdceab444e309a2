use Rattle.tva_node.proofs.Common.{◌-◌, ℕ, ◌≤◌, ◌<◌, get_or, length, Link}
use Rattle.tva_node.proofs.links.rank_of.Given as goal

abbrev pub invariant-loop-low : goal.invariant-loop-low
invariant-loop-low l = record {
  within : (l.low ≤ l.high) × (l.high ≤ length l.links.items);
  before : (place : ℕ) (d : Link) → place < l.low → (get_or l.links.items place d).number < l.number;
  behind : (place : ℕ) (d : Link) → l.high ≤ place → place < length l.links.items → l.number ≤ (get_or l.links.items place d).number;
}

abbrev pub decreases-loop-low : goal.decreases-loop-low
decreases-loop-low l = l.high - l.low
