use Rattle.tva_node.proofs.Common.{◌≡◌, ◌≤◌, ℕ, length, Keeps, state_of, DecidesAt}
use Rattle.tva_node.proofs.parts.Parts.decide_each.Given as goal

-- so many links at least have decided
abbrev pub invariant-loop : goal.invariant-loop
invariant-loop l = record {
  stands : (place : ℕ) × (l.counter ≤ place) × (place ≤ length l.self.links) × DecidesAt (state_of l.self) l.now place;
  count : length l.self.links ≡ length l.initial.self.links;
  keeps : Keeps (state_of l.initial.self) (state_of l.self);
}
