use Rattle.tva_sender.proofs.Common.{◌≡◌, ℕ, ◌-◌, ◌<◌, length, Some, bits_past, spot}
use Rattle.tva_sender.proofs.places.walk.Given as goal

-- the steps so far lead to this node, and these are the bits that are left
abbrev pub invariant-steps : goal.invariant-steps
invariant-steps l = record {
  within : l.at < length l.nodes.items;
  there : (depth : ℕ) × (spot l.nodes.items l.address depth ≡ Some l.at) × (l.bits ≡ bits_past l.address depth);
}

abbrev pub decreases-steps : goal.decreases-steps
decreases-steps l = length l.nodes.items - l.at
