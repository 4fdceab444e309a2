use Rattle.tva_index.proofs.Common.{IsWalk}
use Rattle.tva_index.proofs.Chains.{rank}
use Rattle.tva_index.proofs.links.first_above.Given as goal

-- what was passed stands above the place, and what is left of the bucket below what was passed
abbrev pub invariant-loop-at : goal.invariant-loop-at
invariant-loop-at l = IsWalk l.links.homes.items l.place l.bucket l.above l.at

abbrev pub decreases-loop-at : goal.decreases-loop-at
decreases-loop-at l = rank l.at
