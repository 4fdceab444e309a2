use Rattle.tva_audit.proofs.Common.{◌≡◌, ℕ, ◌*◌, List, take, NodeState, AreParts, sums_told}
use Rattle.tva_audit.proofs.routers.joined.Given as goal

-- the sums of the chunks up to here
abbrev pub invariant-loop-part : goal.invariant-loop-part
invariant-loop-part l = (size : ℕ) (nodes : List NodeState) → AreParts size nodes l.parts → l.all.items ≡ sums_told (take (l.part-index * size) nodes)
