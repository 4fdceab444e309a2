use Rattle.tva_audit.proofs.Common.{◌≡◌, take, sums_told}
use Rattle.tva_audit.proofs.routers.chunk_sums.Given as goal

-- the sums of the routers up to here
abbrev pub invariant-loop-node : goal.invariant-loop-node
invariant-loop-node l = l.all.items ≡ sums_told (take l.node-index l.nodes)
