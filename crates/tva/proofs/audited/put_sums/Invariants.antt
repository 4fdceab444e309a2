use Rattle.tva.proofs.Common.{◌≡◌, take, flat_map, sum_line}
use Rattle.tva.proofs.audited.put_sums.Given as goal

-- the lines of the routers up to here
abbrev pub invariant-loop-sum : goal.invariant-loop-sum
invariant-loop-sum l = l.text.items ≡ flat_map (sum_line l.plan) (take l.sum-index l.sums)
