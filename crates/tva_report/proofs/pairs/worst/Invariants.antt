use Rattle.tva_report.proofs.Common.{◌≡◌, Some, drop, worst_from, worst_of}
use Rattle.tva_report.proofs.pairs.worst.Given as goal

-- the worst of those so far stands for them
abbrev pub invariant-loop-sum : goal.invariant-loop-sum
invariant-loop-sum l = worst_of l.sums ≡ Some (worst_from l.worst (drop l.sum-index l.rest))
