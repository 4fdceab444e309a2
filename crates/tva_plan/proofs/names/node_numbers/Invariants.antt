use Rattle.tva_plan.proofs.Common.{◌≤◌, length, drop}
use Rattle.tva_plan.specs.Numbers.{NumbersFrom}
use Rattle.tva_plan.proofs.names.node_numbers.Given as goal

abbrev pub invariant-loop-number : goal.invariant-loop-number
invariant-loop-number l = (l.number ≤ length l.plans) × NumbersFrom l.number (drop l.number l.plans) l.numbers

abbrev pub decreases-loop-number : goal.decreases-loop-number
decreases-loop-number l = l.number
