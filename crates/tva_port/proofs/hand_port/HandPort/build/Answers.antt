use Rattle.std.proofs.Common.{rules}
use Rattle.tva_port.proofs.Steady.{misses_empty}
use Rattle.tva_port.proofs.hand_port.HandPort.build.Goals as goal

pub returns-clause-missed : goal.returns-clause-missed
returns-clause-missed c until = misses_empty c.args.limits until

pub invariant_of-result : goal.invariant_of-result
invariant_of-result c = search (rules, c.requires, c.most_credit.ensures.value, c.in_ok-with_limits.ensures.limits, c.in_ok-with_limits-2.ensures.empty, c.in_ok-with_limits-3.ensures)
