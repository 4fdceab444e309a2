use Rattle.std.proofs.Common.{◌≤◌}
use Rattle.tva_hosts_tests.proofs.tests.couriers.play.Given as goal

-- no courier was called later than at the beginning
abbrev pub invariant-loop-line : goal.invariant-loop-line
invariant-loop-line g l = record {
  can_next : (goal.iterator-loop-line g).can_next l.line-iterator;
  is_finite : (goal.iterator-loop-line g).is_finite l.line-iterator;
  one : l.a.host.last ≤ 0;
  two : l.b.host.last ≤ 0;
  three : l.c.host.last ≤ 0;
}
