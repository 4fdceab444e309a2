use Rattle.tva_links_tests.proofs.Common.{◌≤◌}
use Rattle.tva_links_tests.proofs.tests.ports.play.Given as goal

-- no call was later than the last time
abbrev pub invariant-loop-line : goal.invariant-loop-line
invariant-loop-line g l = record {
  can_next : (goal.iterator-loop-line g).can_next l.line-iterator;
  is_finite : (goal.iterator-loop-line g).is_finite l.line-iterator;
  last : l.port.last ≤ l.last;
}
