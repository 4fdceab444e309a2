use Rattle.tva_node.proofs.Common.{length, ◌-◌, restart_time, IsNextLater, StandsOn}
use Rattle.tva_node.proofs.role.Routed.change.Given as goal

abbrev pub invariant-loop-now : goal.invariant-loop-now
invariant-loop-now l = record {
  goes : StandsOn l.now.0 l.fn.self l.self;
  next : IsNextLater restart_time l.self.router.built.restarts l.self.changes.boot l.now.0;
}

abbrev pub decreases-loop-now : goal.decreases-loop-now
decreases-loop-now l = length l.self.changes.moves.items - l.self.changes.moved
