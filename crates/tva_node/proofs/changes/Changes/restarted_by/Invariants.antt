use Rattle.tva_node.proofs.Common.{length, ◌-◌, ◌≡◌, IsRestarted}
use Rattle.tva_node.proofs.changes.Changes.restarted_by.Given as goal

abbrev pub invariant-loop-self : goal.invariant-loop-self
invariant-loop-self l = record {
  passed : IsRestarted l.restarts l.now.0 l.fn.self.boot l.self.boot l.master;
  same : (l.self.moves ≡ l.fn.self.moves) × (l.self.moved ≡ l.fn.self.moved);
}

abbrev pub decreases-loop-self : goal.decreases-loop-self
decreases-loop-self l = length l.restarts - l.self.boot
