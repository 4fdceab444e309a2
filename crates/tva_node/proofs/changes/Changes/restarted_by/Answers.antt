use Rattle.tva_node.proofs.Common.{[], arith}
use Rattle.tva_node.proofs.Making.{restart_more}
use Rattle.tva_node.proofs.changes.Changes.restarted_by.Goals as goal

pub loop-self-preserved : goal.loop-self-preserved
loop-self-preserved c = record {
  passed = restart_more c.args.restarts.now c.args.now.0 c.args.self.now.boot c.loop-self.self.boot c.loop-self.master (record { 0 = 0 }, []) c.loop-self.invariant.passed
      (omega (arith, c.loop-self-test.true, c.if-restarts-self.true)) (omega (arith, c.loop-self-test.true, c.if-restarts-self.true));
  same = c.loop-self.invariant.same;
}
