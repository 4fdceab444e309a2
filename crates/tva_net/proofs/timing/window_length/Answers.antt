use Rattle.tva_net.proofs.Common.{◌+◌}
use Rattle.tva_net.proofs.Delays.{least_next}
use Rattle.tva_net.proofs.timing.window_length.Goals as goal

pub loop-link-preserved : goal.loop-link-preserved
loop-link-preserved c =
    least_next (c.args.horizon.0 + 1) c.args.links.now c.loop-link.link-index _ c.loop-link.least c.min-least.result c.loop-link-test.true c.min-least.ensures c.loop-link.invariant
