use Rattle.tva_node.proofs.Common.{rules, ◌<◌, ◌+◌, ◌-◌, ◌/◌, length, arith}
use Rattle.tva_node.proofs.Asked.{high_from, low_to}
use Rattle.tva_node.proofs.links.rank_of.Goals as goal

pub loop-low-preserved-then-index-number : goal.loop-low-preserved-then-index-number
loop-low-preserved-then-index-number c =
    let low = c.loop-low.low in
    let high = c.loop-low.high in
    let half : (high - low) / 2 < high - low = search rules in
    let within = c.loop-low.invariant.within in
    let here : low + (high - low) / 2 < length c.args.links.now.items = omega (arith, half, within.1) in
    record {
      within = (omega (arith, half), within.1);
      before = low_to c.args.number (low + (high - low) / 2) c.args.links.now.items c.index.result.now c.requires here c.index.ensures c.if-index-number.true;
      behind = c.loop-low.invariant.behind;
    }

pub loop-low-preserved : goal.loop-low-preserved
loop-low-preserved c =
    let low = c.loop-low.low in
    let high = c.loop-low.high in
    let half : (high - low) / 2 < high - low = search rules in
    let within = c.loop-low.invariant.within in
    let here : low + (high - low) / 2 < length c.args.links.now.items = omega (arith, half, within.1) in
    record {
      within = (omega arith, omega (arith, here));
      before = c.loop-low.invariant.before;
      behind = high_from c.args.number (low + (high - low) / 2) c.args.links.now.items c.index.result.now c.requires here c.index.ensures c.if-index-number.false;
    }
