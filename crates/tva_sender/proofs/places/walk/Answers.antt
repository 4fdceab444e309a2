use Rattle.tva_sender.proofs.Common.{◌%◌, eqb, suc, refl, sym, ◌∙◌, arith}
use Rattle.tva_sender.proofs.Tree.{walk-next}
use Rattle.tva_sender.proofs.places.walk.Goals as goal

pub steps-smaller : goal.steps-smaller
steps-smaller c =
    let k = walk-next c.args.nodes.now.items c.requires.tree c.args.address c.steps.invariant.there.0 c.steps.at c.steps.bits c.in_Some-next.next (eqb (c.steps.bits % 2) 1) c.index.result.now c.steps.invariant.within c.index.ensures c.steps.invariant.there.1 c.steps.invariant.there.2 c.if-node-address.false refl (sym c.branch-next.ensures ∙ c.in_Some-next.is) in
    omega (arith, k.2, k.3)

pub steps-preserved : goal.steps-preserved
steps-preserved c =
    let there = c.steps.invariant.there in
    let k = walk-next c.args.nodes.now.items c.requires.tree c.args.address there.0 c.steps.at c.steps.bits c.in_Some-next.next (eqb (c.steps.bits % 2) 1) c.index.result.now c.steps.invariant.within c.index.ensures there.1 there.2 c.if-node-address.false refl (sym c.branch-next.ensures ∙ c.in_Some-next.is) in
    record { within = k.3; there = (suc there.0, k.0, k.1) }
