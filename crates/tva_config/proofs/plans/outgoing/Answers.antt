use Rattle.tva_config.proofs.Common.{◌∙◌, ap, limited_from, outgoing_of}
use Rattle.tva_config.proofs.Longer.{picked_one, picked_none, picked_all, taken, skipped}
use Rattle.tva_config.proofs.plans.outgoing.Goals.{then-link-node+in_ok-push, else-link-node}
use Rattle.tva_config.proofs.plans.outgoing.Goals as goal

pub loop-i-preserved : goal.loop-i-preserved
loop-i-preserved c = elim c.if-link-node.branch [
  | then-link-node+in_ok-push w ↦ picked_one (limited_from c.args.node) c.args.links.now c.loop-i.i _ _ c.loop-i.found.items c.if-link-node.found.items _
      c.loop-i-test.true (taken _ _ _ w.if-link-node.true) (ap (λ v. v.items) w.found-is ∙ w.in_ok-push.ensures.items) c.loop-i.invariant
  | else-link-node w ↦ picked_none (limited_from c.args.node) c.args.links.now c.loop-i.i _ c.loop-i.found.items c.if-link-node.found.items _
      c.loop-i-test.true (skipped _ _ _ w.if-link-node.false) (ap (λ v. v.items) w.found-is) c.loop-i.invariant
]

pub returns : goal.returns
unfolding outgoing_of
returns c = c.new.ensures ∙ picked_all (limited_from c.args.node) c.args.links.now c.loop-i.i c.loop-i.found.items _ c.loop-i-test.false c.loop-i.invariant
