use Rattle.tva_config.proofs.Common.{◌∙◌, ap, tagged_to, incoming_of}
use Rattle.tva_config.proofs.Longer.{picked_one, picked_none, picked_all, taken, skipped}
use Rattle.tva_config.proofs.plans.incoming.Goals.{then-link-node+in_ok-push, else-link-node}
use Rattle.tva_config.proofs.plans.incoming.Goals as goal

pub loop-i-preserved : goal.loop-i-preserved
loop-i-preserved c = elim c.if-link-node.branch [
  | then-link-node+in_ok-push w ↦ picked_one (tagged_to c.args.node) c.args.links.now c.loop-i.i _ _ c.loop-i.found.items c.if-link-node.found.items _
      c.loop-i-test.true (taken _ _ _ w.if-link-node.true) (ap (λ v. v.items) w.found-is ∙ w.in_ok-push.ensures.items) c.loop-i.invariant
  | else-link-node w ↦ picked_none (tagged_to c.args.node) c.args.links.now c.loop-i.i _ c.loop-i.found.items c.if-link-node.found.items _
      c.loop-i-test.true (skipped _ _ _ w.if-link-node.false) (ap (λ v. v.items) w.found-is) c.loop-i.invariant
]

pub returns : goal.returns
unfolding incoming_of
returns c = c.new.ensures ∙ picked_all (tagged_to c.args.node) c.args.links.now c.loop-i.i c.loop-i.found.items _ c.loop-i-test.false c.loop-i.invariant
