use Rattle.tva_config.proofs.Common.{◌∙◌, ap, if_reroute, reroutes_at}
use Rattle.tva_config.proofs.Longer.{mapped_one, mapped_none, mapped_all, taken, skipped}
use Rattle.tva_config.proofs.plans.reroutes_at.Goals.{then-reroute-router+in_ok-push, else-reroute-router}
use Rattle.tva_config.proofs.plans.reroutes_at.Goals as goal

pub loop-reroute-preserved : goal.loop-reroute-preserved
loop-reroute-preserved c = elim c.if-reroute-router.branch [
  | then-reroute-router+in_ok-push w ↦ mapped_one (if_reroute c.args.router) c.args.reroutes.now c.loop-reroute.reroute-index _ _ c.loop-reroute.found.items c.if-reroute-router.found.items _
      c.loop-reroute-test.true (taken _ _ _ w.if-reroute-router.true) (ap (λ v. v.items) w.found-is ∙ w.in_ok-push.ensures.items) c.loop-reroute.invariant
  | else-reroute-router w ↦ mapped_none (if_reroute c.args.router) c.args.reroutes.now c.loop-reroute.reroute-index _ c.loop-reroute.found.items c.if-reroute-router.found.items _
      c.loop-reroute-test.true (skipped _ _ _ w.if-reroute-router.false) (ap (λ v. v.items) w.found-is) c.loop-reroute.invariant
]

pub returns : goal.returns
unfolding reroutes_at
returns c = c.new.ensures ∙ mapped_all (if_reroute c.args.router) c.args.reroutes.now c.loop-reroute.reroute-index c.loop-reroute.found.items _ c.loop-reroute-test.false c.loop-reroute.invariant
