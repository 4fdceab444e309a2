use Rattle.tva_config.proofs.Common.{◌∙◌, ap, if_owned, routes_at}
use Rattle.tva_config.proofs.Longer.{mapped_one, mapped_none, mapped_all, taken, skipped}
use Rattle.tva_config.proofs.plans.routes_at.Goals.{then-owned-router+in_ok-push, else-owned-router}
use Rattle.tva_config.proofs.plans.routes_at.Goals as goal

pub loop-owned-preserved : goal.loop-owned-preserved
loop-owned-preserved c = elim c.if-owned-router.branch [
  | then-owned-router+in_ok-push w ↦ mapped_one (if_owned c.args.router) c.args.routes.now c.loop-owned.owned-index _ _ c.loop-owned.found.items c.if-owned-router.found.items _
      c.loop-owned-test.true (taken _ _ _ w.if-owned-router.true) (ap (λ v. v.items) w.found-is ∙ w.in_ok-push.ensures.items) c.loop-owned.invariant
  | else-owned-router w ↦ mapped_none (if_owned c.args.router) c.args.routes.now c.loop-owned.owned-index _ c.loop-owned.found.items c.if-owned-router.found.items _
      c.loop-owned-test.true (skipped _ _ _ w.if-owned-router.false) (ap (λ v. v.items) w.found-is) c.loop-owned.invariant
]

pub returns : goal.returns
unfolding routes_at
returns c = c.new.ensures ∙ mapped_all (if_owned c.args.router) c.args.routes.now c.loop-owned.owned-index c.loop-owned.found.items _ c.loop-owned-test.false c.loop-owned.invariant
