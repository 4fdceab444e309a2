use Rattle.tva_config.proofs.Common.{◌∙◌, ap, if_restart, restarts_at}
use Rattle.tva_config.proofs.Longer.{mapped_one, mapped_none, mapped_all, taken, skipped}
use Rattle.tva_config.proofs.plans.restarts_at.Goals.{then-restart-router+in_ok-push, else-restart-router}
use Rattle.tva_config.proofs.plans.restarts_at.Goals as goal

pub loop-restart-preserved : goal.loop-restart-preserved
loop-restart-preserved c = elim c.if-restart-router.branch [
  | then-restart-router+in_ok-push w ↦ mapped_one (if_restart c.args.router) c.args.restarts.now c.loop-restart.restart-index _ _ c.loop-restart.found.items c.if-restart-router.found.items _
      c.loop-restart-test.true (taken _ _ _ w.if-restart-router.true) (ap (λ v. v.items) w.found-is ∙ w.in_ok-push.ensures.items) c.loop-restart.invariant
  | else-restart-router w ↦ mapped_none (if_restart c.args.router) c.args.restarts.now c.loop-restart.restart-index _ c.loop-restart.found.items c.if-restart-router.found.items _
      c.loop-restart-test.true (skipped _ _ _ w.if-restart-router.false) (ap (λ v. v.items) w.found-is) c.loop-restart.invariant
]

pub returns : goal.returns
unfolding restarts_at
returns c = c.new.ensures ∙ mapped_all (if_restart c.args.router) c.args.restarts.now c.loop-restart.restart-index c.loop-restart.found.items _ c.loop-restart-test.false c.loop-restart.invariant
