use Rattle.tva_router.proofs.Common.{◌≤◌, subst, living_count, RouterData, StandsFor}
use Rattle.tva_router.proofs.router.Router.slots.Goals as goal

pub returns-clause-living : goal.returns-clause-living
returns-clause-living c h logs s now later =
    subst (λ (v : RouterData). StandsFor v h logs → v.last ≤ now → living_count h now ≤ v.plan.slots) c.self.view_is
    (λ t le. c.slots.ensures.living h logs t now le) s later
