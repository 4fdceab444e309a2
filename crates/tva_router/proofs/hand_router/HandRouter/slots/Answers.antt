use Rattle.tva_router.proofs.Common.{◌≤◌, ℕ, sym, subst, arith, living_count, RouterData, router_data, StandsFor}
use Rattle.tva_router.proofs.hand_router.HandRouter.slots.Goals as goal

pub returns-clause-living : goal.returns-clause-living
returns-clause-living c h logs s now later =
    let stood : StandsFor (router_data c.self.inside.built c.self.inside.plan c.self.inside.last c.self.inside.guard.minter c.self.inside.guard.cache c.self.inside.ports.items) h logs =
    subst (λ (z : RouterData). StandsFor z h logs) (sym c.self.view_is) s in
    let last : c.self.inside.last ≤ now = subst (λ (z : RouterData). z.last ≤ now) (sym c.self.view_is) later in
    subst (λ (z : RouterData). living_count h now ≤ z.plan.slots) c.self.view_is
    (subst (λ (n : ℕ). living_count h now ≤ n) c.self.invariant.guard.slots
    (c.slots.ensures.living h stood.charges now (omega (arith, c.self.invariant.guard.charged, last))))
