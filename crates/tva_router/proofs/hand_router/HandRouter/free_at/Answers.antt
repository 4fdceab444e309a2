use Rattle.tva_router.proofs.Common.{◌≡◌, Some, sym, ◌∙◌, subst, outgoing_link, RouterData, router_data, StandsFor}
use Rattle.tva_router.proofs.Known.{free_is}
use Rattle.tva_router.proofs.hand_router.HandRouter.free_at.Goals as goal

pub returns-clause-free : goal.returns-clause-free
returns-clause-free c h logs limits s f =
    c.free_on.ensures.value
    ∙ free_is (router_data c.self.inside.built c.self.inside.plan c.self.inside.last c.self.inside.guard.minter c.self.inside.guard.cache c.self.inside.ports.items) h logs c.args.link limits
    (subst (λ (z : RouterData). StandsFor z h logs) (sym c.self.view_is) s)
    (subst (λ (z : RouterData). outgoing_link z.plan c.args.link ≡ Some (c.args.link, limits)) (sym c.self.view_is) f)
