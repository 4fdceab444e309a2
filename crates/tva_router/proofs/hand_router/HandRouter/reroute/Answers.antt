use Rattle.tva_router.proofs.Common.{◌≤◌, List, sym, subst, Contains, changed_plan, links_of, Route, RouterData, StandsFor, IsSound}
use Rattle.tva_router.proofs.Changed.{rerouted_sound, rerouted_stands}
use Rattle.tva_router.proofs.hand_router.HandRouter.reroute.Goals as goal

pub invariant_of-self : goal.invariant_of-self
invariant_of-self c =
    subst (λ (z : List Route). IsSound c.self.inside.built (changed_plan c.self.inside.plan.master z c.self.inside.plan) c.args.now.0 c.self.inside.guard c.self.inside.ways c.self.inside.ports.items) (sym c.reroute.ensures)
    (rerouted_sound c.self.inside.built c.self.inside.plan c.self.inside.last c.args.now.0 c.self.inside.guard c.self.inside.ways c.self.inside.ports.items c.args.prefix c.args.link
    (subst (λ (z : RouterData). z.last ≤ c.args.now.0) (sym c.self.view_is) c.requires.time)
    (subst (λ (z : RouterData). Contains (links_of z.plan.outgoing) c.args.link) (sym c.self.view_is) c.requires.link) c.self.invariant)

pub returns-clause-stands : goal.returns-clause-stands
returns-clause-stands c h logs s =
    rerouted_stands c.self.inside.built c.self.inside.plan c.self.inside.last c.args.now.0 c.self.inside.guard c.self.inside.ways c.self.inside.ports.items c.reroute.new.routes h logs
    (subst (λ (z : RouterData). StandsFor z h logs) (sym c.self.view_is) s) (invariant_of-self c)
