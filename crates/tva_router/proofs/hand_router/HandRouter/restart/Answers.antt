use Rattle.tva_router.proofs.Common.{◌≤◌, sym, subst, RouterData, StandsFor}
use Rattle.tva_router.proofs.Changed.{restarted_sound, restarted_stands}
use Rattle.tva_router.proofs.hand_router.HandRouter.restart.Goals as goal

pub invariant_of-self : goal.invariant_of-self
invariant_of-self c =
    restarted_sound c.self.inside.built c.self.inside.plan c.self.inside.last c.args.now.0 c.self.inside.guard c.restart.new.self c.self.inside.ways c.self.inside.ports.items c.args.master
    (subst (λ (z : RouterData). z.last ≤ c.args.now.0) (sym c.self.view_is) c.requires) c.self.invariant (c.restart.ensures.guard c.self.inside.last c.self.invariant.guard)

pub returns-clause-stands : goal.returns-clause-stands
returns-clause-stands c h logs s =
    restarted_stands c.self.inside.built c.self.inside.plan c.self.inside.last c.args.now.0 c.self.inside.guard c.restart.new.self c.self.inside.ways c.self.inside.ports.items c.args.master h logs
    (subst (λ (z : RouterData). StandsFor z h logs) (sym c.self.view_is) s) (invariant_of-self c) c.restart.ensures.stands
