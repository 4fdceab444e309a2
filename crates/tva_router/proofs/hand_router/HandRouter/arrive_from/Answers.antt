use Rattle.tva_router.proofs.Common.{◌≡◌, ◌≤◌, ◌++◌, sym, subst, handle, kept_after, RouterData, router_data, StandsFor, ◌with◌}
use Rattle.tva_router.proofs.Handled.{stands-uncharged}
use Rattle.tva_router.proofs.Known.{known, missed_handled}
use Rattle.tva_router.proofs.hand_router.HandRouter.arrive_from.Goals as goal

pub arrive_in-requires-clause-sound : goal.arrive_in-requires-clause-sound
arrive_in-requires-clause-sound c =
    (c.self.inside.built, c.self.inside.last, subst (λ (z : RouterData). z.last ≤ c.args.now.0) (sym c.self.view_is) c.requires.time, c.self.invariant)

pub invariant_of-self : goal.invariant_of-self
invariant_of-self c =
    c.arrive_in.ensures.sound c.self.inside.built c.self.inside.last (subst (λ (z : RouterData). z.last ≤ c.args.now.0) (sym c.self.view_is) c.requires.time) c.self.invariant

pub returns-clause-fate : goal.returns-clause-fate
returns-clause-fate c h logs packet s held =
    subst (λ (z : RouterData). c.arrive_in.result ≡ (handle z.plan h logs c.args.now.0 c.args.from packet).fate) c.self.view_is
    (c.arrive_in.ensures.fate c.self.inside.built c.self.inside.last h logs packet (subst (λ (z : RouterData). z.last ≤ c.args.now.0) (sym c.self.view_is) c.requires.time) c.self.invariant
    (subst (λ (z : RouterData). StandsFor z h logs) (sym c.self.view_is) s) held)

pub returns-clause-stands : goal.returns-clause-stands
returns-clause-stands c h logs packet s held =
    subst (λ (z : RouterData). StandsFor (router_data c.self.inside.built c.self.inside.plan c.args.now.0 c.arrive_in.new.guard.minter c.arrive_in.new.guard.cache c.arrive_in.new.ports.items)
    (h ++ (handle z.plan h logs c.args.now.0 c.args.from packet).charges) (logs with (handle z.plan h logs c.args.now.0 c.args.from packet).queued)) c.self.view_is
    (c.arrive_in.ensures.stands c.self.inside.built c.self.inside.last h logs packet (subst (λ (z : RouterData). z.last ≤ c.args.now.0) (sym c.self.view_is) c.requires.time) c.self.invariant
    (subst (λ (z : RouterData). StandsFor z h logs) (sym c.self.view_is) s) held)

pub returns-clause-uncharged : goal.returns-clause-uncharged
returns-clause-uncharged c h logs packet s held none =
    stands-uncharged _ c.args.self.now.plan h logs _ c.args.now.0 c.args.from packet _
    (returns-clause-fate c h logs packet s held) (returns-clause-stands c h logs packet s held) none

pub returns-clause-missed : goal.returns-clause-missed
returns-clause-missed c h logs link until limits packet s held f i m =
    missed_handled c.args.self.now.plan h logs c.args.now.0 c.args.from packet link until limits (known c.args.self.now h logs link limits c.args.now.0 s f c.requires.time).later i m

pub returns-clause-left : goal.returns-clause-left
returns-clause-left c h logs packet s held =
    subst (λ (z : RouterData). c.arrive_in.new.hand ≡ kept_after c.arrive_in.result.outcome (handle z.plan h logs c.args.now.0 c.args.from packet).onward) c.self.view_is
    (c.arrive_in.ensures.left c.self.inside.built c.self.inside.last h logs packet (subst (λ (z : RouterData). z.last ≤ c.args.now.0) (sym c.self.view_is) c.requires.time) c.self.invariant
    (subst (λ (z : RouterData). StandsFor z h logs) (sym c.self.view_is) s) held)
