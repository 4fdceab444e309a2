use Rattle.tva_router.proofs.Common.{◌≡◌, ◌≤◌, ◌++◌, Some, sym, ap, ◌∙◌, subst, RouterPlan, Decision, free_after, started_by, free-started, next_sized, ends_later, steady, rests_after, misses_after, outgoing_link, RouterData, router_data, StandsFor, StandForLogs, decision_by}
use Rattle.tva_port.proofs.Resting.{first_covered}
use Rattle.tva_port.proofs.Idling.{idles, waits_alone}
use Rattle.tva_router.proofs.Ports.{ports-later}
use Rattle.tva_router.proofs.Answers.{guard-later}
use Rattle.tva_router.proofs.Handled.{by-plan}
use Rattle.tva_router.proofs.Known.{known, free_then, due_then}
use Rattle.tva_router.proofs.hand_router.HandRouter.decide_into.Goals as goal

pub decide_on-requires-clause-ports : goal.decide_on-requires-clause-ports
decide_on-requires-clause-ports c =
    ports-later c.self.inside.plan.outgoing c.self.inside.last c.args.now.0 c.self.inside.ports.items
    (subst (λ (z : RouterData). z.last ≤ c.args.now.0) (sym c.self.view_is) c.requires.time) c.self.invariant.ports

pub returns-clause-decision : goal.returns-clause-decision
returns-clause-decision c h logs limits s f =
    c.decide_on.ensures.decision logs limits (subst (λ (z : RouterData). StandForLogs z.plan.outgoing z.ports logs) (sym c.self.view_is) s.links)
    (subst (λ (z : RouterData). outgoing_link z.plan c.args.link ≡ Some (c.args.link, limits)) (sym c.self.view_is) f)

pub returns-clause-stands : goal.returns-clause-stands
returns-clause-stands c h logs s =
    let stood : StandsFor (router_data c.self.inside.built c.self.inside.plan c.self.inside.last c.self.inside.guard.minter c.self.inside.guard.cache c.self.inside.ports.items) h logs =
    subst (λ (z : RouterData). StandsFor z h logs) (sym c.self.view_is) s in
    let le : c.self.inside.last ≤ c.args.now.0 = subst (λ (z : RouterData). z.last ≤ c.args.now.0) (sym c.self.view_is) c.requires.time in
    record {
      plan = by-plan c.self.inside.built c.self.inside.plan c.args.now.0 c.self.inside.guard c.self.inside.ways c.decide_on.new.ports.items
          (record {
            valid = c.self.invariant.valid;
            in_force = c.self.invariant.in_force;
            guard = guard-later c.self.inside.plan c.self.inside.last c.args.now.0 c.self.inside.guard le c.self.invariant.guard;
            ways = c.self.invariant.ways;
            ports = c.decide_on.ensures.ports;
          });
      charges = stood.charges;
      timely = stood.timely;
      links = c.decide_on.ensures.stands logs stood.links;
    }

pub returns-clause-idle : goal.returns-clause-idle
returns-clause-idle c h logs limits s f =
    let k = known c.args.self.now h logs c.args.link limits c.args.now.0 s f c.requires.time in
    idles limits (logs c.args.link) c.args.now.0 (decision_by c.decide_on.result c.decide_on.new.hand) k.valid k.legal (returns-clause-decision c h logs limits s f)

pub returns-clause-alone : goal.returns-clause-alone
returns-clause-alone c h logs limits u s f w =
    let k = known c.args.self.now h logs c.args.link limits c.args.now.0 s f c.requires.time in
    waits_alone limits (logs c.args.link) c.args.now.0 u k.valid k.legal (sym w ∙ (returns-clause-decision c h logs limits s f))

pub returns-clause-wait : goal.returns-clause-wait
returns-clause-wait c h logs limits u packet s f w n =
    let k = known c.args.self.now h logs c.args.link limits c.args.now.0 s f c.requires.time in
    let e = returns-clause-decision c h logs limits s f in
    first_covered limits (logs c.args.link) c.args.now.0 u packet k.valid k.legal k.later (next_sized limits (logs c.args.link) packet k.valid k.legal n) (sym w ∙ e) n

pub returns-clause-later : goal.returns-clause-later
returns-clause-later c h logs limits u s f w =
    let k = known c.args.self.now h logs c.args.link limits c.args.now.0 s f c.requires.time in
    ends_later limits (logs c.args.link) c.args.now.0 u k.valid k.legal k.later (sym w ∙ (returns-clause-decision c h logs limits s f))

pub returns-clause-steady : goal.returns-clause-steady
returns-clause-steady c h logs limits until time s f n i low high =
    let k = known c.args.self.now h logs c.args.link limits c.args.now.0 s f c.requires.time in
    let e = returns-clause-decision c h logs limits s f in
    steady limits (logs c.args.link) c.args.now.0 _ (decision_by c.decide_on.result c.decide_on.new.hand) until time k.valid k.legal k.later e n i low high

pub returns-clause-rests : goal.returns-clause-rests
returns-clause-rests c h logs limits until time s f i low high =
    let k = known c.args.self.now h logs c.args.link limits c.args.now.0 s f c.requires.time in
    let e = returns-clause-decision c h logs limits s f in
    let due = due_then (router_data c.self.inside.built c.self.inside.plan c.args.now.0 c.self.inside.guard.minter c.self.inside.guard.cache c.decide_on.new.ports.items) h logs c.args.link limits (decision_by c.decide_on.result c.decide_on.new.hand) c.args.now.0 until
    (returns-clause-stands c h logs s) (subst (λ (p : RouterPlan). outgoing_link p c.args.link ≡ Some (c.args.link, limits)) (sym (ap (λ (z : RouterData). z.plan) c.self.view_is)) f) i in
    rests_after limits (logs c.args.link) c.args.now.0 (decision_by c.decide_on.result c.decide_on.new.hand) until time k.legal k.later e due low high

pub returns-clause-missed : goal.returns-clause-missed
returns-clause-missed c h logs limits until s f m i =
    let k = known c.args.self.now h logs c.args.link limits c.args.now.0 s f c.requires.time in
    let e = returns-clause-decision c h logs limits s f in
    let due = due_then (router_data c.self.inside.built c.self.inside.plan c.args.now.0 c.self.inside.guard.minter c.self.inside.guard.cache c.decide_on.new.ports.items) h logs c.args.link limits (decision_by c.decide_on.result c.decide_on.new.hand) c.args.now.0 until
    (returns-clause-stands c h logs s) (subst (λ (p : RouterPlan). outgoing_link p c.args.link ≡ Some (c.args.link, limits)) (sym (ap (λ (z : RouterData). z.plan) c.self.view_is)) f) i in
    misses_after limits (logs c.args.link) c.args.now.0 (decision_by c.decide_on.result c.decide_on.new.hand) until k.legal k.later e m due

pub returns-clause-occupied : goal.returns-clause-occupied
returns-clause-occupied c h logs limits class packet s f e =
    free_then (router_data c.self.inside.built c.self.inside.plan c.args.now.0 c.self.inside.guard.minter c.self.inside.guard.cache c.decide_on.new.ports.items) h logs c.args.link limits (decision_by c.decide_on.result c.decide_on.new.hand) c.args.now.0
    (returns-clause-stands c h logs s) (subst (λ (p : RouterPlan). outgoing_link p c.args.link ≡ Some (c.args.link, limits)) (sym (ap (λ (z : RouterData). z.plan) c.self.view_is)) f)
    ∙ ap (λ (d : Decision). free_after limits (logs c.args.link ++ started_by d c.args.now.0)) e
    ∙ free-started limits 0 (logs c.args.link) c.args.now.0 class packet
