use Rattle.tva_router.proofs.Common.{◌≡◌, ◌≢◌, ◌+◌, ◌*◌, ◌++◌, ◌↔◌, Some, None, sym, ap, ◌∙◌, subst, arith, PacketData, packet_length, Decision, started_by, NoneDueBefore, RestsAt, IsFirstCovered, decision_by, waiting_after, IsEmpty, IsRequestAlone, hand_decided, outgoing_link, RouterData, StandsFor, free_of, started_on, ◌with◌}
use Rattle.tva_port.specs.declared.decision.Decision.TheVariants.{Idle}
use Rattle.tva_router.proofs.Stocked.{has_room, stocked_decided}
use Rattle.tva_router.proofs.router.Router.decide.Goals as goal

-- the decision with the packet that was put into the hand
told : (c : goal.After-decision_by) → c.decision_by.result ≡ decision_by c.decide_into-next.result c.decide_into-next.new.hand
told c = c.decision_by.ensures ∙ ap (decision_by c.decide_into-next.result) c.packet_of.ensures.packet

pub packet_of-requires : goal.packet_of-requires
packet_of-requires c = omega (
  arith,
  hand_decided c.decide_into-next.result c.decide_into-next.new.hand c.decide_into-next.ensures.held,
  has_room c.self.inside.inner c.args.now.0 c.args.link (decision_by c.decide_into-next.result c.decide_into-next.new.hand) c.self.inside.stock c.self.invariant
      (subst (λ (v : RouterData). outgoing_link v.plan c.args.link ≢ None) (sym c.self.view_is) c.requires.outgoing) c.decide_into-next.ensures.decision,
)

pub invariant_of-self : goal.invariant_of-self
invariant_of-self c =
    stocked_decided c.self.inside.inner c.decide_into-next.new.self c.args.now.0 c.args.link (decision_by c.decide_into-next.result c.decide_into-next.new.hand)
    c.self.inside.stock c.packet_of.new.self c.self.invariant c.decide_into-next.ensures.same
    (subst (λ (v : RouterData). outgoing_link v.plan c.args.link ≢ None) (sym c.self.view_is) c.requires.outgoing) c.decide_into-next.ensures.decision c.decide_into-next.ensures.stands
    (omega (arith, c.packet_of.ensures.count, hand_decided c.decide_into-next.result c.decide_into-next.new.hand c.decide_into-next.ensures.held))
    c.packet_of.ensures.room

pub returns-clause-stands : goal.returns-clause-stands
returns-clause-stands c h logs s =
    subst (λ (d : Decision). StandsFor c.decide_into-next.new.self h (logs with started_on c.args.link d c.args.now.0)) (sym (told c))
    (subst (λ (v : RouterData). StandsFor v h logs
    → StandsFor c.decide_into-next.new.self h (logs with started_on c.args.link (decision_by c.decide_into-next.result c.decide_into-next.new.hand) c.args.now.0)) c.self.view_is
    (c.decide_into-next.ensures.stands h logs) s)

pub returns-clause-idle : goal.returns-clause-idle
returns-clause-idle c h logs limits s f =
    subst (λ (d : Decision). (d ≡ Idle) ↔ IsEmpty (waiting_after limits (logs c.args.link))) (sym (told c))
    (subst (λ (v : RouterData). StandsFor v h logs → outgoing_link v.plan c.args.link ≡ Some (c.args.link, limits)
    → (decision_by c.decide_into-next.result c.decide_into-next.new.hand ≡ Idle) ↔ IsEmpty (waiting_after limits (logs c.args.link))) c.self.view_is
    (c.decide_into-next.ensures.idle h logs limits) s f)

pub returns-clause-alone : goal.returns-clause-alone
returns-clause-alone c h logs limits u s f e =
    subst (λ (v : RouterData). StandsFor v h logs → outgoing_link v.plan c.args.link ≡ Some (c.args.link, limits)
    → (packet : PacketData) × IsRequestAlone (waiting_after limits (logs c.args.link)) packet) c.self.view_is
    (λ t g. c.decide_into-next.ensures.alone h logs limits u t g (sym (told c) ∙ e)) s f

pub returns-clause-wait : goal.returns-clause-wait
returns-clause-wait c h logs limits u packet s f e n =
    subst (λ (v : RouterData). StandsFor v h logs → outgoing_link v.plan c.args.link ≡ Some (c.args.link, limits)
    → IsFirstCovered limits (logs c.args.link) packet c.args.now.0 u.0) c.self.view_is
    (λ t g. c.decide_into-next.ensures.wait h logs limits u packet t g (sym (told c) ∙ e) n) s f

pub returns-clause-rests : goal.returns-clause-rests
returns-clause-rests c h logs limits until time s f i low high =
    subst (λ (d : Decision). NoneDueBefore d (free_of c.decide_into-next.new.self c.args.link) until → RestsAt limits (logs c.args.link ++ started_by d c.args.now.0) time) (sym (told c))
    (λ n. subst (λ (v : RouterData). StandsFor v h logs → outgoing_link v.plan c.args.link ≡ Some (c.args.link, limits)
    → RestsAt limits (logs c.args.link ++ started_by (decision_by c.decide_into-next.result c.decide_into-next.new.hand) c.args.now.0) time) c.self.view_is
    (λ t g. c.decide_into-next.ensures.rests h logs limits until time t g n low high) s f) i

pub returns-clause-occupied : goal.returns-clause-occupied
returns-clause-occupied c h logs limits class packet s f e =
    subst (λ (v : RouterData). StandsFor v h logs → outgoing_link v.plan c.args.link ≡ Some (c.args.link, limits)
    → free_of c.decide_into-next.new.self c.args.link ≡ c.args.now.0 + packet_length packet * limits.ns_per_byte) c.self.view_is
    (λ t g. c.decide_into-next.ensures.occupied h logs limits class packet t g (sym (told c) ∙ e)) s f
