use Rattle.tva_port.proofs.Common.{◌≡◌, ◌<◌, ◌+◌, ◌*◌, ◌++◌, Some, sym, ap, ◌∙◌, subst, arith, Request, Regular, PacketData, packet_length, Decision, request_bound, regular_bound, AreServed, started_by, MissesNone, NoneDueBefore, IsFirstCovered, decision_by, PortData, StandsFor, next_request, IsRequestAlone}
use Rattle.tva_port.proofs.Stocked.{hand_decided, has_room, stocked_decided}
use Rattle.tva_port.proofs.port.Port.decide.Goals as goal

-- the decision with the packet that was put into the hand
told : (c : goal.After-decision_by) → c.decision_by.result ≡ decision_by c.decide_into-next.result c.decide_into-next.new.hand
told c = c.decision_by.ensures ∙ ap (decision_by c.decide_into-next.result) c.packet_of.ensures.packet

pub packet_of-requires : goal.packet_of-requires
packet_of-requires c = omega (
  arith,
  hand_decided c.decide_into-next.result c.decide_into-next.new.hand c.decide_into-next.ensures.held,
  has_room c.self.inside.inner c.args.now.0 (decision_by c.decide_into-next.result c.decide_into-next.new.hand) c.self.inside.stock c.self.invariant c.decide_into-next.ensures.decision,
)

pub invariant_of-self : goal.invariant_of-self
invariant_of-self c =
    stocked_decided c.self.inside.inner c.decide_into-next.new.self c.args.now.0 (decision_by c.decide_into-next.result c.decide_into-next.new.hand)
    c.self.inside.stock c.packet_of.new.self c.self.invariant c.decide_into-next.ensures.same c.decide_into-next.ensures.decision c.decide_into-next.ensures.stands
    (omega (arith, c.packet_of.ensures.count, hand_decided c.decide_into-next.result c.decide_into-next.new.hand c.decide_into-next.ensures.held))
    c.packet_of.ensures.room

pub returns-clause-alone : goal.returns-clause-alone
returns-clause-alone c log u s e =
    subst (λ (v : PortData). StandsFor v log → (packet : PacketData) × IsRequestAlone v.waiting packet) c.self.view_is
    (λ t. c.decide_into-next.ensures.alone log u t (sym (told c) ∙ e)) s

pub returns-clause-wait : goal.returns-clause-wait
returns-clause-wait c log u packet s e n =
    subst (λ (v : PortData). StandsFor v log → next_request v.waiting ≡ Some packet → IsFirstCovered v.limits log packet c.args.now.0 u.0) c.self.view_is
    (λ t m. c.decide_into-next.ensures.wait log u packet t (sym (told c) ∙ e) m) s n

pub returns-clause-later : goal.returns-clause-later
returns-clause-later c log u s e =
    subst (λ (v : PortData). StandsFor v log → c.args.now.0 < u.0) c.self.view_is
    (λ t. c.decide_into-next.ensures.later log u t (sym (told c) ∙ e)) s

pub returns-clause-missed : goal.returns-clause-missed
returns-clause-missed c log until s m i =
    subst (λ (d : Decision). NoneDueBefore d c.decide_into-next.new.self.free_at until → MissesNone c.args.self.now.limits until (log ++ started_by d c.args.now.0)) (sym (told c))
    (subst (λ (v : PortData). StandsFor v log → MissesNone v.limits c.args.now.0 log
    → NoneDueBefore (decision_by c.decide_into-next.result c.decide_into-next.new.hand) c.decide_into-next.new.self.free_at until
    → MissesNone v.limits until (log ++ started_by (decision_by c.decide_into-next.result c.decide_into-next.new.hand) c.args.now.0)) c.self.view_is
    (c.decide_into-next.ensures.missed log until) s m) i

pub returns-clause-served : goal.returns-clause-served
returns-clause-served c log s m =
    subst (λ (d : Decision). AreServed c.args.self.now.limits Request (request_bound c.args.self.now.limits) c.args.now.0 (log ++ started_by d c.args.now.0)
    × AreServed c.args.self.now.limits Regular (regular_bound c.args.self.now.limits) c.args.now.0 (log ++ started_by d c.args.now.0)) (sym (told c))
    (subst (λ (v : PortData). StandsFor v log → MissesNone v.limits c.args.now.0 log
    → AreServed v.limits Request (request_bound v.limits) c.args.now.0 (log ++ started_by (decision_by c.decide_into-next.result c.decide_into-next.new.hand) c.args.now.0)
    × AreServed v.limits Regular (regular_bound v.limits) c.args.now.0 (log ++ started_by (decision_by c.decide_into-next.result c.decide_into-next.new.hand) c.args.now.0)) c.self.view_is
    (c.decide_into-next.ensures.served log) s m)

pub returns-clause-occupied : goal.returns-clause-occupied
returns-clause-occupied c class packet e =
    subst (λ (v : PortData). c.decide_into-next.new.self.free_at ≡ c.args.now.0 + packet_length packet * v.limits.ns_per_byte) c.self.view_is
    (c.decide_into-next.ensures.occupied class packet (sym (told c) ∙ e))
