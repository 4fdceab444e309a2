use Rattle.tva_port.proofs.Common.{◌≡◌, ◌≤◌, max, ◌++◌, sym, ap, ◌∙◌, subst, arith, Offered, PacketData, MissesNone, answer_by, PortData, StandsFor, queued_by}
use Rattle.tva_port.proofs.Stocked.{hand_offered, has_hand, stocked_queued}
use Rattle.tva_port.proofs.port.Port.queue.Goals as goal

-- the answer with the packet that the hand holds
told : (c : goal.After-answer_by) → c.answer_by.result ≡ answer_by c.queue_from-answer.result c.queue_from-answer.new.hand
told c = c.answer_by.ensures ∙ ap (answer_by c.queue_from-answer.result) c.packet_of.ensures.packet

pub hand_of-hand-requires : goal.hand_of-hand-requires
hand_of-hand-requires c = has_hand c.self.inside.inner c.self.inside.stock c.self.invariant

pub invariant_of-self : goal.invariant_of-self
invariant_of-self c =
    stocked_queued c.self.inside.inner c.queue_from-answer.new.self c.args.now.0 c.args.class c.args.key c.args.packet
    (answer_by c.queue_from-answer.result c.queue_from-answer.new.hand) c.self.inside.stock c.packet_of.new.self c.self.invariant c.queue_from-answer.ensures.same.0
    (λ log s. c.queue_from-answer.ensures.answer log c.args.packet s c.hand_of-hand.ensures.packet)
    (λ log s. c.queue_from-answer.ensures.stands log c.args.packet s c.hand_of-hand.ensures.packet)
    (omega (arith, c.hand_of-hand.ensures.count, c.packet_of.ensures.count, hand_offered c.queue_from-answer.result c.queue_from-answer.new.hand c.queue_from-answer.ensures.held))
    (c.packet_of.ensures.room ∙ c.hand_of-hand.ensures.room)

pub returns-clause-missed : goal.returns-clause-missed
returns-clause-missed c log until s i m =
    subst (λ (a : Offered PacketData). MissesNone c.args.self.now.limits until (log ++ queued_by a c.args.now.0 c.args.class c.args.key c.args.packet)) (sym (told c))
    (subst (λ (v : PortData). StandsFor v log → until ≤ max c.args.now.0 v.free_at → MissesNone v.limits until log
    → MissesNone v.limits until (log ++ queued_by (answer_by c.queue_from-answer.result c.queue_from-answer.new.hand) c.args.now.0 c.args.class c.args.key c.args.packet)) c.self.view_is
    (λ t. c.queue_from-answer.ensures.missed log until c.args.packet t c.hand_of-hand.ensures.packet) s i m)
