use Rattle.tva_port.proofs.Common.{◌≡◌, ◌≤◌, ℕ, max, false, sym, ap, ◌∙◌, subst, arith, Offered, PacketData, waiting, is_queued, PortData, answer_by}
use Rattle.tva_port.proofs.Hands.{by_packet, IsOf, kept, of_queue}
use Rattle.tva_port.proofs.Standing.{answered, stands_by_queue, refused_leaves, sound-later}
use Rattle.tva_port.proofs.Logs.{later-weaker}
use Rattle.tva_port.proofs.Steady.{misses_offered}
use Rattle.tva_port.proofs.hand_port.HandPort.queue_from.Goals as goal

pub returns-clause-answer : goal.returns-clause-answer
returns-clause-answer c log packet s held =
    answered _ c.args.self.now log _ c.args.class c.args.key packet c.self.view_is s
    (c.put.ensures.answer packet c.self.inside.limits held (sym c.self.invariant.places) (sym c.self.invariant.most))

pub returns-clause-left : goal.returns-clause-left
returns-clause-left c packet held =
    kept c.put.result c.put.new.hand packet c.put.ensures.held
    (subst (λ (a : Offered PacketData). IsOf packet a) (sym (c.put.ensures.answer packet c.self.inside.limits held (sym c.self.invariant.places) (sym c.self.invariant.most)))
    (of_queue c.self.inside.limits (waiting c.self.inside.requests c.self.inside.regulars c.self.inside.legacy.packets) c.args.class c.args.key packet))

pub returns-clause-stands : goal.returns-clause-stands
returns-clause-stands c log packet s held =
    stands_by_queue _ c.args.self.now log c.args.now.0 c.grow-self-inside.result _ _ c.args.class c.args.key packet c.self.view_is s c.requires.time
    c.grow-self-inside.ensures (c.put.ensures.sized packet held)
    (c.put.ensures.answer packet c.self.inside.limits held (sym c.self.invariant.places) (sym c.self.invariant.most))
    (c.put.ensures.left packet c.self.inside.limits held (sym c.self.invariant.places) (sym c.self.invariant.most))

pub returns-clause-refused : goal.returns-clause-refused
returns-clause-refused c e =
    by_packet c.args.hand.now c.requires.held (λ packet held.
    c.put.ensures.left packet c.self.inside.limits held (sym c.self.invariant.places) (sym c.self.invariant.most)
    ∙ (refused_leaves c.self.inside.limits _ c.args.class c.args.key packet
    (subst (λ (a : Offered PacketData). is_queued a ≡ false) (c.put.ensures.answer packet c.self.inside.limits held (sym c.self.invariant.places) (sym c.self.invariant.most)) e)
    ∙ ap (λ (z : PortData). z.waiting) c.self.view_is))

pub returns-clause-missed : goal.returns-clause-missed
returns-clause-missed c log until packet s held i m =
    misses_offered c.args.self.now.limits log c.args.now.0 until (answer_by c.put.result c.put.new.hand) c.args.class c.args.key packet
    (later-weaker c.args.self.now.last c.args.now.0 log c.requires.time s.past)
    (subst (λ (n : ℕ). until ≤ max c.args.now.0 n) s.free i)
    m

pub invariant_of-self : goal.invariant_of-self
invariant_of-self c =
    sound-later c.self.inside.limits _ _ _ c.args.now.0 _ _ _ _ _ _ _ _ c.self.invariant
    (omega (arith, c.grow-self-inside.ensures)) (omega (arith, c.self.invariant.soon, c.requires.time, ap (λ (z : PortData). z.last) c.self.view_is))
    c.put.ensures.requests c.put.ensures.regulars c.put.ensures.legacy
