use Rattle.tva_port.proofs.Common.{ℕ, ap, ◌∙◌, PacketData, packet_length, inner_key_of, Hier, answer_to_offer, left_by_offer}
use Rattle.tva_port.proofs.Hands.{same_packet}
use Rattle.tva_port.proofs.Limits.{left_same}
use Rattle.tva_port.proofs.requests.offer_within.Goals as goal

pub returns-clause-answer : goal.returns-clause-answer
returns-clause-answer c packet held =
    let same = same_packet c.args.hand.now c.take_held-held.result packet c.take_held-held.ensures.packet held in
    c.back_into.ensures.answer
    ∙ (c.offer.ensures.answer
    ∙ (ap (λ (i : ℕ). answer_to_offer packet_length c.args.queues.now c.args.key i c.take_held-held.result) (c.inner_key_in-inner.ensures packet held)
    ∙ ap (λ (p : PacketData). answer_to_offer packet_length c.args.queues.now c.args.key (inner_key_of packet) p) same))

pub returns-clause-left : goal.returns-clause-left
returns-clause-left c packet held =
    let same = same_packet c.args.hand.now c.take_held-held.result packet c.take_held-held.ensures.packet held in
    c.offer.ensures.left
    ∙ (ap (λ (i : ℕ). left_by_offer packet_length c.args.queues.now c.args.key i c.take_held-held.result) (c.inner_key_in-inner.ensures packet held)
    ∙ ap (λ (p : PacketData). left_by_offer packet_length c.args.queues.now c.args.key (inner_key_of packet) p) same)

pub returns-clause-limits : goal.returns-clause-limits
returns-clause-limits c =
    ap (λ (h : Hier PacketData). h.limits) c.offer.ensures.left
    ∙ (left_same c.args.queues.now c.args.key c.inner_key_in-inner.result c.take_held-held.result).0
