use Rattle.tva_router.proofs.Common.{sym, ap, ◌∙◌, arith, Outcome, answer_by, kept_by, kept_after}
use Rattle.tva_router.proofs.Ports.{ports-length, port-get, ports-set}
use Rattle.tva_router.proofs.Queueing.{found, answered, sent-at, stands-queued, kept_agrees, kept_by_outcome}
use Rattle.tva_router.proofs.sending.queue_at.Goals as goal

pub index_mut-requires : goal.index_mut-requires
index_mut-requires c = omega (arith, c.requires.within, ports-length c.args.plan.now.outgoing c.args.now.0 c.args.ports.now.items c.requires.ports)

pub queue_from-requires-clause-time : goal.queue_from-requires-clause-time
queue_from-requires-clause-time c =
    (port-get c.args.plan.now.outgoing c.args.now.0 c.args.ports.now.items c.args.place c.index_mut.result.now (c.args.link, c.index_mut.result.now.limits)
    c.requires.ports c.requires.within c.index_mut.ensures.value).1

pub returns-clause-ports : goal.returns-clause-ports
returns-clause-ports c =
    let got = port-get c.args.plan.now.outgoing c.args.now.0 c.args.ports.now.items c.args.place c.index_mut.result.now (c.args.link, c.index_mut.result.now.limits)
    c.requires.ports c.requires.within c.index_mut.ensures.value in
    ports-set c.args.plan.now.outgoing c.args.now.0 c.args.ports.now.items c.args.place c.queue_from.new.self (c.args.link, c.index_mut.result.now.limits)
    c.requires.ports c.requires.within (c.queue_from.ensures.same.0 ∙ got.0) (omega (arith, c.queue_from.ensures.last))

pub returns-clause-outcome : goal.returns-clause-outcome
returns-clause-outcome c logs packet s held =
    c.outcome_of.ensures c.queue_from.new.hand c.queue_from.ensures.held
    ∙ sent-at logs c.args.class packet c.args.link _ _ (answer_by c.queue_from.result c.queue_from.new.hand)
    (found c.args.plan.now.outgoing c.args.place c.args.link (c.args.link, c.index_mut.result.now.limits) c.requires.place)
    (answered c.args.plan.now.outgoing c.args.now.0 c.args.ports.now.items logs c.args.place c.args.link (c.args.link, c.index_mut.result.now.limits) c.index_mut.result.now c.args.class c.key_in-key.result packet (answer_by c.queue_from.result c.queue_from.new.hand)
    c.requires.place c.requires.ports s c.index_mut.ensures.value (c.key_in-key.ensures packet held) (λ log t. c.queue_from.ensures.answer log packet t held))

pub returns-clause-stands : goal.returns-clause-stands
returns-clause-stands c logs packet s held =
    stands-queued c.args.plan.now.outgoing c.args.now.0 c.args.ports.now.items logs c.args.place c.args.link (c.args.link, c.index_mut.result.now.limits) c.index_mut.result.now c.queue_from.new.self c.args.now.0 c.args.class c.key_in-key.result packet (answer_by c.queue_from.result c.queue_from.new.hand)
    c.requires.plan.outgoing c.requires.place c.requires.ports s c.index_mut.ensures.value (c.key_in-key.ensures packet held)
    (λ log t. c.queue_from.ensures.answer log packet t held) (λ log t. c.queue_from.ensures.stands log packet t held) c.queue_from.ensures.same.0

pub returns-clause-left : goal.returns-clause-left
returns-clause-left c packet held =
    c.queue_from.ensures.left packet held
    ∙ (kept_by_outcome c.args.link c.queue_from.result packet
    ∙ ap (λ (o : Outcome). kept_after o packet) (sym (c.outcome_of.ensures (kept_by c.queue_from.result packet) (kept_agrees c.queue_from.result packet))))
