use Rattle.tva_node.proofs.Common.{arith, nat_tests, ap, ◌∙◌, Class, key_of, answer_by, queue_answer, waiting_after, outcome_of}
use Rattle.tva_node.proofs.Roles.{queued_to}
use Rattle.tva_node.proofs.role.Hosted.queue.Goals as goal

pub returns-clause-outcome : goal.returns-clause-outcome
returns-clause-outcome c = λ log h.
    let packet = c.args.packet in
    let limits = c.args.self.now.port.limits in
    let waits = waiting_after limits log in
    c.outcome_of.ensures c.queue_from-answer.new.hand c.queue_from-answer.ensures.held
    ∙ ap (outcome_of c.args.self.now.uplink)
    (c.queue_from-answer.ensures.answer log packet h c.in_ok-hand.ensures
    ∙ ap (λ k. queue_answer limits waits c.class_of-class.result k packet) c.queue_key-key.ensures
    ∙ ap (λ (x : Class). queue_answer limits waits x (key_of x packet) packet) c.class_of-class.ensures)

pub returns-clause-stands : goal.returns-clause-stands
returns-clause-stands c = grind (arith, nat_tests, answer_by, queued_to)
