use Rattle.tva_net.proofs.Common.{◌∷◌, [], arrival}
use Rattle.tva_net.proofs.Mails.{got_at, kept_by, same_but, post_keeps}
use Rattle.tva_net.proofs.posting.deliver_flight.Goals as goal

pub returns-in_err-post_flight-clause-keeps : goal.returns-in_err-post_flight-clause-keeps
returns-in_err-post_flight-clause-keeps c = post_keeps c.args.nodes.now c.args.to c.index-nodes-to.result c.post_flight.new.self c.requires.node c.in_err-post_flight.ensures.same

pub returns-clause-got : goal.returns-clause-got
returns-clause-got c =
    let e = c.in_ok-post_flight.ensures in
    got_at c.args.to (arrival c.args.flight ∷ []) c.args.nodes.now c.index-nodes-to.result c.post_flight.new.self c.requires.node
    (record { inbox = e.inbox; stands = e.stands; keeps = kept_by _ _ e.same })

pub returns-clause-keeps : goal.returns-clause-keeps
returns-clause-keeps c = post_keeps c.args.nodes.now c.args.to c.index-nodes-to.result c.post_flight.new.self c.requires.node c.in_ok-post_flight.ensures.same

pub returns-in_err-post_flight-clause-others : goal.returns-in_err-post_flight-clause-others
returns-in_err-post_flight-clause-others c = same_but c.args.to c.args.nodes.now c.post_flight.new.self

pub returns-clause-others : goal.returns-clause-others
returns-clause-others c = same_but c.args.to c.args.nodes.now c.post_flight.new.self
