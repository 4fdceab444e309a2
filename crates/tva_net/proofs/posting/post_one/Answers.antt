use Rattle.tva_net.proofs.Common.{◌≤◌, ◌<◌, ◌∙◌, subst, arith, Time, KeepsWork, AllZip-same}
use Rattle.tva_net.proofs.Mails.{delivers_one, keeps_same, posted_late, posted_one}
use Rattle.tva_net.proofs.Noted.{noted_after}
use Rattle.tva_net.proofs.posting.post_one.Goals as goal

pub returns-then-arrive-horizon-clause-got : goal.returns-then-arrive-horizon-clause-got
returns-then-arrive-horizon-clause-got c = posted_late c.args.horizon.0 c.args.links.now c.args.sending c.args.nodes.now (subst (λ (t : Time). c.args.horizon.0 < t.0) c.arrive.ensures c.if-arrive-horizon.true)

pub returns-then-arrive-horizon-clause-keeps : goal.returns-then-arrive-horizon-clause-keeps
returns-then-arrive-horizon-clause-keeps c = AllZip-same KeepsWork keeps_same c.args.nodes.now

pub bounds-links-from : goal.bounds-links-from
bounds-links-from c = let k = c.requires.postable.link in let e = c.link.ensures in omega (arith, k, e, c.from.ensures)

pub deliver_flight-requires : goal.deliver_flight-requires
deliver_flight-requires c =
    delivers_one c.args.horizon.0 c.args.links.now c.args.nodes.now c.args.sending _ c.from.result c.from-to.result (subst (λ (t : Time). t.0 ≤ c.args.horizon.0) c.arrive.ensures c.if-arrive-horizon.false) (c.from.ensures ∙ c.link.ensures) c.from-to.ensures c.requires.postable

pub note-requires-clause-place : goal.note-requires-clause-place
note-requires-clause-place c =
    let can = delivers_one c.args.horizon.0 c.args.links.now c.args.nodes.now c.args.sending _ c.from.result c.from-to.result (subst (λ (t : Time). t.0 ≤ c.args.horizon.0) c.arrive.ensures c.if-arrive-horizon.false) (c.from.ensures ∙ c.link.ensures) c.from-to.ensures c.requires.postable in
    let node = can.node in
    omega (arith, node)

pub returns-clause-got : goal.returns-clause-got
returns-clause-got c =
    posted_one c.args.horizon.0 c.args.links.now c.args.nodes.now c.args.sending _ c.from.result c.from-to.result (subst (λ (t : Time). t.0 ≤ c.args.horizon.0) c.arrive.ensures c.if-arrive-horizon.false) (c.from.ensures ∙ c.link.ensures) c.from-to.ensures
    c.deliver_flight.new.nodes c.requires.postable.link c.in_ok-deliver_flight.ensures.got

pub returns-clause-noted : goal.returns-clause-noted
returns-clause-noted c =
    noted_after c.from-to.result c.args.times.now c.note.new.times c.args.nodes.now c.deliver_flight.new.nodes c.requires.noted c.in_ok-deliver_flight.ensures.others c.note.ensures
