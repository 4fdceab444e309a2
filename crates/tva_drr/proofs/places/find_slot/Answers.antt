use Rattle.std.proofs.Common.{rules}
use Rattle.tva_drr.proofs.Common.{◌<◌, arith, ap, ◌∙◌, sym, length, queue, bytes_in, queues_in}
use Rattle.tva_drr.proofs.Lists.{items_of_at, items_of_none}
use Rattle.tva_drr.proofs.Rows.{queue_read, keys-queues, length-queues}
use Rattle.tva_drr.proofs.Keys.{place_is}
use Rattle.tva_drr.proofs.places.find_slot.Goals as goal

pub turn-requires : goal.turn-requires
turn-requires g c = search (rules, keys-queues, place_is, length-queues, c.in-Some.is, c.place.ensures)

pub returns-in-Some-clause-at : goal.returns-in-Some-clause-at
returns-in-Some-clause-at g c = search (rules, keys-queues, place_is, c.in-Some.is, c.place.ensures)

pub returns-in-Some-clause-items : goal.returns-in-Some-clause-items
returns-in-Some-clause-items g c =
    let ts = c.args.turns.now.turns in
    let p = returns-in-Some-clause-at g c in
    let t = c.turn.result.now in
    let n : c.in-Some.at < length ts = omega (arith, p.0, length-queues ts) in
    let s = queue_read ts c.in-Some.at t n c.turn.ensures in
    c.len.ensures ∙ ap length (sym (items_of_at c.args.key (queues_in ts) c.in-Some.at (queue t.key t.deficit t.source.items) p.0 p.1 s (p.2 _ s)))

pub returns-in-Some-clause-bytes : goal.returns-in-Some-clause-bytes
returns-in-Some-clause-bytes g c =
    let ts = c.args.turns.now.turns in
    let p = returns-in-Some-clause-at g c in
    let t = c.turn.result.now in
    let n : c.in-Some.at < length ts = omega (arith, p.0, length-queues ts) in
    let s = queue_read ts c.in-Some.at t n c.turn.ensures in
    c.bytes.ensures ∙ ap (bytes_in g.T.Measured.measure) (sym (items_of_at c.args.key (queues_in ts) c.in-Some.at (queue t.key t.deficit t.source.items) p.0 p.1 s (p.2 _ s)))

pub returns-in-None-clause-at : goal.returns-in-None-clause-at
returns-in-None-clause-at g c = search (rules, keys-queues, place_is, c.in-None.is, c.place.ensures)

pub returns-in-None-clause-items : goal.returns-in-None-clause-items
returns-in-None-clause-items g c = sym (ap length (items_of_none c.args.key (queues_in c.args.turns.now.turns) (returns-in-None-clause-at g c)))

pub returns-in-None-clause-bytes : goal.returns-in-None-clause-bytes
returns-in-None-clause-bytes g c = sym (ap (bytes_in g.T.Measured.measure) (items_of_none c.args.key (queues_in c.args.turns.now.turns) (returns-in-None-clause-at g c)))
