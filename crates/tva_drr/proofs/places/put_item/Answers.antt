use Rattle.std.proofs.Common.{rules}
use Rattle.tva_drr.proofs.Common.{◌<◌, ◌∷◌, [], ◌++◌, sym, ◌∙◌, ap, arith, length, map-set, map_push, queue, bytes_in, Served, TurnsOver, served, RowOf, row, queues_in}
use Rattle.tva_drr.proofs.Keys.{no_place}
use Rattle.tva_drr.proofs.Lists.{items_of_at, put_at, put_new}
use Rattle.tva_drr.proofs.Rows.{queue_read, keys-queues, length-queues}
use Rattle.tva_drr.proofs.places.put_item.Goals as goal

pub put_at-requires-clause-at : goal.put_at-requires-clause-at
put_at-requires-clause-at g c = search (rules, length-queues, c.in-Some.is, c.requires.place)

pub put_at-requires-clause-may : goal.put_at-requires-clause-may
put_at-requires-clause-may g c = λ t e k.
    let p = rw c.in-Some.is at c.requires.place in
    let ts = c.args.turns.now.turns in
    let n : c.in-Some.at < length ts = omega (arith, p.0, length-queues ts) in
    let s = queue_read ts c.in-Some.at t n e in
    let items = items_of_at c.args.key (queues_in ts) c.in-Some.at (queue t.key t.deficit t.source.items) p.0 p.1 s (p.2 _ s) in
    (omega (arith, c.requires.room, ap length items, ap (λ (r : RowOf g.row.T.Denot). r.room) k), omega (arith, c.requires.fits, ap (bytes_in g.T.Measured.measure) items))

pub put_new-requires-clause-new : goal.put_new-requires-clause-new
put_new-requires-clause-new g c = search (rules, keys-queues, no_place, c.in-None.is, c.requires.place)

pub returns-in-Some-clause-left : goal.returns-in-Some-clause-left
returns-in-Some-clause-left g c =
    let p = rw c.in-Some.is at c.requires.place in
    let ts = c.args.turns.now.turns in
    let n : c.in-Some.at < length ts = omega (arith, p.0, length-queues ts) in
    let t = c.put_at.ensures.0 in
    let s = queue_read ts c.in-Some.at t n c.put_at.ensures.1 in
    ap (λ (v : TurnsOver (RowOf g.row.T.Denot)). queues_in v.turns) c.put_at.ensures.3
    ∙ (map-set (λ (t : Served (RowOf g.row.T.Denot)). queue t.key t.deficit t.source.items) ts c.in-Some.at (served t.key t.deficit (row (t.source.items ++ c.args.item ∷ []) t.source.room))
    ∙ sym (put_at c.args.turns.now.limits.quantum c.args.key c.args.item (queues_in ts) c.in-Some.at (queue t.key t.deficit t.source.items) p.0 p.1 s (p.2 _ s)))

pub returns-in-None-clause-left : goal.returns-in-None-clause-left
returns-in-None-clause-left g c = search (rules, map_push, length-queues, put_new, c.in-None.is, c.requires.place, c.put_new.ensures.queued, c.put_new.ensures.answer)
