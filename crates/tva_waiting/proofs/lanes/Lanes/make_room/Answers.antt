use Rattle.tva_waiting.proofs.Common.{rules, ◌≤◌, ◌+◌, ◌*◌, length, refl, arith, length-map, Lanes, lane_queue, queues_in}
use Rattle.tva_waiting.proofs.Finding.{few_queues}
use Rattle.tva_waiting.proofs.Held.{waiting_changed}
use Rattle.tva_waiting.proofs.lanes.Lanes.make_room.Goals as goal

pub sources_of-requires-clause-few : goal.sources_of-requires-clause-few
sources_of-requires-clause-few c =
    let w = c.args.self.now in
    let full : w.places ≤ length w.list.items + 1 = search rules in
    omega (arith, few_queues (queues_in w) c.requires.waiting.queues, length-map w.list.items lane_queue, full)

pub returns-clause-waiting : goal.returns-clause-waiting
returns-clause-waiting c =
    let w = c.args.self.now in
    let v : Lanes = record { rows = w.rows; layouts = w.layouts; list = w.list; sources = c.in_ok-sources.sources; heads = c.in_ok-heads.heads; places = 2 * w.places; alloc = w.alloc } in
    let full : w.places ≤ length w.list.items + 1 = search rules in
    waiting_changed w v c.requires.waiting c.requires.waiting.held c.in_ok-sources.ensures (queues_in w) refl c.requires.waiting.queues (omega (arith, c.requires.waiting.room))
    (omega (arith, few_queues (queues_in w) c.requires.waiting.queues, length-map w.list.items lane_queue, full)) c.in_ok-heads.ensures.count (c.in_ok-heads.ensures.each w.layouts.items)
