use Rattle.std.proofs.Common.{rules}
use Rattle.tva_drr.proofs.Common.{◌≡◌, ◌+◌, ◌≤◌, true, false, sym, ◌∙◌, ap, subst, Queued, QueueFull, Fair, fair, all_bytes, put, lacks_queue, lacks_room, offer_answer, offer_leaves, IsFair, GoesLast, queues_in}
use Rattle.tva_drr.proofs.OrderLaws.{goes_last}
use Rattle.tva_drr.proofs.Lists.{room_lacked, answer_full, answer_queued, leaves_queued, room_for}
use Rattle.tva_drr.proofs.Keeps.{items-within, keeps-offer}
use Rattle.tva_drr.proofs.Rows.{length-queues, queue_lacked}
use Rattle.tva_drr.proofs.fair_queues.FairQueues.offer.Goals as goal

pub lacks_room-requires : goal.lacks_room-requires
lacks_room-requires g c = search (rules, items-within, c.self.invariant.0.queues.each, c.self.invariant.0.limits, c.requires.length.1, c.find_slot-place.ensures, c.self.invariant.0.queues.bytes, c.self.invariant.1, c.length-length.ensures)

pub returns-then-lacks_room-clause-answer : goal.returns-then-lacks_room-clause-answer
returns-then-lacks_room-clause-answer g c =
    let i = c.self.inside.turns in
    let m = g.T.Measured.measure in
    let qs = queues_in i.turns in
    let p = c.find_slot-place in
    let queue : lacks_queue (fair i.limits qs) c.args.key ≡ false = queue_lacked i.limits c.args.key i.turns p.result.at false p.ensures.at (sym c.if-lacks_slot.false ∙ c.lacks_slot.ensures) in
    let full : lacks_room m (fair i.limits qs) c.args.key c.args.item ≡ true = room_lacked m i.limits c.args.key qs c.args.item p.result.items p.result.bytes c.self.inside.bytes c.length-length.result true p.ensures.items p.ensures.bytes c.self.invariant.1 c.length-length.ensures (sym c.if-lacks_room.true ∙ c.lacks_room.ensures) in
    subst (λ (v : Fair g.row.T.Denot). QueueFull c.args.item ≡ offer_answer m v c.args.key c.args.item) c.self.view_is (answer_full m (fair i.limits qs) c.args.key c.args.item queue full)

pub put_item-requires-clause-free : goal.put_item-requires-clause-free
put_item-requires-clause-free g c = search (rules, queue_lacked, room_for, length-queues, c.if-lacks_slot.false, c.lacks_slot.ensures, c.self.invariant.2)

pub invariant_of-self : goal.invariant_of-self
invariant_of-self g c =
    let i = c.self.inside.turns in
    let m = g.T.Measured.measure in
    let qs = queues_in i.turns in
    let p = c.find_slot-place in
    let queue : lacks_queue (fair i.limits qs) c.args.key ≡ false = queue_lacked i.limits c.args.key i.turns p.result.at false p.ensures.at (sym c.if-lacks_slot.false ∙ c.lacks_slot.ensures) in
    let room : lacks_room m (fair i.limits qs) c.args.key c.args.item ≡ false = room_lacked m i.limits c.args.key qs c.args.item p.result.items p.result.bytes c.self.inside.bytes c.length-length.result false p.ensures.items p.ensures.bytes c.self.invariant.1 c.length-length.ensures (sym c.if-lacks_room.false ∙ c.lacks_room.ensures) in
    let left : fair c.put_item.new.turns.limits (queues_in c.put_item.new.turns.turns) ≡ fair i.limits (put i.limits.quantum c.args.key c.args.item qs) = ap (λ l. fair l (queues_in c.put_item.new.turns.turns)) c.put_item.ensures.same.0 ∙ ap (fair i.limits) c.put_item.ensures.left in
    let most : m c.args.item ≤ i.limits.max = subst (λ (f : Fair g.row.T.Denot). m c.args.item ≤ f.limits.max) (sym c.self.view_is) c.requires.length.1 in
    let k = keeps-offer m i.limits c.self.inside.bytes c.args.key qs c.args.item c.self.invariant.0 c.self.invariant.1 (c.requires.length.0, most) queue room in (
      subst (IsFair m) (sym left) k.0,
      ap (λ n. c.self.inside.bytes + n) c.length-length.ensures ∙ (k.1 ∙ sym (ap (λ (f : Fair g.row.T.Denot). all_bytes m f.queues) left)),
      c.put_item.ensures.same.1 ∙ (c.self.invariant.2 ∙ sym (ap (λ (f : Fair g.row.T.Denot). f.limits.queues) left)),
      c.front_of-self-inside.ensures,
    )

pub returns-clause-fair : goal.returns-clause-fair
returns-clause-fair g c = (invariant_of-self g c).0

pub returns-clause-answer : goal.returns-clause-answer
returns-clause-answer g c =
    let i = c.self.inside.turns in
    let m = g.T.Measured.measure in
    let qs = queues_in i.turns in
    let p = c.find_slot-place in
    let queue : lacks_queue (fair i.limits qs) c.args.key ≡ false = queue_lacked i.limits c.args.key i.turns p.result.at false p.ensures.at (sym c.if-lacks_slot.false ∙ c.lacks_slot.ensures) in
    let room : lacks_room m (fair i.limits qs) c.args.key c.args.item ≡ false = room_lacked m i.limits c.args.key qs c.args.item p.result.items p.result.bytes c.self.inside.bytes c.length-length.result false p.ensures.items p.ensures.bytes c.self.invariant.1 c.length-length.ensures (sym c.if-lacks_room.false ∙ c.lacks_room.ensures) in
    subst (λ (v : Fair g.row.T.Denot). Queued ≡ offer_answer m v c.args.key c.args.item) c.self.view_is (answer_queued m (fair i.limits qs) c.args.key c.args.item queue room)

pub returns-clause-left : goal.returns-clause-left
returns-clause-left g c =
    let i = c.self.inside.turns in
    let m = g.T.Measured.measure in
    let qs = queues_in i.turns in
    let p = c.find_slot-place in
    let queue : lacks_queue (fair i.limits qs) c.args.key ≡ false = queue_lacked i.limits c.args.key i.turns p.result.at false p.ensures.at (sym c.if-lacks_slot.false ∙ c.lacks_slot.ensures) in
    let room : lacks_room m (fair i.limits qs) c.args.key c.args.item ≡ false = room_lacked m i.limits c.args.key qs c.args.item p.result.items p.result.bytes c.self.inside.bytes c.length-length.result false p.ensures.items p.ensures.bytes c.self.invariant.1 c.length-length.ensures (sym c.if-lacks_room.false ∙ c.lacks_room.ensures) in
    let left : fair c.put_item.new.turns.limits (queues_in c.put_item.new.turns.turns) ≡ fair i.limits (put i.limits.quantum c.args.key c.args.item qs) = ap (λ l. fair l (queues_in c.put_item.new.turns.turns)) c.put_item.ensures.same.0 ∙ ap (fair i.limits) c.put_item.ensures.left in
    subst (λ (v : Fair g.row.T.Denot). fair c.put_item.new.turns.limits (queues_in c.put_item.new.turns.turns) ≡ offer_leaves m v c.args.key c.args.item) c.self.view_is
    (leaves_queued m (fair i.limits qs) _ c.args.key c.args.item queue room left)

pub returns-clause-last : goal.returns-clause-last
returns-clause-last g c = λ _.
    let i = c.self.inside.turns in
    let qs = queues_in i.turns in
    let left : fair c.put_item.new.turns.limits (queues_in c.put_item.new.turns.turns) ≡ fair i.limits (put i.limits.quantum c.args.key c.args.item qs) = ap (λ l. fair l (queues_in c.put_item.new.turns.turns)) c.put_item.ensures.same.0 ∙ ap (fair i.limits) c.put_item.ensures.left in
    subst (λ (v : Fair g.row.T.Denot). GoesLast c.args.key c.args.item v (fair c.put_item.new.turns.limits (queues_in c.put_item.new.turns.turns))) c.self.view_is
    (subst (λ (z : Fair g.row.T.Denot). GoesLast c.args.key c.args.item (fair i.limits qs) z) (sym left) (goes_last i.limits i.limits.quantum c.args.key c.args.item qs))
