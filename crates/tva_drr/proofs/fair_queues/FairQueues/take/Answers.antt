use Rattle.tva_drr.proofs.Common.{◌≡◌, ◌+◌, ◌-◌, ◌^◌, ◌<◌, Option, Some, IfSome, ap, sym, ◌∙◌, subst, All, option_map, Queue, queue, Fair, fair, head, all_bytes, take_leaves, IsFair, GoesFirst, IsFront, TurnsOver, Served, RowOf, queues_in}
use Rattle.tva_drr.proofs.OrderLaws.{goes_first}
use Rattle.tva_drr.proofs.Keeps.{all_room-popped, keeps-taken, with_length}
use Rattle.tva_drr.proofs.Rows.{front_covers, front-head, queues-popped, turns_after}
use Rattle.tva_drr.proofs.Sources.{All-of_map}
use Rattle.tva_drr.proofs.fair_queues.FairQueues.take.Goals as goal

pub pop-item-requires : goal.pop-item-requires
pop-item-requires g c = front_covers g.T.Measured.measure c.self.inside.turns.limits c.self.inside.turns.turns c.self.invariant.0.queues.turn

pub settle-requires : goal.settle-requires
settle-requires g c =
    let i = c.self.inside.turns in
    let room = subst (All (λ (q : Queue g.row.T.Denot). q.deficit + i.limits.quantum < 2 ^ 32)) (sym (queues-popped g.T.Measured.measure i.turns)) (all_room-popped g.T.Measured.measure i.limits (queues_in i.turns) c.self.invariant.0.limits c.self.invariant.0.queues) in
    subst (λ (v : TurnsOver (RowOf g.row.T.Denot)). All (λ (t : Served (RowOf g.row.T.Denot)). t.deficit + v.limits.quantum < 2 ^ 32) v.turns) (sym c.pop-item.ensures.left)
    (All-of_map (λ (t : Served (RowOf g.row.T.Denot)). queue t.key t.deficit t.source.items) (λ (q : Queue g.row.T.Denot). q.deficit + i.limits.quantum < 2 ^ 32) _ room)

pub invariant_of-self : goal.invariant_of-self
invariant_of-self g c =
    let i = c.self.inside.turns in
    let m = g.T.Measured.measure in
    let found = with_length m (head (queues_in i.turns)) c.in_ok-length.length (subst (λ (v : Fair g.row.T.Denot). option_map m (head v.queues) ≡ Some c.in_ok-length.length) (sym c.self.view_is) (sym c.head_length.ensures.value ∙ c.in_ok-length.was)) in
    let k = keeps-taken m i.limits c.self.inside.bytes (queues_in i.turns) found.0 c.self.invariant.0 c.self.invariant.1 found.1 in
    let a = turns_after m i.limits i.places i.turns c.pop-item.new.self c.settle.new.self c.pop-item.ensures.left c.settle.ensures in (
      subst (IsFair m) (sym a.1) k.0,
      subst (λ (f : Fair g.row.T.Denot). c.self.inside.bytes - c.in_ok-length.length ≡ all_bytes m f.queues) (sym a.1) (ap (λ n. c.self.inside.bytes - n) (sym found.2) ∙ k.1),
      a.0 ∙ (c.self.invariant.2 ∙ sym (ap (λ (f : Fair g.row.T.Denot). f.limits.queues) a.1)),
      c.front_of-self-inside.ensures,
    )

pub returns-clause-left : goal.returns-clause-left
returns-clause-left g c =
    let i = c.self.inside.turns in
    (turns_after g.T.Measured.measure i.limits i.places i.turns c.pop-item.new.self c.settle.new.self c.pop-item.ensures.left c.settle.ensures).1 ∙ ap (λ (v : Fair g.row.T.Denot). take_leaves g.T.Measured.measure v) c.self.view_is

pub returns-clause-fair : goal.returns-clause-fair
returns-clause-fair g c = (invariant_of-self g c).0

pub returns-clause-first : goal.returns-clause-first
returns-clause-first g c key front =
    let i = c.self.inside.turns in
    let m = g.T.Measured.measure in
    let found = with_length m (head (queues_in i.turns)) c.in_ok-length.length (subst (λ (v : Fair g.row.T.Denot). option_map m (head v.queues) ≡ Some c.in_ok-length.length) (sym c.self.view_is) (sym c.head_length.ensures.value ∙ c.in_ok-length.was)) in
    let stands : IsFront key (queues_in i.turns) = subst (λ (v : Fair g.row.T.Denot). IsFront key v.queues) (sym c.self.view_is) front in
    let goes = goes_first m i.limits.quantum i.limits key (queues_in i.turns) found.0 c.self.invariant.0.queues.each stands found.1 in
    let a = turns_after m i.limits i.places i.turns c.pop-item.new.self c.settle.new.self c.pop-item.ensures.left c.settle.ensures in
    let new : Fair g.row.T.Denot = fair c.settle.new.self.limits (queues_in c.settle.new.self.turns) in
    let first : GoesFirst key found.0 c.args.self.now new = subst (λ (v : Fair g.row.T.Denot). GoesFirst key found.0 v new) c.self.view_is (subst (λ (z : Fair g.row.T.Denot). GoesFirst key found.0 (fair i.limits (queues_in i.turns)) z) (sym a.1) goes) in
    subst (λ (o : Option g.row.T.Denot). IfSome o (λ item. GoesFirst key item c.args.self.now new)) (sym (c.pop-item.ensures.value ∙ (front-head i.turns ∙ found.1))) first
