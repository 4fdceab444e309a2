use Rattle.tva_drr.proofs.Common.{◌+◌, ◌^◌, ◌<◌, Option, IfSome, sym, ◌∙◌, subst, All, DrrLimits, Served, Fair, TurnsOver, Group, Hier, hier, front_popped, GoesFirstUnder, groups_in}
use Rattle.tva_drr.proofs.Sources.{All-of_map}
use Rattle.tva_drr.proofs.GroupTurns.{group_of, groups-popped, front_covers}
use Rattle.tva_drr.proofs.Keeping.{all_groups_room}
use Rattle.tva_drr.proofs.Offering.{taken_next}
use Rattle.tva_drr.proofs.hier_queues.HierQueues.take.Goals as goal

pub pop-item-requires : goal.pop-item-requires
pop-item-requires g c = front_covers g.T.Measured.measure c.self.inside.limits c.self.inside.inner c.self.inside.turns.turns c.self.invariant.0.groups.turn

pub settle-requires : goal.settle-requires
settle-requires g c =
    let i = c.self.inside in
    let m = g.T.Measured.measure in
    let P = λ (z : Group g.row.T.Denot). z.deficit + i.turns.limits.quantum < 2 ^ 32 in
    let room : All P (front_popped m (groups_in i.turns.turns)) = subst (λ (l : DrrLimits). All (λ (z : Group g.row.T.Denot). z.deficit + l.quantum < 2 ^ 32) (front_popped m (groups_in i.turns.turns))) (sym c.self.invariant.2)
    (all_groups_room m i.limits i.inner (groups_in i.turns.turns) c.self.invariant.0.limits c.self.invariant.0.groups) in
    subst (λ (v : TurnsOver (Fair g.row.T.Denot)). All (λ (t : Served (Fair g.row.T.Denot)). t.deficit + v.limits.quantum < 2 ^ 32) v.turns) (sym c.pop-item.ensures.left)
    (All-of_map group_of P _ (subst (All P) (sym (groups-popped m i.turns.turns)) room))

pub invariant_of-self : goal.invariant_of-self
invariant_of-self g c = (taken_next g.T.Measured.measure c.self.inside.limits c.self.inside.inner c.self.inside.bytes c.in_ok-length.length c.self.inside.turns c.pop-item.new.self c.settle.new.self c.args.self.now c.self.view_is c.self.invariant (sym c.head_length.ensures.value ∙ c.in_ok-length.was) c.pop-item.ensures.left c.settle.ensures).2.kept

pub returns-clause-hier : goal.returns-clause-hier
returns-clause-hier g c = (invariant_of-self g c).0

pub returns-clause-left : goal.returns-clause-left
returns-clause-left g c = (taken_next g.T.Measured.measure c.self.inside.limits c.self.inside.inner c.self.inside.bytes c.in_ok-length.length c.self.inside.turns c.pop-item.new.self c.settle.new.self c.args.self.now c.self.view_is c.self.invariant (sym c.head_length.ensures.value ∙ c.in_ok-length.was) c.pop-item.ensures.left c.settle.ensures).2.left

pub returns-clause-first : goal.returns-clause-first
returns-clause-first g c outer inner front =
    let k = taken_next g.T.Measured.measure c.self.inside.limits c.self.inside.inner c.self.inside.bytes c.in_ok-length.length c.self.inside.turns c.pop-item.new.self c.settle.new.self c.args.self.now c.self.view_is c.self.invariant (sym c.head_length.ensures.value ∙ c.in_ok-length.was) c.pop-item.ensures.left c.settle.ensures in
    let new : Hier g.row.T.Denot = hier c.self.inside.limits c.self.inside.inner (groups_in c.settle.new.self.turns) in
    subst (λ (o : Option g.row.T.Denot). IfSome o (λ item. GoesFirstUnder outer inner item c.args.self.now new)) (sym (c.pop-item.ensures.value ∙ k.1)) (k.2.first outer inner front)
