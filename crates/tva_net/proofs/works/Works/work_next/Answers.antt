use Rattle.tva_net.proofs.Common.{rules, ◌≡◌, ◌+◌, min, sym, subst, ◌∙◌, arith, AllByRecursion, with_items_is, Stands, work_of, AreNoted}
use Rattle.tva_net.proofs.Ends.{can_stand, ends_window, none_left, room_in_time, told_same, window_works}
use Rattle.tva_net.proofs.works.Works.work_next.Goals as goal

pub returns-in_default-clause-works : goal.returns-in_default-clause-works
returns-in_default-clause-works g c = none_left (work_of c.args.self.now) (rw (c.as_slice.ensures.value, c.in_default.is) at c.first_time.ensures)

pub returns-in_default-clause-kept : goal.returns-in_default-clause-kept
returns-in_default-clause-kept g c = told_same c.args.self.now.nodes.items

pub overflow_add-start : goal.overflow_add-start
overflow_add-start g c =
    let room = room_in_time (work_of c.args.self.now) c.in-Some.start c.requires.works (rw (c.as_slice.ensures.value, c.in-Some.is) at c.first_time.ensures) in
    omega (arith, room)

pub work_nodes-worked-requires-clause-works : goal.work_nodes-worked-requires-clause-works
work_nodes-worked-requires-clause-works g c κs within =
    let w = work_of c.args.self.now in
    let first = rw (c.as_slice.ensures.value, c.in-Some.is) at c.first_time.ensures in
    let ends : c.min-until.result ≡ min (c.in-Some.start.0 + c.args.self.now.span) (c.args.self.now.horizon.0 + 1) = grind (arith, rules, c.min-until.ensures) in
    rw (c.as_slice-2.ensures.value, c.as_mut_slice.ensures.value)
    (w.span, w.worked_to, ends_window w c.in-Some.start c.min-until.result c.requires.works first ends)

pub returns-in-Ok-clause-works : goal.returns-in-Ok-clause-works
returns-in-Ok-clause-works g c =
    let first = rw (c.as_slice.ensures.value, c.in-Some.is) at c.first_time.ensures in
    let ends : c.min-until.result ≡ min (c.in-Some.start.0 + c.args.self.now.span) (c.args.self.now.horizon.0 + 1) = grind (arith, rules, c.min-until.ensures) in
    let worked = rw (c.as_slice-2.ensures.value, c.as_mut_slice.ensures.value) at (rw c.in-Ok.is at c.work_nodes-worked.ensures.worked) in
    window_works (work_of c.args.self.now) c.in-Some.start c.min-until.result c.in-Ok.events.items c.work_nodes-worked.new.nodes _ c.requires.works first ends worked
    (with_items_is c.args.self.now.nodes c.work_nodes-worked.new.nodes (c.work_nodes-worked.auto.nodes ∙ c.as_mut_slice.ensures.len))

pub first_time-requires-clause-noted : goal.first_time-requires-clause-noted
first_time-requires-clause-noted g c = subst (AreNoted c.args.self.now.times) (sym c.as_slice.ensures.value) c.requires.noted

pub first_time-requires-clause-stand : goal.first_time-requires-clause-stand
first_time-requires-clause-stand g c = subst (AllByRecursion Stands) (sym c.as_slice.ensures.value) (can_stand (work_of c.args.self.now) c.requires.works)
