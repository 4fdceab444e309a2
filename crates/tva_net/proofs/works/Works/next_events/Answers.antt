use Rattle.tva_net.proofs.Common.{rules, ◌≡◌, ◌<◌, List, length, arith, Event, work_of, nil_from_length}
use Rattle.tva_net.proofs.Ends.{can_still, first_then, passes_none, passes_one, passes_to_none, passes_to_some, told_more}
use Rattle.tva_net.proofs.works.Works.next_events.Goals as goal

pub later_events-requires-clause-works : goal.later_events-requires-clause-works
later_events-requires-clause-works g c κs within =
    can_still (work_of c.args.self.now) (work_of c.work_next-first.new.self) c.in-Ok-Some.events.items c.requires.works
    (rw c.in-Ok-Some.field-0-is at (rw c.in-Ok-Some.is at c.work_next-first.ensures.works))

pub returns-then-is_empty-clause-works : goal.returns-then-is_empty-clause-works
returns-then-is_empty-clause-works g c =
    let w = work_of c.args.self.now in
    let list : List Event = c.in-Ok-Some.events.items in
    let zero : length list ≡ 0 = grind (arith, rules, c.is_empty.ensures, c.if-is_empty.true) in
    first_then w (work_of c.work_next-first.new.self) (work_of c.later_events.new.self) c.later_events.result
    (passes_one w w (work_of c.work_next-first.new.self) list (nil_from_length list zero) (passes_none w) (rw c.in-Ok-Some.field-0-is at (rw c.in-Ok-Some.is at c.work_next-first.ensures.works)))
    c.later_events.ensures.works

pub returns-then-is_empty-clause-kept : goal.returns-then-is_empty-clause-kept
returns-then-is_empty-clause-kept g c =
    told_more c.args.self.now.nodes.items c.work_next-first.new.self.nodes.items c.later_events.new.self.nodes.items
    c.work_next-first.ensures.kept c.later_events.ensures.kept

pub returns-else-is_empty-clause-works : goal.returns-else-is_empty-clause-works
returns-else-is_empty-clause-works g c =
    let w = work_of c.args.self.now in
    let list : List Event = c.in-Ok-Some.events.items in
    let some : 0 < length list = grind (arith, rules, c.is_empty.ensures, c.if-is_empty.false) in
    passes_to_some w w (work_of c.work_next-first.new.self) list some (passes_none w) (rw c.in-Ok-Some.field-0-is at (rw c.in-Ok-Some.is at c.work_next-first.ensures.works))

pub returns-in-Ok-None-clause-works : goal.returns-in-Ok-None-clause-works
returns-in-Ok-None-clause-works g c =
    let w = work_of c.args.self.now in
    passes_to_none w w (work_of c.work_next-first.new.self) (passes_none w) (rw c.in-Ok-None.field-0-is at (rw c.in-Ok-None.is at c.work_next-first.ensures.works))
