use Rattle.tva_net.proofs.Common.{rules, ◌≡◌, ◌<◌, List, [], length, arith, Event, work_of, nil_from_length}
use Rattle.tva_net.proofs.Ends.{can_still, passes_none, passes_one, passes_to_none, passes_to_some, told_more, told_same}
use Rattle.tva_net.proofs.works.Works.later_events.Goals as goal

pub loop-events-init : goal.loop-events-init
loop-events-init g c = record { can = c.requires.works; noted = c.requires.noted; passes = passes_none (work_of c.args.self.now); kept = told_same c.args.self.now.nodes.items }

pub returns-in_err-events-clause-kept : goal.returns-in_err-events-clause-kept
returns-in_err-events-clause-kept g c =
    told_more c.args.self.now.nodes.items c.loop-events.self.nodes.items c.work_alone.new.self.nodes.items
    c.loop-events.invariant.kept c.in_err-events.ensures.kept

pub returns-then-not-is_empty-clause-works : goal.returns-then-not-is_empty-clause-works
returns-then-not-is_empty-clause-works g c =
    let list : List Event = c.in-Some.events.items in
    let some : 0 < length list = grind (arith, rules, c.is_empty.ensures, c.if-not-is_empty.true) in
    passes_to_some (work_of c.args.self.now) (work_of c.loop-events.self) (work_of c.work_alone.new.self) list some c.loop-events.invariant.passes
    (rw c.in-Some.is at c.in_ok-events.ensures.works)

pub returns-then-not-is_empty-clause-kept : goal.returns-then-not-is_empty-clause-kept
returns-then-not-is_empty-clause-kept g c =
    told_more c.args.self.now.nodes.items c.loop-events.self.nodes.items c.work_alone.new.self.nodes.items
    c.loop-events.invariant.kept c.in_ok-events.ensures.kept

pub loop-events-preserved : goal.loop-events-preserved
loop-events-preserved g c =
    let list : List Event = c.in-Some.events.items in
    let zero : length list ≡ 0 = grind (arith, rules, c.is_empty.ensures, c.if-not-is_empty.false) in
    let empty : list ≡ [] = nil_from_length list zero in
    let on = rw c.in-Some.is at c.in_ok-events.ensures.works in
    record {
      noted = c.in_ok-events.ensures.noted;
      can = can_still (work_of c.loop-events.self) (work_of c.work_alone.new.self) list c.loop-events.invariant.can on;
      passes = passes_one (work_of c.args.self.now) (work_of c.loop-events.self) (work_of c.work_alone.new.self) list empty c.loop-events.invariant.passes on;
      kept = told_more c.args.self.now.nodes.items c.loop-events.self.nodes.items c.work_alone.new.self.nodes.items
          c.loop-events.invariant.kept c.in_ok-events.ensures.kept;
    }

pub returns-clause-works : goal.returns-clause-works
returns-clause-works g c =
    passes_to_none (work_of c.args.self.now) (work_of c.loop-events.self) (work_of c.work_alone.new.self) c.loop-events.invariant.passes
    (rw c.in_default.is at c.in_ok-events.ensures.works)
