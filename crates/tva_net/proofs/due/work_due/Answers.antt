use Rattle.tva_net.proofs.Common.{arith}
use Rattle.tva_net.proofs.Worked.{all_worked, kept_more, less_left, none_worked, one_more}
use Rattle.tva_net.proofs.due.work_due.Goals as goal

pub loop-place-init : goal.loop-place-init
loop-place-init c = record { worked = none_worked c.args.until.0 c.args.nodes.now c.new-places.result.items c.new-places.ensures.items c.requires.stand c.requires.reach; noted = c.requires.noted }

pub work_one-requires-clause-few : goal.work_one-requires-clause-few
work_one-requires-clause-few c = let n = c.loop-place.invariant.worked.count in omega (arith, n, c.requires.few)

pub returns-in_err-work_one-clause-kept : goal.returns-in_err-work_one-clause-kept
returns-in_err-work_one-clause-kept c = kept_more c.args.nodes.now c.loop-place.nodes c.work_one.new.nodes c.loop-place.invariant.worked.kept c.in_err-work_one.ensures.kept

pub returns-in_err-put_place-clause-kept : goal.returns-in_err-put_place-clause-kept
returns-in_err-put_place-clause-kept c = kept_more c.args.nodes.now c.loop-place.nodes c.work_one.new.nodes c.loop-place.invariant.worked.kept c.in_ok-work_one.ensures.kept

pub loop-place-preserved : goal.loop-place-preserved
loop-place-preserved c = record {
  worked = one_more c.args.until.0 c.in-Some.place c.loop-place.nodes c.work_one.new.nodes c.in-Some.ensures.within c.in_ok-work_one.ensures.worked
      c.args.nodes.now c.loop-place.places.items c.put_place.new.places.items c.loop-place.invariant.worked c.in_ok-put_place.ensures;
  noted = c.in_ok-work_one.ensures.noted;
}

pub loop-place-smaller : goal.loop-place-smaller
loop-place-smaller c =
    less_left c.args.until.0 c.in-Some.place c.loop-place.nodes c.work_one.new.nodes c.in-Some.ensures.within c.in_ok-work_one.ensures.worked
    c.loop-place.invariant.worked.stand c.loop-place.invariant.worked.reach c.in-Some.ensures.some

pub returns-clause-through : goal.returns-clause-through
returns-clause-through c = all_worked c.args.until.0 c.args.nodes.now c.loop-place.nodes c.loop-place.places.items c.loop-place.invariant.worked (c.due_before.ensures.none c.in_default.is)
