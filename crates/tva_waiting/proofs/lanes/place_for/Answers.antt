use Rattle.tva_waiting.proofs.Common.{nat_tests, ◌-◌, arith, get_or_default}
use Rattle.tva_run.proofs.Places.{put_in-at, none_sooner}
use Rattle.tva_waiting.proofs.lanes.place_for.Goals as goal

pub index-requires : goal.index-requires
index-requires g c = grind (arith, nat_tests)

pub loop-place-preserved : goal.loop-place-preserved
loop-place-preserved g c = grind (arith, nat_tests, get_or_default)

pub returns-else-is_before-clause-place : goal.returns-else-is_before-clause-place
returns-else-is_before-clause-place g c = grind (arith, nat_tests, put_in-at, none_sooner)

pub returns-else-is_before-clause-within : goal.returns-else-is_before-clause-within
returns-else-is_before-clause-within g c = c.loop-place.invariant.within

pub returns-after-loop-place-clause-place : goal.returns-after-loop-place-clause-place
returns-after-loop-place-clause-place g c = grind (arith, nat_tests, put_in-at)
