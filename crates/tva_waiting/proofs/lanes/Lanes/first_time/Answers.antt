use Rattle.tva_waiting.proofs.Common.{arith, nat_tests, ◌-◌, arrived}
use Rattle.tva_waiting.proofs.Held.{next_is, queue_at_lane}
use Rattle.tva_waiting.proofs.lanes.Lanes.first_time.Goals as goal

pub returns-then-place-eq0 : goal.returns-then-place-eq0
returns-then-place-eq0 c = grind (arith, nat_tests, next_is)

pub returns : goal.returns
returns c = grind (arith, nat_tests, arrived, queue_at_lane, next_is)
