use Rattle.tva_plan.proofs.Common.{◌≡◌, ◌≤◌, ◌*◌, ◌^◌, take, sum_by, slots_in}
use Rattle.tva_plan.proofs.counts.slot_count.Given as goal

abbrev pub invariant-loop-node : goal.invariant-loop-node
invariant-loop-node l = record { total : l.total ≡ sum_by slots_in (take l.node-index l.config.nodes); room : l.total ≤ l.node-index * 2 ^ 64 }
