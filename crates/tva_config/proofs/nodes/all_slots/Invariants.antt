use Rattle.tva_config.proofs.Common.{◌≡◌, ◌≤◌, ◌*◌, ◌^◌, take, all_slots}
use Rattle.tva_config.proofs.nodes.all_slots.Given as goal

abbrev pub invariant-loop-router : goal.invariant-loop-router
invariant-loop-router l = record { total : l.total ≡ all_slots (take l.router-index l.routers); room : l.total ≤ l.router-index * 2 ^ 32 }
