use Rattle.tva_net.proofs.Common.{◌≡◌}
use Rattle.tva_net.proofs.building.make_room.Given as goal

abbrev pub invariant-loop-place : goal.invariant-loop-place
invariant-loop-place l = l.nodes ≡ l.initial.nodes
