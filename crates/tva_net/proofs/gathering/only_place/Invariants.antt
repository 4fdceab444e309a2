use Rattle.tva_net.proofs.Handed.{IsOnlySoFar}
use Rattle.tva_net.proofs.gathering.only_place.Given as goal

abbrev pub invariant-loop-place : goal.invariant-loop-place
invariant-loop-place l = IsOnlySoFar l.nodes l.places l.place-index l.only
