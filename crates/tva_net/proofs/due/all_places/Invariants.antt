use Rattle.tva_net.proofs.Common.{AreAllPlaces}
use Rattle.tva_net.proofs.due.all_places.Given as goal

abbrev pub invariant-loop-place : goal.invariant-loop-place
invariant-loop-place l = AreAllPlaces l.place l.places.items
