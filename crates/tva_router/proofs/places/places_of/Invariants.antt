use Rattle.tva_router.proofs.Common.{◌≤◌, length, drop, ArePlacesFrom}
use Rattle.tva_router.proofs.places.places_of.Given as goal

-- the places of the links from this one on
abbrev pub invariant-loop-place : goal.invariant-loop-place
invariant-loop-place g l = record { within : l.place ≤ length l.links; places : ArePlacesFrom l.place (drop l.place l.links) l.places }

abbrev pub decreases-loop-place : goal.decreases-loop-place
decreases-loop-place g l = l.place
