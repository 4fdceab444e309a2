use Rattle.tva_router.proofs.Common.{◌≤◌, length, drop, AreRoutePlacesFrom}
use Rattle.tva_router.proofs.routes.places_by_prefix.Given as goal

-- the places of the routes from this one on
abbrev pub invariant-loop-place : goal.invariant-loop-place
invariant-loop-place l = record { within : l.place ≤ length l.routes; places : AreRoutePlacesFrom l.place (drop l.place l.routes) l.places }

abbrev pub decreases-loop-place : goal.decreases-loop-place
decreases-loop-place l = l.place
