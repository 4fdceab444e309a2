use Rattle.tva_waiting.proofs.Common.{◌≡◌, ◌+◌, ◌∷◌, map, take, ring, Lane}
use Rattle.tva_waiting.proofs.lanes.sources_of.Given as goal

abbrev pub invariant-loop-place : goal.invariant-loop-place
invariant-loop-place l = l.sources ≡ ring l.places (0 ∷ take l.place (map (λ (lane : Lane). lane.link + 1) l.list.items))
