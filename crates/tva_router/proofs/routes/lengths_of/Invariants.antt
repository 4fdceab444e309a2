use Rattle.tva_router.proofs.Common.{◌≡◌, length, take, AreMarked}
use Rattle.tva_router.proofs.routes.lengths_of.Given as goal

-- the lengths so far are marked
abbrev pub invariant-loop-route : goal.invariant-loop-route
invariant-loop-route l = record { long : length l.lengths ≡ 33; marked : AreMarked (take l.route-index l.routes) l.lengths }
