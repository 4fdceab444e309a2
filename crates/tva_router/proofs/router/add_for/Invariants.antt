use Rattle.tva_router.proofs.Common.{◌≡◌, ◌+◌, ◌≤◌, take, places_on}
use Rattle.tva_router.proofs.router.add_for.Given as goal

-- memory for the links so far, and for one packet more
abbrev pub invariant-loop-link : goal.invariant-loop-link
invariant-loop-link l = (l.stock.count ≡ places_on (take l._link-index l.outgoing) + 1) × (l.stock.count ≤ l.stock.room)
