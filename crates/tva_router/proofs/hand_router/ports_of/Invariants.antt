use Rattle.tva_router.proofs.Common.{take, [], StandForLogs, ArePorts}
use Rattle.tva_router.proofs.hand_router.ports_of.Given as goal

-- a port for each link so far
abbrev pub invariant-loop-link : goal.invariant-loop-link
invariant-loop-link l = ArePorts (take l._link-index l.outgoing) 0 l.ports.items × StandForLogs (take l._link-index l.outgoing) l.ports.items (λ link. [])
