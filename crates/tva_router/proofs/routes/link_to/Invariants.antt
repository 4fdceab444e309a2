use Rattle.tva_router.proofs.Common.{All}
use Rattle.tva_router.proofs.Tables.{IsShorter}
use Rattle.tva_router.proofs.routes.link_to.Given as goal

-- what holds the destination is shorter than what was looked up
abbrev pub invariant-loop-shorter : goal.invariant-loop-shorter
invariant-loop-shorter l = All (IsShorter l.dst l.shorter) l.routes
