use Rattle.tva_config.proofs.Common.{◌≡◌, ◌++◌, drop, picked, limited_from}
use Rattle.tva_config.proofs.plans.outgoing.Given as goal

abbrev pub invariant-loop-i : goal.invariant-loop-i
invariant-loop-i l = l.found.items ++ picked (limited_from l.node) l.i (drop l.i l.links) ≡ picked (limited_from l.node) 0 l.links
