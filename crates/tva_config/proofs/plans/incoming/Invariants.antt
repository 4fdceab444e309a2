use Rattle.tva_config.proofs.Common.{◌≡◌, ◌++◌, drop, picked, tagged_to}
use Rattle.tva_config.proofs.plans.incoming.Given as goal

abbrev pub invariant-loop-i : goal.invariant-loop-i
invariant-loop-i l = l.found.items ++ picked (tagged_to l.node) l.i (drop l.i l.links) ≡ picked (tagged_to l.node) 0 l.links
