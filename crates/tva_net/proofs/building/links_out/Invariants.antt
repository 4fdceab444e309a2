use Rattle.tva_net.proofs.Common.{◌≡◌, ◌++◌, drop, link_from}
use Rattle.tva_plan.specs.Wiring.{picked}
use Rattle.tva_net.proofs.building.links_out.Given as goal

abbrev pub invariant-loop-i : goal.invariant-loop-i
invariant-loop-i l = l.out.items ++ picked (link_from l.node) l.i (drop l.i l.links) ≡ picked (link_from l.node) 0 l.links
