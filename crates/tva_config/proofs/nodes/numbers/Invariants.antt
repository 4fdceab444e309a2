use Rattle.tva_config.proofs.Common.{length, take, drop, node_names, name_step, IsNumbers, Continues}
use Rattle.tva_config.proofs.nodes.numbers.Given as goal

abbrev pub invariant-loop-i : goal.invariant-loop-i
invariant-loop-i l = record {
  read : Continues (name_step (length l.routers)) (take l.i (node_names l.routers l.hosts)) (drop l.i (node_names l.routers l.hosts)) (node_names l.routers l.hosts);
  numbers : IsNumbers l.numbers (take l.i (node_names l.routers l.hosts));
}
