use Rattle.tva_nodes_tests.proofs.Common.{AllByRecursion, Stands}
use Rattle.tva_nodes_tests.proofs.tests.at_once.edges.Given as goal

abbrev pub invariant-loop-number : goal.invariant-loop-number
invariant-loop-number l = AllByRecursion Stands l.nodes.items
