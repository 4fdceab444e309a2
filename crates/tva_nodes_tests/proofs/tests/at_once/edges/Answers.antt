use Rattle.tva_nodes_tests.proofs.Common.{sym, subst, List, AllByRecursion, NodeState, Stands}
use Rattle.tva_nodes_tests.proofs.Standing.{one_more}
use Rattle.tva_nodes_tests.proofs.tests.at_once.edges.Goals as goal

pub loop-number-preserved : goal.loop-number-preserved
loop-number-preserved c =
    subst (λ (vs : List NodeState). AllByRecursion Stands vs) (sym c.in_ok-push.ensures.items)
    (one_more c.loop-number.nodes.items _ c.loop-number.invariant c.in_ok-edge.ensures.stands)
