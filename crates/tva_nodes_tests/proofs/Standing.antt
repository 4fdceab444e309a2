-- One more node that stands.
use Rattle.tva_nodes_tests.proofs.Common.{List, [], ◌∷◌, ◌++◌, AllByRecursion, NodeState, Stands}

pub one_more : (vs : List NodeState) (v : NodeState) → AllByRecursion Stands vs → Stands v → AllByRecursion Stands (vs ++ v ∷ [])
one_more [] v all s = (s, tt)
one_more (w ∷ ws) v all s = (all.0, one_more ws v all.1 s)
