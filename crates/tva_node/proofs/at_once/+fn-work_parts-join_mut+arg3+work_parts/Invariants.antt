use Rattle.tva_node.proofs.Common.{length}
use Rattle.tva_node.proofs.at_once.+fn-work_parts-join_mut+arg3+work_parts.Given as goal

abbrev pub decreases-work_parts : goal.decreases-work_parts
decreases-work_parts g l = length l.nodes.now

abbrev pub decreases-join_mut+arg3 : goal.decreases-join_mut+arg3
decreases-join_mut+arg3 g l = length l.back.now
