use Rattle.tva_node.proofs.Common.{crosses}
use denote.Param.Send.{sendable}
use Rattle.tva_node.proofs.Crosses.{node_send}
use Rattle.tva_node.proofs.at_once.+fn-work_parts-join_mut+arg3+work_parts.Goals as goal

pub join_mut-first-requires-send-F : goal.join_mut-first-requires-send-F
join_mut-first-requires-send-F g t c κs within = search (sendable, crosses, node_send) depth 20
