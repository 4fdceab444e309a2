use denote.Param.Send.{sendable}
use Rattle.tva_node.proofs.Crosses.{node_send, node_sync}
use Rattle.tva_node.proofs.node.node_crosses.Goals as goal

pub crosses-requires-send-T : goal.crosses-requires-send-T
crosses-requires-send-T c κs = search (sendable, node_send)

pub crosses-requires-sync-T : goal.crosses-requires-sync-T
crosses-requires-sync-T c κs = search (sendable, node_sync)
