use Rattle.tva_node.proofs.Common.{◌≡◌, ◌++◌, take}
use Rattle.tva_node.proofs.outbox.copy_each.Given as goal

abbrev pub invariant-loop-sending : goal.invariant-loop-sending
invariant-loop-sending l = l.list.items ≡ l.fn.list.items ++ take l.sending-index l.sendings
