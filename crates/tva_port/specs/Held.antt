-- Kit: the packet that a hand holds.
use Rattle.std.specs.Prelude.{Option, Some, None, Box}
use Rattle.tva_shim.specs.Packets.{PacketData}

-- the packet in a piece of memory, if there is one
abbrev pub packet_in : {A : Type 0} → Option (Box PacketData A) → Option PacketData
packet_in None = None
packet_in (Some packet) = Some packet.value
