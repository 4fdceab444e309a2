-- Product: what a packet is, and which packets there are.
use Rattle.std.specs.Prelude.{◌≡◌, ℕ, ◌+◌, ◌^◌, ◌<◌, ◌≤◌, length, if◌then◌else◌}
use Rattle.tva_base.specs.declared.packet.{PacketId.PacketId, Flow.Flow, Class.Class}
use Rattle.tva_base.specs.declared.packet.Upper as uppers
use Rattle.tva_base.specs.declared.packet.Upper.TheVariants as upper
use Rattle.tva_base.specs.declared.packet.Class.TheVariants as classes
use Rattle.tva_shim.specs.{declared.kinds.Kind.Kind, declared.packets.Carried.Carried, Shims.IsShim}
use Rattle.tva_shim.specs.Layout.{layout, shim_size}
use Rattle.tva_shim.specs.declared.kinds.Kind.TheVariants as kinds
use Rattle.tva_shim.specs.declared.packets.Carried.TheVariants as carried

-- a packet as contracts see it
pub record PacketData : Type 0 where
  pub id : PacketId
  pub flow : Flow
  pub hops : ℕ
  pub payload : ℕ
  pub carried : Carried
  pub upper : uppers.Upper

-- the packet of these parts, and one without an upper part
abbrev pub packet_with : PacketId → Flow → ℕ → ℕ → Carried → uppers.Upper → PacketData
packet_with id flow hops payload carries above =
    record { id = id; flow = flow; hops = hops; payload = payload; carried = carries; upper = above }

abbrev pub packet_data : PacketId → Flow → ℕ → ℕ → Carried → PacketData
packet_data id flow hops payload carries = packet_with id flow hops payload carries upper.Nothing

-- a packet as it is made, which passed no router, and one without an upper part
abbrev pub made_with : PacketId → Flow → ℕ → Carried → uppers.Upper → PacketData
made_with id flow payload carries above = packet_with id flow 0 payload carries above

abbrev pub made_packet : PacketId → Flow → ℕ → Carried → PacketData
made_packet id flow payload carries = made_with id flow payload carries upper.Nothing

-- the bytes of an upper part: a header of 8, and those of its range
abbrev pub upper_size : uppers.Upper → ℕ
upper_size upper.Nothing = 0
upper_size (upper.Data transfer first bytes) = 8 + bytes
upper_size (upper.Ack transfer next) = 8

-- a range has at most 1,500 bytes, and ends below 2^32
abbrev pub IsUpper : uppers.Upper → Type 0
IsUpper (upper.Data transfer first bytes) = (bytes ≤ 1500) × (first + bytes < 2 ^ 32)
IsUpper _ = Unit {0}

-- an upper part is all of a payload
abbrev pub Fills : uppers.Upper → ℕ → Type 0
Fills upper.Nothing payload = Unit {0}
Fills (upper.Data transfer first bytes) payload = payload ≡ 8 + bytes
Fills (upper.Ack transfer next) payload = payload ≡ 8

-- a malformed shim has at most 400 bytes
abbrev pub IsCarried : Carried → Type 0
IsCarried (carried.Malformed bytes) = bytes ≤ 400
IsCarried _ = Unit {0}

-- a packet within the sizes of a network
pub record IsPacket (p : PacketData) : Type 0 where
  pub hops : p.hops ≤ 32
  pub payload : p.payload ≤ 1600
  pub carried : IsCarried p.carried
  pub upper : IsUpper p.upper
  pub fills : Fills p.upper p.payload

-- a shim has its widths, and a malformed one at most 400 bytes
abbrev pub IsWithinWidths : Carried → Type 0
IsWithinWidths carried.Nothing = Unit {0}
IsWithinWidths (carried.Shim shim) = IsShim shim
IsWithinWidths (carried.Malformed bytes) = bytes ≤ 400

-- A packet within the sizes of a network, whose shim has its widths. Each packet of the program is one, and its
-- length is bounded by that alone.
pub record IsSizedPacket (p : PacketData) : Type 0 where
  pub packet : IsPacket p
  pub widths : IsWithinWidths p.carried

-- the bytes between a packet's header and its payload
abbrev pub carried_bytes : Carried → ℕ
carried_bytes carried.Nothing = 0
carried_bytes (carried.Shim shim) = length (layout shim)
carried_bytes (carried.Malformed bytes) = bytes

-- the length of a packet: a header of 20 bytes, its shim and its payload
abbrev pub packet_length : PacketData → ℕ
packet_length p = 20 + carried_bytes p.carried + p.payload

-- the same bytes, counted from what the shim has
abbrev pub carried_size : Carried → ℕ
carried_size carried.Nothing = 0
carried_size (carried.Shim shim) = shim_size shim
carried_size (carried.Malformed bytes) = bytes

abbrev pub class_by_kind : Kind → Class
class_by_kind (kinds.Request entries) = classes.Request
class_by_kind _ = classes.Regular

-- the class of a packet by its shim alone
abbrev pub class_by_shim : Carried → Class
class_by_shim (carried.Shim shim) = if shim.demoted then classes.Legacy else class_by_kind shim.kind
class_by_shim _ = classes.Legacy
