-- How long a packet is at most.
use Rattle.tva_shim.proofs.Common.{◌≤◌, ℕ, length, arith, Kind, ReturnInfo, ShimData, IsShim, entries_of, caps_of, granted_caps, layout, kind_size, return_size, size_few}
use Rattle.tva_shim.specs.declared.packets.Carried.{Carried}
use Rattle.tva_shim.specs.Packets.{PacketData, IsCarried, IsWithinWidths, IsSizedPacket, carried_bytes, packet_length}
use Rattle.tva_shim.proofs.Sizes.{length-layout}

kind_within : (version : ℕ) (kind : Kind) → length (entries_of kind) ≤ 16 → length (caps_of kind) ≤ 16 → kind_size version kind ≤ 163
kind_within version kind few caps = grind (arith, size_few)

return_within : (version : ℕ) (back : ReturnInfo) → length (granted_caps back) ≤ 16 → return_size version back ≤ 134
return_within version back few = grind (arith, size_few)

-- the longest shim is a request of version 2 with 16 entries and a grant of 16 capabilities
pub shim_within : (s : ShimData) → IsShim s → length (layout s) ≤ 297
shim_within s is = omega (arith, length-layout s, kind_within s.version s.kind is.entries.few is.caps.few, return_within s.version s.back is.granted.few)

carried_within : (c : Carried) → IsWithinWidths c → carried_bytes c ≤ 400
carried_within c is = grind (arith, shim_within)

-- what has its widths, a packet can carry
pub carried_fits : (c : Carried) → IsWithinWidths c → IsCarried c
carried_fits c is = grind arith

-- the longest packet has a malformed shim of 400 bytes and a payload of 1,600
pub packet_within : (p : PacketData) → IsSizedPacket p → packet_length p ≤ 2020
packet_within p is = omega (arith, carried_within p.carried is.widths, is.packet.payload)
