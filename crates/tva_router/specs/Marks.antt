-- Product: which packets have the mark, and which causes call for it.
use Rattle.std.specs.Prelude.{Bool, true, false, Option, Some, None}
use Rattle.tva_base.specs.declared.packet.Cause.{Cause}
use Rattle.tva_base.specs.declared.packet.Cause.TheVariants as cause
use Rattle.tva_shim.specs.declared.packets.Carried.{Carried}
use Rattle.tva_shim.specs.declared.packets.Carried.TheVariants as carried

-- the packet's shim has the mark
abbrev pub is_marked : Carried → Bool
is_marked (carried.Shim shim) = shim.demoted
is_marked carries = false

-- a packet with this cause gets the mark: one with a malformed shim has no place for it
abbrev pub calls_for_mark : Option Cause → Bool
calls_for_mark None = false
calls_for_mark (Some cause.Malformed) = false
calls_for_mark (Some c) = true
