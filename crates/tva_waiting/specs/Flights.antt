-- Kit: how packets on their way are held: one without a shim by what it says, another in memory of its own.
use Rattle.std.specs.Prelude.{ℕ, Option, Some, None}
use Rattle.tva_shim.specs.declared.packets.Carried.{Carried}
use Rattle.tva_shim.specs.declared.packets.Carried.TheVariants as carried
use Rattle.tva_shim.specs.Packets.{IsPacket, PacketData, packet_with}
use Rattle.tva_waiting.specs.declared.flights.Bare as bares
use Rattle.tva_waiting.specs.declared.flights.Form as forms
use Rattle.tva_waiting.specs.declared.flights.Form.TheVariants as form

-- what a packet without a shim carries
abbrev pub carried_by : Option ℕ → Carried
carried_by None = carried.Nothing
carried_by (Some bytes) = carried.Malformed bytes

-- the packet without a shim that says this
abbrev pub packet_of : bares.Bare → PacketData
packet_of bare = packet_with bare.id bare.flow bare.hops bare.payload (carried_by bare.malformed) bare.upper

abbrev pub packet_in : forms.Form → PacketData
packet_in (form.Bare bare) = packet_of bare
packet_in (form.Boxed packet) = packet.value

-- what is within the sizes of a network where it is said so
abbrev pub IsForm : forms.Form → Type 0
IsForm (form.Bare bare) = IsPacket (packet_of bare)
IsForm (form.Boxed packet) = Unit {0}
