-- Product: the packet that the fields of the program's packet tell.
use Rattle.tva_shim.specs.{declared.packets.Packet.TheInside.Inside, Packets.PacketData, Packets.packet_with}

abbrev pub packet_of_fields : Inside → PacketData
packet_of_fields p = packet_with p.id p.flow p.hops p.payload p.carried p.upper
