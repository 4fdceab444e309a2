-- Product: what a node makes of an input, over what stands before it in its log.
use Rattle.std.specs.Prelude.{ℕ, List, Option, Some, None}
use Rattle.std.specs.Option.{option_map}
use Rattle.tva_base.specs.declared.packet.PacketId.{PacketId}
use Rattle.tva_base.specs.declared.packet.Outcome.{Outcome}
use Rattle.tva_base.specs.declared.plan.RouterPlan.{RouterPlan}
use Rattle.tva_base.specs.declared.plan.HostPlan.{HostPlan}
use Rattle.tva_base.specs.declared.event.ShapeKind.TheVariants as shape
use Rattle.tva_base.specs.declared.packet.Upper.{Upper}
use Rattle.tva_base.specs.declared.packet.Upper.TheVariants as upper
use Rattle.tva_base.specs.declared.addresses.Address.{Address}
use Rattle.tva_base.specs.declared.event.DataLine.{DataLine}
use Rattle.tva_shim.specs.Packets.{PacketData, class_by_shim, made_packet, upper_size}
use Rattle.tva_base.specs.Changes.{in_force}
use Rattle.tva_router.specs.Handling.{Handled, handle, sent}
use Rattle.tva_router.specs.Boots.{charges_at}
use Rattle.tva_host.specs.declared.made.Made.{Made}
use Rattle.tva_host.specs.declared.made.Receipt.{Receipt}
use Rattle.tva_base.specs.Ordinals.{ordinal_behind}
use Rattle.tva_host.specs.History.{History}
use Rattle.tva_host.specs.Calls.{history_of}
use Rattle.tva_host.specs.Sending.{intended, next_packet}
use Rattle.tva_host.specs.Receiving.{receipt_of}
use Rattle.tva_transfer.specs.Files.{Files, answered, delivered, first_segment, segment_due}
use Rattle.tva_plan.specs.declared.config.NodePlan.TheVariants.{Router, Host}
use Rattle.tva_rows.specs.declared.rows.RowWhat.{RowWhat}
use Rattle.tva_rows.specs.declared.rows.RowWhat.TheVariants.{Send, Inject, File, Tick}
use Rattle.tva_plan.specs.declared.config.NodePlan.{NodePlan}
use Rattle.tva_run.specs.declared.kinds.Input.{Input}
use Rattle.tva_run.specs.declared.kinds.Input.TheVariants.{FromTrace, Arrival}
use Rattle.tva_run.specs.Sites.{Site, limits_out}
use Rattle.tva_run.specs.Entries.{Content, Arrived, Sent, Ticked, Received, Entry}
use Rattle.tva_run.specs.Parts.{charges, port_logs, count_of_rows, calls, files}

-- ## at a router

-- the packet of a row; a router takes no row that sends
abbrev pub packet_of_row : PacketId → RowWhat → Option PacketData
packet_of_row id (Inject flow payload carried) = Some (made_packet id flow payload carried)
packet_of_row id _ = None

-- the next packet from the trace: they are numbered from 1 on, and those of links are not counted
abbrev pub next_id : ℕ → List Entry → PacketId
next_id number before = record { node = number; ordinal = ordinal_behind (count_of_rows before) }

-- what becomes of a packet that comes in on a link, or from the trace: by the plan in force, over the charges of the
-- boot
abbrev pub handled : RouterPlan → List Entry → ℕ → Option ℕ → PacketData → Handled
handled plan before now from packet =
    handle (in_force plan now) (charges_at plan now (charges before)) (port_logs before) now from packet

-- what a router makes of it
unfoldable pub arrived : RouterPlan → List Entry → ℕ → Option ℕ → PacketData → Content
arrived plan before now from packet =
    Arrived from packet (handled plan before now from packet).fate (handled plan before now from packet).onward

abbrev pub routed : ℕ → RouterPlan → List Entry → Input → Option Content
routed number plan before (FromTrace row) =
    option_map (arrived plan before row.time.0 None) (packet_of_row (next_id number before) row.what)
routed number plan before (Arrival time link packet) = Some (arrived plan before time.0 (Some link) packet)

-- ## at a host

-- where a packet ends up that is offered to the host's one link
abbrev pub goes_out : Site → HostPlan → List Entry → PacketData → Outcome
goes_out site plan before packet =
    sent (port_logs before) (class_by_shim packet.carried) packet (limits_out site plan.uplink)

-- the packet of a host to a destination that brings a segment
abbrev pub sent_with : ℕ → HostPlan → History → ℕ → Address → Upper → Made
sent_with number plan h now dst above = intended number plan h now dst (upper_size above) above

-- the packet that a host makes for a row, or that the row injects; for a tick there may be none
abbrev pub made_for : ℕ → HostPlan → History → Files → ℕ → RowWhat → Option Made
made_for number plan h known now (Send dst payload) = Some (intended number plan h now dst payload upper.Nothing)
made_for number plan h known now (Inject flow payload carried) =
    Some (record { packet = next_packet number h flow payload carried; shape = shape.Trace })
made_for number plan h known now (File dst size segment) =
    Some (sent_with number plan h now dst (first_segment known dst size segment))
made_for number plan h known now (Tick dst) = option_map (sent_with number plan h now dst) (segment_due known dst)

abbrev pub sent_out : Site → HostPlan → List Entry → Option Made → Content
sent_out site plan before None = Ticked
sent_out site plan before (Some made) = Sent made (goes_out site plan before made.packet)

abbrev pub receipt_content : Site → HostPlan → List Entry → ℕ → PacketData → Receipt → Option DataLine → Content
receipt_content site plan before link packet receipt range =
    Received link packet receipt (option_map (λ made. goes_out site plan before made.packet) receipt.reply) range

-- a packet that comes in is answered, and delivers, by what the host knows of files
abbrev pub hosted : Site → HostPlan → List Entry → Input → Content
hosted site plan before (FromTrace row) =
    sent_out site plan before
    (made_for site.number plan (history_of plan (calls before)) (files plan before) row.time.0 row.what)
hosted site plan before (Arrival time link packet) =
    receipt_content site plan before link packet
    (receipt_of site.number plan (history_of plan (calls before)) time.0 packet
    (answered plan.address (files plan before) packet))
    (delivered plan.address (files plan before) packet)

-- ## at a node

abbrev pub content_by : Site → NodePlan → List Entry → Input → Option Content
content_by site (Router plan) before input = routed site.number plan before input
content_by site (Host plan) before input = Some (hosted site plan before input)

-- what a node makes of an input, after these entries
abbrev pub content : Site → List Entry → Input → Option Content
content site before input = content_by site site.plan before input
