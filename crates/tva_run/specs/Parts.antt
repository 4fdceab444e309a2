-- Product: what the parts of a node met: each is a projection of the node's log.
use Rattle.std.specs.Prelude.{ℕ, ◌==◌, Bool, true, false, if◌then◌else◌, List, count_by, Option, Some, None}
use Rattle.std.specs.Option.{option_map, option_and_then}
use Rattle.std.specs.List.{filter_map}
use Rattle.tva_base.specs.declared.packet.Class.{Class}
use Rattle.tva_base.specs.declared.packet.Grant.{Grant}
use Rattle.tva_base.specs.declared.packet.Upper.{Upper}
use Rattle.tva_base.specs.declared.packet.Upper.TheVariants as upper
use Rattle.tva_base.specs.declared.plan.HostPlan.{HostPlan}
use Rattle.tva_base.specs.declared.packet.Outcome.{Outcome}
use Rattle.tva_base.specs.declared.packet.Outcome.TheVariants.{Queued, Dropped}
use Rattle.tva_shim.specs.Packets.{PacketData, packet_length, class_by_shim}
use Rattle.tva_shim.specs.Shows.{key_of, nonce_in}
use Rattle.tva_flow.specs.Charges.{Charge, charge}
use Rattle.tva_port.specs.Log as port
use Rattle.tva_router.specs.Handling.{PortLogs}
use Rattle.tva_host.specs.declared.made.Made.{Made}
use Rattle.tva_host.specs.Calls.{Call, Intended, Injected, Received}
use Rattle.tva_host.specs.Receiving.{upper_of}
use Rattle.tva_transfer.specs.Files.{Files, Act, Filed, Ticked, Came, files_of}
use Rattle.tva_rows.specs.declared.rows.RowWhat.{RowWhat}
use Rattle.tva_rows.specs.declared.rows.RowWhat.TheVariants.{Send, Inject, File, Tick}
use Rattle.tva_run.specs.declared.kinds.Input.{Input}
use Rattle.tva_run.specs.declared.kinds.Input.TheVariants.{FromTrace, Arrival}
use Rattle.tva_run.specs.Entries.{Content, Entry, Took, Started, input_time}
use Rattle.tva_run.specs.Entries as entry

-- ## the ports of the links

-- a packet of a class that was queued at the port of that link
abbrev pub queued_at : ℕ → ℕ → Outcome → Class → PacketData → Option port.Entry
queued_at link time (Queued on) class packet =
    if link == on then Some (port.Queued time class (key_of class packet) packet) else None
queued_at link time (Dropped cause) class packet = None

-- a packet that a host made or that a row injected there has its class by its shim
abbrev pub made_at : ℕ → ℕ → Made → Outcome → Option port.Entry
made_at link time made outcome = queued_at link time outcome (class_by_shim made.packet.carried) made.packet

abbrev pub reply_at : ℕ → ℕ → Option Made → Option Outcome → Option port.Entry
reply_at link time reply went = option_and_then (λ made. option_and_then (made_at link time made) went) reply

abbrev pub content_at : ℕ → ℕ → Content → Option port.Entry
content_at link time (entry.Arrived from packet fate onward) = queued_at link time fate.outcome fate.class onward
content_at link time (entry.Sent made outcome) = made_at link time made outcome
content_at link time entry.Ticked = None
content_at link time (entry.Received from packet receipt went range) = reply_at link time receipt.reply went

-- what an entry is in the log of a link's port
abbrev pub port_entry : ℕ → Entry → Option port.Entry
port_entry link (Took input content) = content_at link (input_time input) content
port_entry link (Started time on class packet) =
    if link == on then Some (port.Started time class packet) else None

-- the log of each link's port
abbrev pub port_logs : List Entry → PortLogs
port_logs log link = filter_map (port_entry link) log

-- ## a router's charges

abbrev pub charged : ℕ → PacketData → Grant → Charge
charged time packet grant = charge time grant (nonce_in packet.carried) (packet_length packet)

abbrev pub charge_of : Entry → Option Charge
charge_of (Took input (entry.Arrived from packet fate onward)) =
    option_map (charged (input_time input) packet) fate.charge
charge_of _ = None

abbrev pub charges : List Entry → List Charge
charges log = filter_map charge_of log

-- ## the rows that were taken

abbrev pub is_row : Entry → Bool
is_row (Took (FromTrace row) content) = true
is_row _ = false

abbrev pub count_of_rows : List Entry → ℕ
count_of_rows log = count_by is_row log

-- ## the calls on a host

-- a row is a packet that is injected, or one that is sent, with the segment of a file that it brings
abbrev pub call_of_row : ℕ → RowWhat → PacketData → Call
call_of_row time (Send dst payload) packet = Intended time dst payload upper.Nothing
call_of_row time (Inject flow payload carried) packet = Injected flow payload carried
call_of_row time (File dst size segment) packet = Intended time dst packet.payload packet.upper
call_of_row time (Tick dst) packet = Intended time dst packet.payload packet.upper

-- the packet that a host made for a row, and what it answered to one that came in
abbrev pub packet_sent : Content → Option PacketData
packet_sent (entry.Sent made outcome) = Some made.packet
packet_sent _ = None

abbrev pub answer_in : Content → Upper
answer_in (entry.Received from packet receipt went range) = upper_of receipt.reply
answer_in _ = upper.Nothing

abbrev pub call_of_input : Input → Content → Option Call
call_of_input (FromTrace row) content = option_map (call_of_row row.time.0 row.what) (packet_sent content)
call_of_input (Arrival time link packet) content = Some (Received time.0 packet (answer_in content))

abbrev pub call_of : Entry → Option Call
call_of (Took input content) = call_of_input input content
call_of (Started time link class packet) = None

-- the calls of these entries: one an input for which something is sent or that comes in, in the same order
abbrev pub calls : List Entry → List Call
calls log = filter_map call_of log

-- ## the transfers of a host

abbrev pub act_of_row : RowWhat → Option Act
act_of_row (File dst size segment) = Some (Filed dst size segment)
act_of_row (Tick dst) = Some (Ticked dst)
act_of_row _ = None

abbrev pub act_of_input : Input → Option Act
act_of_input (FromTrace row) = act_of_row row.what
act_of_input (Arrival time link packet) = Some (Came packet)

abbrev pub act_of : Entry → Option Act
act_of (Took input content) = act_of_input input
act_of (Started time link class packet) = None

-- what happened with files in these entries, and what the host knows of them then
abbrev pub acts : List Entry → List Act
acts log = filter_map act_of log

abbrev pub files : HostPlan → List Entry → Files
files plan log = files_of plan.address (acts log)
