-- Product: what is told of a node's log: the events of a report, and what its links send.
use Rattle.std.specs.Prelude.{ℕ, ◌+◌, ◌*◌, List, map, Option, Some, None}
use Rattle.std.specs.Option.{option_map, option_map_or, option_and_then}
use Rattle.std.specs.List.{filter_map}
use Rattle.tva_base.specs.declared.packet.Time.{Time}
use Rattle.tva_base.specs.declared.packet.Outcome.{Outcome}
use Rattle.tva_base.specs.declared.event.Event.{Event}
use Rattle.tva_base.specs.declared.event.ReplyLine.{ReplyLine}
use Rattle.tva_base.specs.declared.event.BackKind.{BackKind}
use Rattle.tva_base.specs.declared.event.BackKind.TheVariants as became
use Rattle.tva_base.specs.declared.event.Happened as happened
use Rattle.tva_base.specs.declared.event.Happened.TheVariants as happens
use Rattle.tva_shim.specs.declared.kinds.ReturnInfo.{ReturnInfo}
use Rattle.tva_shim.specs.declared.kinds.ReturnInfo.TheVariants as backs
use Rattle.tva_shim.specs.Packets.{PacketData, packet_length}
use Rattle.tva_host.specs.declared.made.Made.{Made}
use Rattle.tva_shim.specs.Shows.{back_in}
use Rattle.tva_run.specs.declared.kinds.Sending.{Sending}
use Rattle.tva_run.specs.Sites.{Site, link_out}
use Rattle.tva_run.specs.Entries.{Content, Arrived, Sent, Ticked, Received, Entry, Took, Started, entry_time}

abbrev pub at_time : ℕ → Time
at_time time = record { 0 = time }

-- ## starts

-- when the link is free again on which a packet starts at a time
abbrev pub free_again : Site → ℕ → ℕ → PacketData → ℕ
free_again site time link packet =
    option_map_or (λ o. time + packet_length packet * o.1.limits.ns_per_byte) (link_out site link) time

-- when a packet arrives at the link's other end
abbrev pub arrives : Site → ℕ → ℕ → PacketData → ℕ
arrives site time link packet =
    option_map_or (λ o. time + packet_length packet * o.1.limits.ns_per_byte + o.1.delay) (link_out site link) time

abbrev pub sending_of : Site → Entry → Option Sending
sending_of site (Took input content) = None
sending_of site (Started time link class packet) =
    Some (record { link = link; arrive = at_time (arrives site time link packet); packet = packet })

-- what the links of a node send: one packet a start, in the same order
abbrev pub sendings : Site → List Entry → List Sending
sendings site log = filter_map (sending_of site) log

-- ## events

-- what return info a reply brings
abbrev pub brings : ReturnInfo → BackKind
brings backs.Nothing = became.Nothing
brings backs.Notice = became.Notice
brings (backs.Grant rights caps) = became.Grant

abbrev pub reply_line : Made → Outcome → ReplyLine
reply_line made outcome = record {
  id = made.packet.id;
  length = packet_length made.packet;
  shape = made.shape;
  back = brings (back_in made.packet.carried);
  outcome = outcome;
}

abbrev pub reply_told : Option Made → Option Outcome → Option ReplyLine
reply_told reply went = option_and_then (λ made. option_map (reply_line made) went) reply

abbrev pub content_told : Content → happened.Happened
content_told (Arrived from packet fate onward) = happens.Arrived packet.id (packet_length packet) from fate
content_told (Sent made outcome) = happens.Sent made.packet.id (packet_length made.packet) made.shape outcome
content_told Ticked = happens.Ticked
content_told (Received from packet receipt went range) =
    happens.Received packet.id (packet_length packet) from packet.payload receipt.what receipt.back
    (reply_told receipt.reply went) range

abbrev pub entry_told : Site → Entry → happened.Happened
entry_told site (Took input content) = content_told content
entry_told site (Started time link class packet) =
    happens.Started packet.id (packet_length packet) link class (at_time (free_again site time link packet))

-- the event of an entry
abbrev pub event_of : Site → Entry → Event
event_of site e = record { time = at_time (entry_time e); node = site.number; happened = entry_told site e }

-- the events of a node: one an entry, in the same order
abbrev pub events : Site → List Entry → List Event
events site log = map (event_of site) log
