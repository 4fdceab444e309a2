-- Product: file transfers: what a host knows of them, what it sends, and what it makes of what comes in.
use Rattle.std.specs.Prelude.{ℕ, ◌==◌, ◌-◌, ◌%◌, min, nat_lt, Bool, ◌&&◌, if◌then◌else◌, List, [], ◌∷◌, ◌++◌}
use Rattle.std.specs.Prelude.{length, slice_get, slice_set, filter, position, sum_by, fold, Option, Some, None}
use Rattle.std.specs.Option.{option_map, option_map_or, option_and_then}
use Rattle.tva_base.specs.declared.{addresses.Address.Address, packet.Upper.Upper, event.DataLine.DataLine}
use Rattle.tva_base.specs.declared.packet.Upper.TheVariants.{Nothing, Data, Ack}
use Rattle.tva_shim.specs.Packets.{PacketData}
use Rattle.tva_transfer.specs.declared.transfers.Transfer.{Transfer}

-- what a host knows of files: its transfers by their numbers, and the ranges that were delivered to it in their order,
-- each with its source
pub record Files : Type 0 where
  pub transfers : List Transfer
  pub ranges : List (Address × DataLine)

-- before all
abbrev pub no_files : Files
no_files = record { transfers = []; ranges = [] }

-- what happens with files at a host: the transfer to a destination begins of so many bytes in segments of so many; a
-- tick for a destination; or a packet comes in
pub data Act : Type 0 where
  Filed : Address → ℕ → ℕ → Act
  Ticked : Address → Act
  Came : PacketData → Act

-- ## what is sent

abbrev pub begun : Address → ℕ → ℕ → Transfer
begun dst size segment = record { dst = dst; size = size; segment = segment; acked = 0 }

-- not all of it is acknowledged
abbrev pub is_open : Transfer → Bool
is_open t = nat_lt t.acked t.size

-- a transfer's number has 16 bits
abbrev pub number_of : ℕ → ℕ
number_of place = place % 65536

-- the next segment: from what is acknowledged on, a whole one or what is left
abbrev pub segment_of : ℕ → Transfer → Upper
segment_of place t = Data (number_of place) t.acked (min t.segment (t.size - t.acked))

-- what the beginning of a transfer sends
abbrev pub first_segment : Files → Address → ℕ → ℕ → Upper
first_segment files dst size segment = segment_of (length files.transfers) (begun dst size segment)

-- a transfer to the destination that isn't done
abbrev pub is_due : Address → Transfer → Bool
is_due dst t = (t.dst.0 == dst.0) && is_open t

-- what a tick sends again: the next segment of the first such transfer
unfoldable pub segment_due : Files → Address → Option Upper
segment_due files dst =
    option_and_then (λ place. option_map (segment_of place) (slice_get files.transfers place))
    (position (is_due dst) files.transfers)

-- ## what is delivered

abbrev pub is_of : Address → ℕ → Address × DataLine → Bool
is_of source transfer r = (r.0.0 == source.0) && (r.1.transfer == transfer)

-- how many bytes of a source's transfer were delivered: the next range begins there
abbrev pub next_of : Files → Address → ℕ → ℕ
next_of files source transfer = sum_by (λ r. r.1.bytes) (filter (is_of source transfer) files.ranges)

-- a range is delivered that begins there
unfoldable pub range_of : Files → Address → Upper → Option DataLine
range_of files source (Data transfer first bytes) =
    if first == next_of files source transfer
    then Some (record { transfer = transfer; first = first; bytes = bytes }) else None
range_of files source _ = None

abbrev pub with_range : Address → Option DataLine → Files → Files
with_range source None files = files
with_range source (Some r) files = record files { ranges = files.ranges ++ (source, r) ∷ [] }

-- ## what is acknowledged

-- the source acknowledges more of a transfer to it
abbrev pub is_more : Address → ℕ → Transfer → Bool
is_more source next t = (t.dst.0 == source.0) && nat_lt t.acked next

abbrev pub with_acked : Address → ℕ → Transfer → Transfer
with_acked source next t = if is_more source next t then record t { acked = next } else t

abbrev pub acknowledged : Address → ℕ → ℕ → List Transfer → List Transfer
acknowledged source transfer next ts =
    option_map_or (λ t. slice_set ts transfer (with_acked source next t)) (slice_get ts transfer) ts

-- then the next segment is sent, where there is one
abbrev pub segment_behind : Address → ℕ → ℕ → Transfer → Upper
segment_behind source transfer next t =
    if is_more source next t && nat_lt next t.size then segment_of transfer (record t { acked = next }) else Nothing

-- ## what comes in

-- what a host knows after an upper part of a source
unfoldable pub after_upper : Files → Address → Upper → Files
after_upper files source Nothing = files
after_upper files source (Data transfer first bytes) =
    with_range source (range_of files source (Data transfer first bytes)) files
after_upper files source (Ack transfer next) =
    record files { transfers = acknowledged source transfer next files.transfers }

-- what it answers: to a range how much was delivered, to an acknowledgement of more what comes next
unfoldable pub answer_to : Files → Address → Upper → Upper
answer_to files source Nothing = Nothing
answer_to files source (Data transfer first bytes) =
    Ack transfer (next_of (after_upper files source (Data transfer first bytes)) source transfer)
answer_to files source (Ack transfer next) =
    option_map_or (segment_behind source transfer next) (slice_get files.transfers transfer) Nothing

-- the packet is for the host of that address
abbrev pub is_addressed_to : Address → PacketData → Bool
is_addressed_to home p = p.flow.dst.0 == home.0

-- the upper part of a packet for the host of that address; a packet for another host is stray, whatever it brings
abbrev pub heard : Address → PacketData → Upper
heard home p = if is_addressed_to home p then p.upper else Nothing

-- the range that a packet delivers, and what it is answered with
abbrev pub delivered : Address → Files → PacketData → Option DataLine
delivered home files p = range_of files p.flow.src (heard home p)

abbrev pub answered : Address → Files → PacketData → Upper
answered home files p = answer_to files p.flow.src (heard home p)

-- ## over time

abbrev pub after_act : Address → Files → Act → Files
after_act home files (Filed dst size segment) =
    record files { transfers = files.transfers ++ begun dst size segment ∷ [] }
after_act home files (Ticked dst) = files
after_act home files (Came p) = after_upper files p.flow.src (heard home p)

-- what the host of that address knows after these acts
abbrev pub files_of : Address → List Act → Files
files_of home acts = fold (after_act home) no_files acts
