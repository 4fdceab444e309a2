-- Product: the log of a link's port: which packets were queued there and which started, oldest first.
use Rattle.std.specs.Prelude.{ℕ, ◌+◌, ◌*◌, ◌≤◌, nat_lt, List, [], ◌∷◌, filter, All, Option, Some, None}
use Rattle.std.specs.List.{filter_map}
use Rattle.tva_base.specs.declared.limits.LinkLimits.{LinkLimits}
use Rattle.tva_base.specs.declared.packet.Class.{Class}
use Rattle.tva_base.specs.declared.packet.Class.TheVariants.{Request}
use Rattle.tva_shim.specs.Packets.{PacketData, packet_length}
use Rattle.tva_port.specs.Requests.{Start, start}

-- at a time, in nanoseconds, a packet of a class was queued under a key, or a packet of a class started
pub data Entry : Type 0 where
  Queued : (time : ℕ) (class : Class) (key : ℕ) (packet : PacketData) → Entry
  Started : (time : ℕ) (class : Class) (packet : PacketData) → Entry

abbrev pub entry_time : Entry → ℕ
entry_time (Queued time class key packet) = time
entry_time (Started time class packet) = time

-- no entry is later than that
abbrev pub NoneLater : ℕ → List Entry → Type 0
NoneLater time log = All (λ e. entry_time e ≤ time) log

-- the entries before a time
abbrev pub entries_before : ℕ → List Entry → List Entry
entries_before until log = filter (λ e. nat_lt (entry_time e) until) log

abbrev pub request_start : Entry → Option Start
request_start (Started time Request packet) = Some (start time (packet_length packet))
request_start e = None

-- the starts of requests
abbrev pub request_starts : List Entry → List Start
request_starts log = filter_map request_start log

-- the end of the last start, and `free` where nothing started: a packet occupies the link for
-- `ns_per_byte` nanoseconds a byte
abbrev pub free_from : LinkLimits → ℕ → List Entry → ℕ
free_from l free [] = free
free_from l free (Queued time class key packet ∷ es) = free_from l free es
free_from l free (Started time class packet ∷ es) = free_from l (time + packet_length packet * l.ns_per_byte) es

-- when the link is free after these entries
abbrev pub free_after : LinkLimits → List Entry → ℕ
free_after l log = free_from l 0 log
