-- Product: what waits at a port after a log, by the offers and takes of its queues.
use Rattle.std.specs.Prelude.{◌≡◌, ℕ, ◌+◌, nat_lt, Bool, true, false, ◌||◌, if◌then◌else◌, List, [], ◌∷◌, drop, length}
use Rattle.std.specs.Prelude.{count_by, Option, Some, None}
use Rattle.std.specs.List.{fold, filter_map}
use Rattle.tva_base.specs.declared.limits.LinkLimits.{LinkLimits}
use Rattle.tva_base.specs.declared.packet.Class.{Class}
use Rattle.tva_base.specs.declared.packet.Class.TheVariants.{Request, Regular, Legacy}
use Rattle.tva_shim.specs.Packets.{PacketData, packet_length}
use Rattle.tva_drr.specs.declared.offered.Offered.{Offered}
use Rattle.tva_drr.specs.declared.offered.Offered.TheVariants as offers
use Rattle.tva_drr.specs.Queues.{Fair, fair, bytes_in}
use Rattle.tva_drr.specs.Offer.{offer_answer, offer_leaves}
use Rattle.tva_drr.specs.Take.{take_leaves}
use Rattle.tva_port.specs.declared.requests.RequestQueues.{RequestQueues}
use Rattle.tva_port.specs.Levels.{no_requests, next_in, request_answer, request_leaves, request_taken, AreNone}
use Rattle.tva_port.specs.Log.{Entry, Queued, Started}

-- requests in the queues of their link, regular packets in fair queues, and legacy packets, oldest first
pub record Waiting : Type 0 where
  pub requests : RequestQueues
  pub regulars : Fair PacketData
  pub legacy : List PacketData

abbrev pub waiting : RequestQueues → Fair PacketData → List PacketData → Waiting
waiting requests regulars legacy = record { requests = requests; regulars = regulars; legacy = legacy }

abbrev pub same_class : Class → Class → Bool
same_class Request Request = true
same_class Regular Regular = true
same_class Legacy Legacy = true
same_class a b = false

-- the queues of a class after one more entry: a queued packet is offered to them, and a start takes from them
abbrev pub class_step : {Q : Type 0} → Class → (Q → ℕ → PacketData → Q) → (Q → Q) → Q → Entry → Q
class_step c offer take queues (Queued time class key packet) =
    if same_class class c then offer queues key packet else queues
class_step c offer take queues (Started time class packet) = if same_class class c then take queues else queues

-- the requests that wait after one more entry, and the regular packets that do
abbrev pub request_step : RequestQueues → Entry → RequestQueues
request_step queues e = class_step Request request_leaves request_taken queues e

abbrev pub regular_step : Fair PacketData → Entry → Fair PacketData
regular_step queues e = class_step Regular (offer_leaves packet_length) (take_leaves packet_length) queues e

abbrev pub queued_legacy : Entry → Option PacketData
queued_legacy (Queued time Legacy key packet) = Some packet
queued_legacy e = None

abbrev pub is_legacy_start : Entry → Bool
is_legacy_start (Started time Legacy packet) = true
is_legacy_start e = false

-- the queued legacy packets that did not start: as many of the oldest are gone as started
abbrev pub legacy_after : List Entry → List PacketData
legacy_after log = drop (count_by is_legacy_start log) (filter_map queued_legacy log)

-- what waits after these entries at a port that began empty
abbrev pub waiting_after : LinkLimits → List Entry → Waiting
waiting_after l log =
    waiting (fold request_step (no_requests l) log) (fold regular_step (fair l.regular []) log) (legacy_after log)

-- the request that is the next to start
abbrev pub next_request : Waiting → Option PacketData
next_request w = next_in w.requests

-- with the packet too many legacy packets would wait, or too many of their bytes
abbrev pub lacks_legacy_room : LinkLimits → List PacketData → PacketData → Bool
lacks_legacy_room l packets packet =
    nat_lt l.legacy_ring (length packets + 1)
    || nat_lt l.legacy_bytes (bytes_in packet_length packets + packet_length packet)

-- what the port answers to a packet of a class with a key, of which a legacy packet needs none
abbrev pub queue_answer : LinkLimits → Waiting → Class → ℕ → PacketData → Offered PacketData
queue_answer l w Request key packet = request_answer w.requests key packet
queue_answer l w Regular key packet = offer_answer packet_length w.regulars key packet
queue_answer l w Legacy key packet =
    if lacks_legacy_room l w.legacy packet then offers.QueueFull packet else offers.Queued

abbrev pub is_queued : Offered PacketData → Bool
is_queued offers.Queued = true
is_queued answer = false

-- nothing waits
pub record IsEmpty (w : Waiting) : Type 0 where
  pub requests : AreNone w.requests
  pub regulars : w.regulars.queues ≡ []
  pub legacy : w.legacy ≡ []

-- that request is the next to start, and nothing but requests waits
pub record IsRequestAlone (w : Waiting) (packet : PacketData) : Type 0 where
  pub request : next_request w ≡ Some packet
  pub regulars : w.regulars.queues ≡ []
  pub legacy : w.legacy ≡ []

-- what an answer adds to the log
abbrev pub queued_by : Offered PacketData → ℕ → Class → ℕ → PacketData → List Entry
queued_by offers.Queued time class key packet = Queued time class key packet ∷ []
queued_by answer time class key packet = []
