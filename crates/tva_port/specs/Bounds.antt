-- Product: how soon a packet that is queued starts, and how evenly queues are served, whatever others send.
use Rattle.std.specs.Prelude.{◌≡◌, ◌≢◌, ℕ, zero, suc, ◌+◌, ◌-◌, ◌*◌, ◌<◌, ◌≤◌, Bool, true, false, ◌&&◌, if◌then◌else◌}
use Rattle.std.specs.Prelude.{List, [], ◌∷◌, ◌++◌, length, Option, Some, None}
use Rattle.std.specs.Int.{div_ceil}
use Rattle.tva_base.specs.declared.limits.DrrLimits.{DrrLimits}
use Rattle.tva_base.specs.declared.limits.LinkLimits.{LinkLimits}
use Rattle.tva_base.specs.declared.packet.Class.{Class}
use Rattle.tva_base.specs.declared.packet.Class.TheVariants.{Request, Regular, Legacy}
use Rattle.tva_shim.specs.Packets.{PacketData, packet_length}
use Rattle.tva_drr.specs.Queues.{Queue, has_key, items_of, bytes_in}
use Rattle.tva_drr.specs.Service.{is_front, most_until}
use Rattle.tva_drr.specs.GroupsAhead.{most_until_under}
use Rattle.tva_port.specs.Levels.{requests_with, are_next, single_queues}
use Rattle.tva_port.specs.Requests.{cost}
use Rattle.tva_port.specs.Log.{Entry, Queued, Started}
use Rattle.tva_port.specs.Waiting.{Waiting, same_class, waiting_after}

-- the packets that wait in the queue of a packet of a class under a key, oldest first: on a link with two levels a
-- request waits with those that have its key and its inner key
abbrev pub queue_with : Class → ℕ → PacketData → Waiting → List PacketData
queue_with Request key packet w = requests_with w.requests key packet
queue_with Regular key packet w = items_of key w.regulars.queues
queue_with Legacy key packet w = []

-- the next packet of the class is the first of that queue
abbrev pub is_next : Class → ℕ → PacketData → Waiting → Bool
is_next Request key packet w = are_next w.requests key packet
is_next Regular key packet w = is_front key w.regulars.queues
is_next Legacy key packet w = false

-- the packets that wait with a packet after these entries
abbrev pub waiting_with : LinkLimits → Class → ℕ → PacketData → List Entry → List PacketData
waiting_with l class key packet log = queue_with class key packet (waiting_after l log)

-- after the entries before it, an entry is the start of the first of these
abbrev pub starts_first : LinkLimits → Class → ℕ → PacketData → List Entry → Entry → Bool
starts_first l class key packet before (Queued time c k p) = false
starts_first l class key packet before (Started time c p) =
    same_class c class && is_next class key packet (waiting_after l before)

-- where so many packets wait before a packet in its queue, its start among the later entries
abbrev pub start_among : LinkLimits → Class → ℕ → PacketData → ℕ → List Entry → List Entry → Option Entry
start_among l class key packet ahead before [] = None
start_among l class key packet zero before (e ∷ es) =
    if starts_first l class key packet before e then Some e
    else start_among l class key packet zero (before ++ e ∷ []) es
start_among l class key packet (suc n) before (e ∷ es) =
    start_among l class key packet (if starts_first l class key packet before e then n else suc n) (before ++ e ∷ []) es

-- the packet that these entries queued last in its queue starts among the later ones by that time
pub record StartsBy (l : LinkLimits) (class : Class) (key : ℕ) (packet : PacketData)
    (before later : List Entry) (time : ℕ) : Type 0 where
  pub start : ℕ
  pub found : start_among l class key packet (length (waiting_with l class key packet before) - 1) before later
      ≡ Some (Started start class packet)
  pub soon : start ≤ time

-- the most bytes of requests that go up to one and with it, where its queue has so many up to it and with it
abbrev pub requests_until : DrrLimits → Option ℕ → ℕ → ℕ
requests_until l None bytes = most_until l bytes
requests_until l (Some inner) bytes = most_until_under l inner bytes

-- the most nanoseconds that a request waits, where its queue has so many bytes up to it and with it:
-- the most bytes of requests that go up to it, and two greatest packets, at the rate of requests
abbrev pub request_bound : LinkLimits → ℕ → ℕ
request_bound l bytes = cost l (requests_until l.request l.request_inner bytes + 2 * l.request.max)

-- and a regular packet: the most bytes of regular packets that go up to it, a greatest packet and a
-- burst of requests, at the rate that requests leave, of `share` parts all but one
abbrev pub regular_bound : LinkLimits → ℕ → ℕ
regular_bound l bytes = div_ceil (cost l (most_until l.regular bytes + l.regular.max + l.burst)) (l.share - 1)

-- the bytes that wait with a packet of a class under a key after these entries
abbrev pub bytes_with : LinkLimits → Class → ℕ → PacketData → List Entry → ℕ
bytes_with l class key packet log = bytes_in packet_length (waiting_with l class key packet log)

-- each packet of a class in a log whose bound is over by that time has started by its bound, which is so many
-- nanoseconds after it was queued: those that `wait` gives for the bytes that waited with it then
abbrev pub AreServed : LinkLimits → Class → (ℕ → ℕ) → ℕ → List Entry → Type 0
AreServed l class wait now log =
    (before later : List Entry) (time key bound : ℕ) (packet : PacketData)
    → log ≡ before ++ Queued time class key packet ∷ later
    → bound ≡ time + wait (bytes_with l class key packet (before ++ Queued time class key packet ∷ []))
    → bound ≤ now → StartsBy l class key packet (before ++ Queued time class key packet ∷ []) later bound

-- the queues of a class by its keys alone; legacy packets have none, and requests on a link with two levels neither
abbrev pub class_queues : Class → Waiting → List (Queue PacketData)
class_queues Request w = single_queues w.requests
class_queues Regular w = w.regulars.queues
class_queues Legacy w = []

-- after the entries before it, the bytes of an entry that is the start of the first packet under a key
abbrev pub bytes_of_start : LinkLimits → Class → ℕ → List Entry → Entry → ℕ
bytes_of_start l class key before (Queued time c k packet) = 0
bytes_of_start l class key before (Started time c packet) =
    if same_class c class && is_front key (class_queues class (waiting_after l before)) then packet_length packet else 0

-- the bytes that start under a key among some entries
abbrev pub bytes_started : LinkLimits → Class → ℕ → List Entry → List Entry → ℕ
bytes_started l class key before [] = 0
bytes_started l class key before (e ∷ es) =
    bytes_of_start l class key before e + bytes_started l class key (before ++ e ∷ []) es

-- before and after each of some entries something waits under the key
abbrev pub IsNeverEmpty : LinkLimits → Class → ℕ → List Entry → List Entry → Type 0
IsNeverEmpty l class key before [] = has_key key (class_queues class (waiting_after l before)) ≡ true
IsNeverEmpty l class key before (e ∷ es) =
    (has_key key (class_queues class (waiting_after l before)) ≡ true) × IsNeverEmpty l class key (before ++ e ∷ []) es

-- from one place of a log to another, two keys of a class under which something waits all along start less than so many
-- bytes more than each other
abbrev pub AreServedAlike : LinkLimits → Class → ℕ → List Entry → List Entry → Type 0
AreServedAlike l class more before between =
    (a b : ℕ) → a ≢ b → IsNeverEmpty l class a before between → IsNeverEmpty l class b before between
    → bytes_started l class a before between < bytes_started l class b before between + more

-- so it is from any place of a log to any other, with a quantum and two greatest packets; on a link with two levels
-- this says nothing of requests, which wait under two keys
abbrev pub ServesAlike : LinkLimits → List Entry → Type 0
ServesAlike l log =
    (before between rest : List Entry) → log ≡ before ++ between ++ rest
    → AreServedAlike l Request (l.request.quantum + 2 * l.request.max) before between
    × AreServedAlike l Regular (l.regular.quantum + 2 * l.regular.max) before between
