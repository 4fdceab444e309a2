-- Kit: how many packets wait at a port, how many places there are, and the memory for packets by value.
use Rattle.std.specs.Prelude.{ℕ, ◌+◌, ◌*◌, length, Option, Some, None}
use Rattle.tva_base.specs.declared.limits.DrrLimits.{DrrLimits}
use Rattle.tva_base.specs.declared.limits.LinkLimits.{LinkLimits}
use Rattle.tva_shim.specs.Packets.{PacketData}
use Rattle.tva_drr.specs.declared.offered.Offered.{Offered}
use Rattle.tva_drr.specs.declared.offered.Offered.TheVariants.{Queued}
use Rattle.tva_drr.specs.Queues.{Fair, all_bytes}
use Rattle.tva_drr.specs.Groups.{all_group_bytes}
use Rattle.tva_port.specs.declared.requests.RequestQueues.{RequestQueues}
use Rattle.tva_port.specs.declared.requests.RequestQueues.TheVariants.{OneLevel, TwoLevels}
use Rattle.tva_port.specs.declared.decision.Decision.{Decision}
use Rattle.tva_port.specs.declared.decision.Decision.TheVariants.{Start}
use Rattle.tva_port.specs.Waiting.{Waiting}

-- a measure by which a sum counts
abbrev pub one : PacketData → ℕ
one packet = 1

-- how many packets wait in fair queues, how many requests wait, and how many packets in all
abbrev pub count_of : Fair PacketData → ℕ
count_of f = all_bytes one f.queues

abbrev pub request_count : RequestQueues → ℕ
request_count (OneLevel f) = count_of f
request_count (TwoLevels h) = all_group_bytes one h.groups

abbrev pub waiting_count : Waiting → ℕ
waiting_count w = request_count w.requests + count_of w.regulars + length w.legacy

-- how many packets an answer says are queued, and how many a decision starts
abbrev pub queued_count : Offered PacketData → ℕ
queued_count Queued = 1
queued_count answer = 0

abbrev pub started_count : Decision → ℕ
started_count (Start class packet) = 1
started_count d = 0

-- how many places there are in the queues of a class: as many as a ring has for each queue, of which there are so
-- many behind each key on a link with two levels
abbrev pub places_under : DrrLimits → Option ℕ → ℕ
places_under l None = l.queues * l.ring
places_under l (Some inner) = l.queues * (inner * l.ring)

abbrev pub request_places : LinkLimits → ℕ
request_places l = places_under l.request l.request_inner

-- how many there are at a port
abbrev pub places_in : LinkLimits → ℕ
places_in l = request_places l + l.regular.queues * l.regular.ring + l.legacy_ring

-- for how many packets there is memory, and for how many there is room
pub record StockData : Type 0 where
  pub count : ℕ
  pub room : ℕ

abbrev pub stock_data : ℕ → ℕ → StockData
stock_data count room = record { count = count; room = room }

-- how many packets a hand holds
abbrev pub hand_count : Option PacketData → ℕ
hand_count None = 0
hand_count (Some packet) = 1
