-- Product: what every legal log keeps: the rate of requests, the times of starts, and the limits of what waits.
use Rattle.std.specs.Prelude.{◌≡◌, ℕ, ◌+◌, ◌-◌, ◌<◌, ◌≤◌, nat_le, Bool, ◌&&◌, List, [], ◌∷◌, ◌++◌, filter, length, All}
use Rattle.std.specs.Prelude.{Option, Some, None}
use Rattle.std.specs.List.{filter_map}
use Rattle.tva_base.specs.declared.limits.LinkLimits.{LinkLimits}
use Rattle.tva_shim.specs.Packets.{packet_length}
use Rattle.tva_drr.specs.Queues.{bytes_in}
use Rattle.tva_drr.specs.Fair.{IsFair}
use Rattle.tva_drr.specs.Hier.{IsHier}
use Rattle.tva_port.specs.declared.requests.RequestQueues.{RequestQueues}
use Rattle.tva_port.specs.declared.requests.RequestQueues.TheVariants.{OneLevel, TwoLevels}
use Rattle.tva_port.specs.Requests.{Start, costs, cap}
use Rattle.tva_port.specs.Log.{Entry, Queued, Started, request_starts}
use Rattle.tva_port.specs.Waiting.{Waiting, waiting_after}

abbrev pub is_between : ℕ → ℕ → Start → Bool
is_between from to s = nat_le from s.time && nat_le s.time to

-- the requests that start from one time to another cost at most the cap and the time between
abbrev pub IsWithinRate : LinkLimits → List Entry → Type 0
IsWithinRate l log =
    (from to : ℕ) → from ≤ to → costs l (filter (is_between from to) (request_starts log)) ≤ cap l + (to - from)

abbrev pub start_time : Entry → Option ℕ
start_time (Queued time class key packet) = None
start_time (Started time class packet) = Some time

-- the times of all starts
abbrev pub start_times : List Entry → List ℕ
start_times log = filter_map start_time log

-- each time is later than all before it
abbrev pub AreRising : List ℕ → Type 0
AreRising [] = Unit {0}
AreRising (t ∷ ts) = All (λ u. t < u) ts × AreRising ts

-- the requests are in queues of the link's number of levels, and within their limits
abbrev pub AreWithin : LinkLimits → RequestQueues → Type 0
AreWithin l (OneLevel f) = (l.request_inner ≡ None) × IsFair packet_length f × (f.limits ≡ l.request)
AreWithin l (TwoLevels h) = (l.request_inner ≡ Some h.inner) × IsHier packet_length h × (h.limits ≡ l.request)

-- what waits is within the limits of each class
pub record IsWithinLimits (l : LinkLimits) (w : Waiting) : Type 0 where
  pub requests : AreWithin l w.requests
  pub regulars : IsFair packet_length w.regulars × (w.regulars.limits ≡ l.regular)
  pub legacy : (length w.legacy ≤ l.legacy_ring) × (bytes_in packet_length w.legacy ≤ l.legacy_bytes)

-- what waits is within the limits after each entry, and before the first
abbrev pub StaysWithinLimits : LinkLimits → List Entry → Type 0
StaysWithinLimits l log = (before rest : List Entry) → log ≡ before ++ rest → IsWithinLimits l (waiting_after l before)
