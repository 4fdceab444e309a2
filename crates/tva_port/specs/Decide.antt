-- Product: what a free link starts, or how long it rests.
use Rattle.std.specs.Prelude.{◌≡◌, ◌⊎◌, ℕ, ◌+◌, ◌-◌, ◌<◌, ◌≤◌, nat_le, Bool, true, false, if◌then◌else◌, List, [], ◌∷◌}
use Rattle.std.specs.Prelude.{◌++◌}
use Rattle.std.specs.Prelude.{Option, Some, None}
use Rattle.std.specs.Option.{option_map_or}
use Rattle.tva_base.specs.declared.limits.LinkLimits.{LinkLimits}
use Rattle.tva_base.specs.declared.packet.Class.{Class}
use Rattle.tva_base.specs.declared.packet.Class.TheVariants.{Request, Regular, Legacy}
use Rattle.tva_shim.specs.Packets.{PacketData, packet_length}
use Rattle.tva_drr.specs.Queues.{first, head}
use Rattle.tva_port.specs.declared.decision.Decision.{Decision}
use Rattle.tva_port.specs.declared.decision.Decision.TheVariants.{Start, WaitUntil, Idle}
use Rattle.tva_port.specs.Requests.{cost, credit}
use Rattle.tva_port.specs.Log.{Entry, Started, request_starts, free_after, entries_before}
use Rattle.tva_port.specs.Waiting.{Waiting, waiting_after, next_request}

-- the next request, where the credit covers its cost
abbrev pub covered : LinkLimits → ℕ → Option PacketData → Option PacketData
covered l credit None = None
covered l credit (Some packet) = if nat_le (cost l (packet_length packet)) credit then Some packet else None

-- the packet starts, and without one there is the other decision
abbrev pub start_or : Class → Option PacketData → Decision → Decision
start_or class packet other = option_map_or (Start class) packet other

-- the next request waits for its credit, which grows by one each nanosecond
abbrev pub wait_for : LinkLimits → ℕ → ℕ → Option PacketData → Decision
wait_for l credit now None = Idle
wait_for l credit now (Some packet) = WaitUntil (record { 0 = now + (cost l (packet_length packet) - credit) })

-- a request whose cost is covered, else the next regular packet, else the oldest legacy packet;
-- else a request waits, or the link is idle
abbrev pub decide_on : LinkLimits → Waiting → ℕ → ℕ → Decision
decide_on l w credit now =
    start_or Request (covered l credit (next_request w))
    (start_or Regular (head w.regulars.queues)
    (start_or Legacy (first w.legacy)
    (wait_for l credit now (next_request w))))

abbrev pub credit_after : LinkLimits → List Entry → ℕ → ℕ
credit_after l log now = credit l (request_starts log) now

-- the decision on a link that is free, after these entries
unfoldable pub decision : LinkLimits → List Entry → ℕ → Decision
decision l log now = decide_on l (waiting_after l log) (credit_after l log now) now

-- a packet starts
abbrev pub is_start : Decision → Bool
is_start (Start class packet) = true
is_start d = false

-- what a decision adds to the log
abbrev pub started_by : Decision → ℕ → List Entry
started_by (Start class packet) now = Started now class packet ∷ []
started_by d now = []

-- the entries with what the link starts at that time
abbrev pub after_decision : LinkLimits → List Entry → ℕ → List Entry
after_decision l log now = log ++ started_by (decision l log now) now

-- after these entries the link is busy past that time, or starts nothing then
abbrev pub RestsAt : LinkLimits → List Entry → ℕ → Type 0
RestsAt l log time = (time < free_after l log) ⊎ (is_start (decision l log time) ≡ false)

-- no start was missed before `until`: after all entries up to each earlier time, the link rests then
abbrev pub MissesNone : LinkLimits → ℕ → List Entry → Type 0
MissesNone l until log = (time : ℕ) → time < until → RestsAt l (entries_before (time + 1) log) time

-- after the decision nothing is due before that time: not while a packet that started occupies
-- the link, nor while a request waits, and never while the link is idle
abbrev pub NoneDueBefore : Decision → ℕ → ℕ → Type 0
NoneDueBefore (Start class packet) free until = until ≤ free
NoneDueBefore (WaitUntil time) free until = until ≤ time.0
NoneDueBefore Idle free until = Unit {0}

-- that time is the first from `now` on at which the credit covers the cost of the next request
pub record IsFirstCovered (l : LinkLimits) (log : List Entry) (packet : PacketData) (now time : ℕ) : Type 0 where
  pub later : now < time
  pub covers : cost l (packet_length packet) ≤ credit_after l log time
  pub lacks : (t : ℕ) → now ≤ t → t < time → credit_after l log t < cost l (packet_length packet)
