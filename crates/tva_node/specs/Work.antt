-- Kit: when there is work at a node, and how far it is within one time.
use Rattle.std.specs.Prelude.{◌≡◌, ℕ, ◌+◌, ◌*◌, ◌≤◌, ◌<◌, ◌==◌, ◌⊎◌, Bool, false, List, [], ◌∷◌, All, take, drop}
use Rattle.std.specs.Prelude.{Option, Some, None, IfSome}
use Rattle.std.specs.Option.{option_and_then}
use Rattle.tva_base.specs.declared.event.Event.{Event}
use Rattle.tva_base.specs.declared.event.Happened.{Happened}
use Rattle.tva_base.specs.declared.event.Happened.TheVariants as happens
use Rattle.tva_base.specs.declared.packet.Outcome.{Outcome}
use Rattle.tva_base.specs.declared.packet.Outcome.TheVariants.{Queued, Dropped}
use Rattle.tva_base.specs.declared.packet.Class.{Class}
use Rattle.tva_shim.specs.Packets.{PacketData, packet_length}
use Rattle.tva_run.specs.declared.kinds.Sending.{Sending}
use Rattle.tva_run.specs.Told.{at_time}
use Rattle.tva_run.specs.declared.kinds.Input.{Input}
use Rattle.tva_run.specs.Entries.{Entry, input_time}
use Rattle.tva_run.specs.Sites.{Site}
use Rattle.tva_run.specs.NodeLog.{in_turn, due}
pub use Rattle.tva_waiting.specs.Inputs.{first_time}
use Rattle.tva_node.specs.declared.links.Link.{Link}
use Rattle.tva_node.specs.Links.{least_next, sooner}
use Rattle.tva_node.specs.Besides.{KnowsNext}
use Rattle.tva_node.specs.States.{NodeState}
use Rattle.tva_node.specs.Steps.{StandsAt}

-- ## the next time

-- the next time at which there is work
abbrev pub work_time : List Input → List Link → Option ℕ
work_time waiting links = sooner (first_time waiting) (least_next links)

-- none is before that time
abbrev pub IsNoneBefore : ℕ → Option ℕ → Type 0
IsNoneBefore end next = IfSome next (λ time. end ≤ time)

-- the next input comes at that time
abbrev pub is_due : ℕ → List Input → Bool
is_due now [] = false
is_due now (input ∷ inputs) = input_time input == now

-- ## which link is asked

-- the link on which a packet was queued
abbrev pub link_of : Outcome → Option ℕ
link_of (Queued link) = Some link
link_of (Dropped cause) = None

-- the link on which what happened queued one
abbrev pub queued_on : Happened → Option ℕ
queued_on (happens.Arrived id length from fate) = link_of fate.outcome
queued_on (happens.Sent id length shape outcome) = link_of outcome
queued_on happens.Ticked = None
queued_on (happens.Received id length from payload what back reply range) =
    option_and_then (λ line. link_of line.outcome) reply
queued_on (happens.Started id length link class end) = None

-- ## within one time

-- a link is asked at that time, or it knows when it decides next by itself, from that time on
abbrev pub Waits : Site → List Entry → ℕ → Link → Type 0
Waits site log now link = (link.next ≡ Some now) ⊎ KnowsNext site log now link

-- so do all links from a number on, which have not decided yet
abbrev pub AwaitsAt : NodeState → ℕ → ℕ → List Entry → Type 0
AwaitsAt v now rank log = All (λ l. rank ≤ l.number → Waits v.site log now l) v.links

-- its inputs are being taken
abbrev pub TakesAt : NodeState → ℕ → Type 0
TakesAt v now = (taken : List Input) × (log : List Entry) × StandsAt v now 0 taken log × AwaitsAt v now 0 log

-- all of them are taken
abbrev pub all_taken : NodeState → ℕ → List Input
all_taken v now = due (now + 1) (in_turn v.inbox)

-- the links before a place have decided, and those from it on have not: their numbers are below that one, and no lower
pub record IsRank (rank place : ℕ) (links : List Link) : Type 0 where
  pub before : All (λ l. l.number < rank) (take place links)
  pub behind : All (λ l. rank ≤ l.number) (drop place links)

-- after all inputs, the links before a place have decided
abbrev pub DecidesAt : NodeState → ℕ → ℕ → Type 0
DecidesAt v now place =
    (rank : ℕ) × (log : List Entry) × IsRank rank place v.links × StandsAt v now rank (all_taken v now) log
    × AwaitsAt v now rank log

-- ## what a link starts

-- when a link is free again on which a packet starts at a time
abbrev pub end_on : Link → ℕ → PacketData → ℕ
end_on link now packet = now + packet_length packet * link.plan.limits.ns_per_byte

-- the event of a start at a node
abbrev pub start_event : ℕ → Link → ℕ → Class → PacketData → Event
start_event node link now class packet = record {
  time = at_time now;
  node = node;
  happened = happens.Started packet.id (packet_length packet) link.number class (at_time (end_on link now packet));
}

-- what it sends
abbrev pub start_sending : Link → ℕ → PacketData → Sending
start_sending link now packet =
    record { link = link.number; arrive = at_time (end_on link now packet + link.plan.delay); packet = packet }

-- numbers of a start on a link fit their types
pub record IsStartable (now : ℕ) (link : Link) : Type 0 where
  pub time : now ≤ 1000000000000000
  pub rate : link.plan.limits.ns_per_byte ≤ 1000000
  pub delay : link.plan.delay ≤ 1000000000000
