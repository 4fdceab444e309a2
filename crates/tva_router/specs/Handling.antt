-- Product: what becomes of a packet that arrives at a router.
use Rattle.std.specs.Prelude.{ℕ, ◌+◌, ◌==◌, nat_le, if◌then◌else◌, List, [], ◌∷◌, Option, Some, None}
use Rattle.std.specs.List.{find}
use Rattle.std.specs.Option.{option_and_then}
use Rattle.tva_base.specs.declared.addresses.Address.{Address}
use Rattle.tva_base.specs.declared.limits.LinkLimits.{LinkLimits}
use Rattle.tva_base.specs.declared.packet.Grant.{Grant}
use Rattle.tva_base.specs.declared.packet.Fate.{Fate}
use Rattle.tva_base.specs.declared.packet.Class.{Class}
use Rattle.tva_base.specs.declared.packet.Outcome.{Outcome}
use Rattle.tva_base.specs.declared.packet.Outcome.TheVariants as outcome
use Rattle.tva_base.specs.declared.packet.DropCause.TheVariants as drop
use Rattle.tva_base.specs.declared.plan.Route.{Route}
use Rattle.tva_base.specs.declared.plan.RouterPlan.{RouterPlan}
use Rattle.tva_shim.specs.declared.packets.Carried.{Carried}
use Rattle.tva_shim.specs.Packets.{PacketData, packet_length, class_by_shim}
use Rattle.tva_shim.specs.Shows.{key_of, nonce_in}
use Rattle.tva_flow.specs.Charges.{Charge, charge}
use Rattle.tva_drr.specs.declared.offered.Offered.{Offered}
use Rattle.tva_drr.specs.declared.offered.Offered.TheVariants as offers
use Rattle.tva_port.specs.Log.{Entry, Queued}
use Rattle.tva_port.specs.Waiting.{waiting_after, queue_answer, queued_by}
use Rattle.tva_router.specs.declared.judged.Arrival.{Arrival}
use Rattle.tva_router.specs.declared.judged.Judged.{Judged}
use Rattle.tva_router.specs.Routes.{link_to}
use Rattle.tva_router.specs.Judging.{judge}

-- the log of each link's port, by the link's number
abbrev pub PortLogs : Type 0
PortLogs = ℕ → List Entry

-- what a packet of so many bytes adds to the charges
abbrev pub charged_by : Option Grant → ℕ → ℕ → ℕ → List Charge
charged_by None now nonce bytes = []
charged_by (Some grant) now nonce bytes = charge now grant nonce bytes ∷ []

-- an outgoing link with its limits
abbrev pub outgoing_link : RouterPlan → ℕ → Option (ℕ × LinkLimits)
outgoing_link plan link = find (λ o. o.0 == link) plan.outgoing

-- the link that a packet for the destination takes, with its limits
abbrev pub way_to : RouterPlan → Address → Option (ℕ × LinkLimits)
way_to plan dst = option_and_then (outgoing_link plan) (link_to plan.routes dst)

-- what the port of a link with that log answers to the packet
abbrev pub offered : LinkLimits → List Entry → Class → PacketData → Offered PacketData
offered limits log class p = queue_answer limits (waiting_after limits log) class (key_of class p) p

abbrev pub outcome_of : ℕ → Offered PacketData → Outcome
outcome_of link offers.Queued = outcome.Queued link
outcome_of link (offers.NoQueue p) = outcome.Dropped drop.NoQueue
outcome_of link (offers.QueueFull p) = outcome.Dropped drop.QueueFull

-- where a packet of a class ends up, by its way
abbrev pub sent : PortLogs → Class → PacketData → Option (ℕ × LinkLimits) → Outcome
sent logs class p None = outcome.Dropped drop.NoRoute
sent logs class p (Some (link, limits)) = outcome_of link (offered limits (logs link) class p)

-- what it adds to the log of each link
abbrev pub queued : PortLogs → ℕ → Class → PacketData → Option (ℕ × LinkLimits) → PortLogs
queued logs now class p None k = []
queued logs now class p (Some (link, limits)) k =
    if k == link then queued_by (offered limits (logs link) class p) now class (key_of class p) p else []

-- what becomes of an arrival, the packet as it goes on, and what the arrival adds to the charges and to
-- the log of each link
pub record Handled : Type 0 where
  pub fate : Fate
  pub onward : PacketData
  pub charges : List Charge
  pub queued : PortLogs

-- a packet at the hop limit
abbrev pub stopped : PacketData → Handled
stopped p = record {
  fate =
      record { class = class_by_shim p.carried; cause = None; charge = None; outcome = outcome.Dropped drop.HopLimit };
  onward = p;
  charges = [];
  queued = λ k. [];
}

-- a packet after its judgement, one hop further
abbrev pub goes_on : PacketData → Carried → PacketData
goes_on p carries = record p { hops = p.hops + 1; carried = carries }

-- what a packet of a class that ended up there adds to the log of each link
abbrev pub entered_by : Outcome → ℕ → Class → PacketData → PortLogs
entered_by (outcome.Queued link) now class p k = if k == link then Queued now class (key_of class p) p ∷ [] else []
entered_by (outcome.Dropped cause) now class p k = []

-- what a hand holds in which a packet came: nothing where it was queued, else the packet as it would go on
abbrev pub kept_after : Outcome → PacketData → Option PacketData
kept_after (outcome.Queued link) p = None
kept_after (outcome.Dropped cause) p = Some p

-- the fate of a packet that was judged, by where it ends up
abbrev pub fate_of : Judged → Outcome → Fate
fate_of j outcome = record { class = j.class; cause = j.cause; charge = j.charge; outcome = outcome }

-- a packet that was judged
abbrev pub forwarded : RouterPlan → PortLogs → ℕ → PacketData → Judged → Handled
forwarded plan logs now p j = record {
  fate = fate_of j (sent logs j.class (goes_on p j.carried) (way_to plan p.flow.dst));
  onward = goes_on p j.carried;
  charges = charged_by j.charge now (nonce_in p.carried) (packet_length p);
  queued = queued logs now j.class (goes_on p j.carried) (way_to plan p.flow.dst);
}

-- what a packet with that fate adds to the log of each link, as it goes on
abbrev pub entered : Fate → ℕ → PacketData → PortLogs
entered fate now p k = entered_by fate.outcome now fate.class p k

-- an arrival of the packet, on a link or from the trace
abbrev pub arrival : ℕ → Option ℕ → PacketData → Arrival
arrival now from p = record { time = record { 0 = now }; from = from; flow = p.flow; bytes = packet_length p }

-- what becomes of a packet that comes in on a link, or from the trace, at that time, over the router's
-- charges and the logs of its links' ports so far
unfoldable pub handle : RouterPlan → List Charge → PortLogs → ℕ → Option ℕ → PacketData → Handled
handle plan h logs now from p =
    if nat_le 32 p.hops then stopped p
    else forwarded plan logs now p (judge plan h (arrival now from p) p.carried)

-- the plan with other routes
abbrev pub with_routes : List Route → RouterPlan → RouterPlan
with_routes routes plan = record plan { routes = routes }
