-- Crate: a worked walk: the network of `examples/walk.toml` with a horizon of ten seconds, and its trace with two
-- more rows. Its logs up to the time at which a renewal comes to the router: a request, the grant that answers it,
-- a list, a packet without a shim that another node sends as if it were the host's, a nonce alone, and the renewal.
use Rattle.std.specs.Prelude.{◌≡◌, ℕ, false, List, [], ◌∷◌, ◌++◌, Option, Some, None}
use Rattle.tva_base.specs.declared.addresses.Address.{Address}
use Rattle.tva_base.specs.declared.event.BackKind.TheVariants as became
use Rattle.tva_base.specs.declared.event.ShapeKind.{ShapeKind}
use Rattle.tva_base.specs.declared.event.ShapeKind.TheVariants as shape
use Rattle.tva_base.specs.declared.event.WhatKind.TheVariants as what
use Rattle.tva_base.specs.declared.limits.DrrLimits.{DrrLimits}
use Rattle.tva_base.specs.declared.limits.LinkLimits.{LinkLimits}
use Rattle.tva_base.specs.declared.packet.Class.{Class}
use Rattle.tva_base.specs.declared.packet.Class.TheVariants.{Request, Regular, Legacy}
use Rattle.tva_base.specs.declared.packet.Fate.{Fate}
use Rattle.tva_base.specs.declared.packet.Flow.{Flow}
use Rattle.tva_base.specs.declared.packet.Grant.{Grant}
use Rattle.tva_base.specs.declared.packet.Outcome.TheVariants.{Queued}
use Rattle.tva_base.specs.declared.packet.Rights.{Rights}
use Rattle.tva_base.specs.declared.plan.HostPlan.{HostPlan}
use Rattle.tva_base.specs.declared.plan.LinkPlan.{LinkPlan}
use Rattle.tva_base.specs.declared.plan.PolicyKind.{PolicyKind}
use Rattle.tva_base.specs.declared.plan.PolicyKind.TheVariants.{Client, Server}
use Rattle.tva_base.specs.declared.plan.Route.{Route}
use Rattle.tva_base.specs.declared.plan.RouterPlan.{RouterPlan}
use Rattle.tva_shim.specs.declared.entries.Entry as entries
use Rattle.tva_shim.specs.declared.kinds.Kind.{Kind}
use Rattle.tva_shim.specs.declared.kinds.Kind.TheVariants as kinds
use Rattle.tva_shim.specs.declared.kinds.ReturnInfo.{ReturnInfo}
use Rattle.tva_shim.specs.declared.kinds.ReturnInfo.TheVariants as backs
use Rattle.tva_shim.specs.declared.packets.Carried.{Carried}
use Rattle.tva_shim.specs.declared.packets.Carried.TheVariants.{Nothing, Shim}
use Rattle.tva_shim.specs.Packets.{PacketData, packet_data}
use Rattle.tva_caps.specs.Formula.{precap_of, capability_of}
use Rattle.tva_router.specs.Boots.{charges_at}
use Rattle.tva_plan.specs.declared.config.Config.{Config}
use Rattle.tva_plan.specs.declared.config.NodePlan.TheVariants.{Router, Host}
use Rattle.tva_rows.specs.declared.rows.Row.{Row}
use Rattle.tva_rows.specs.declared.rows.RowWhat.{RowWhat}
use Rattle.tva_rows.specs.declared.rows.RowWhat.TheVariants.{Send, Inject}
use Rattle.tva_run.specs.declared.kinds.Input.{Input}
use Rattle.tva_run.specs.declared.kinds.Input.TheVariants.{FromTrace, Arrival}
use Rattle.tva_run.specs.Entries.{Entry, Took, Started, Arrived, Sent, Received, input_time}
use Rattle.tva_run.specs.Parts.{charges}
use Rattle.tva_run.specs.Told.{at_time}
use Rattle.tva_run.specs.Reaching.{Logs, log_at}
use Rattle.tva_laws.specs.Deals.{coming, comings, deals}
use Rattle.tva_laws.specs.Paths.{IsSteadyPath}
use Rattle.tva_laws.specs.Whole.{IsWholePath}

-- ## the network

-- the host A has 10.0.0.1, and its peer B 10.0.1.1
abbrev pub walk_a : Address
walk_a = record { 0 = 167772161 }

abbrev pub walk_b : Address
walk_b = record { 0 = 167772417 }

-- 32 units and 10 seconds
abbrev pub walk_rights : Rights
walk_rights = record { n = 32; t = 10 }

abbrev pub walk_class : DrrLimits
walk_class = record { queues = 64; ring = 32; queue_bytes = 65536; class_bytes = 1048576; quantum = 2048; max = 2048 }

abbrev pub walk_limits : LinkLimits
walk_limits = record {
  ns_per_byte = 10;
  share = 20;
  burst = 8192;
  request = walk_class;
  regular = walk_class;
  legacy_ring = 256;
  legacy_bytes = 262144;
  request_inner = None;
}

abbrev pub walk_route : ℕ → ℕ → Route
walk_route address link = record { prefix = record { address = record { 0 = address }; bits = 24 }; link = link }

-- the router R1 is node 0; links 0 and 3 lead to it, 1 to A and 2 to B
abbrev pub walk_router : RouterPlan
walk_router = record {
  name = 82 ∷ 49 ∷ [];
  master = 0 ∷ 1 ∷ 2 ∷ 3 ∷ 4 ∷ 5 ∷ 6 ∷ 7 ∷ 8 ∷ 9 ∷ 10 ∷ 11 ∷ 12 ∷ 13 ∷ 14 ∷ 15
      ∷ 16 ∷ 17 ∷ 18 ∷ 19 ∷ 20 ∷ 21 ∷ 22 ∷ 23 ∷ 24 ∷ 25 ∷ 26 ∷ 27 ∷ 28 ∷ 29 ∷ 30 ∷ 31 ∷ [];
  clock_offset = 0;
  slots = 8;
  edge_tag = 0;
  incoming = (0, 1) ∷ (3, 2) ∷ [];
  outgoing = (1, walk_limits) ∷ (2, walk_limits) ∷ [];
  routes = walk_route 167772160 1 ∷ walk_route 167772416 2 ∷ [];
  restarts = [];
  reroutes = [];
}

-- A is node 1, and B node 2
abbrev pub walk_host : ℕ → Address → PolicyKind → ℕ → HostPlan
walk_host letter address kind uplink = record {
  name = letter ∷ [];
  address = address;
  nonce = 1;
  margin = 1000000;
  retry = 2000000000;
  version = 1;
  policy = record { kind = kind; rights = walk_rights; grants = 1000; deny = []; deny_tags = [] };
  uplink = uplink;
}

abbrev pub walk_host_a : HostPlan
walk_host_a = walk_host 65 walk_a Client 0

abbrev pub walk_host_b : HostPlan
walk_host_b = walk_host 66 walk_b Server 3

abbrev pub walk_link : ℕ → ℕ → ℕ → LinkPlan
walk_link from to tag = record { from = from; to = to; delay = 1000000; tag = tag; limits = walk_limits }

abbrev pub walk_config : Config
walk_config = record {
  horizon = record { 0 = 10000000000 };
  max_events = 1000;
  nodes = Router walk_router ∷ Host walk_host_a ∷ Host walk_host_b ∷ [];
  links = walk_link 1 0 1 ∷ walk_link 0 1 0 ∷ walk_link 0 2 0 ∷ walk_link 2 0 2 ∷ [];
}

-- ## the trace

abbrev pub walk_flow : Flow
walk_flow = record { src = walk_a; dst = walk_b }

abbrev pub walk_row : ℕ → ℕ → RowWhat → Row
walk_row time node what = record { time = at_time time; node = node; what = what }

-- A sends three times to B; the router injects a packet of A's flow without a shim
abbrev pub walk_first : Row
walk_first = walk_row 0 1 (Send walk_b 77)

abbrev pub walk_spoofed : Row
walk_spoofed = walk_row 9000000 0 (Inject walk_flow 0 Nothing)

abbrev pub walk_second : Row
walk_second = walk_row 10000000 1 (Send walk_b 1000)

abbrev pub walk_third : Row
walk_third = walk_row 6000000000 1 (Send walk_b 1000)

abbrev pub walk_rows : List Row
walk_rows = walk_first ∷ walk_spoofed ∷ walk_second ∷ walk_third ∷ []

-- ## the packets

abbrev pub walk_packet : ℕ → ℕ → Flow → ℕ → ℕ → Carried → PacketData
walk_packet node ordinal flow hops payload carried =
    packet_data (record { node = node; ordinal = ordinal }) flow hops payload carried

abbrev pub walk_shim : Kind → ReturnInfo → Carried
walk_shim kind back = Shim (record { version = 1; demoted = false; protocol = 6; kind = kind; back = back })

-- the router's pre-capability for a flow in a second, and the capability that the peer makes of that of second 0
abbrev pub walk_precap : Flow → ℕ → ℕ
walk_precap flow second = precap_of walk_router.master flow second

abbrev pub walk_back : Flow
walk_back = record { src = walk_b; dst = walk_a }

abbrev pub walk_cap : Flow → ℕ
walk_cap flow = capability_of (walk_precap flow 0) walk_rights

abbrev pub walk_entry : ℕ → Flow → entries.Entry
walk_entry tag flow = record { tag = tag; precap = walk_precap flow 0 }

-- A's request, and B's reply, a request that grants
abbrev pub walk_request : ℕ → List entries.Entry → PacketData
walk_request hops es = walk_packet 1 1 walk_flow hops 77 (walk_shim (kinds.Request es) backs.Nothing)

abbrev pub walk_reply : ℕ → List entries.Entry → PacketData
walk_reply hops es =
    walk_packet 2 1 walk_back hops 0 (walk_shim (kinds.Request es) (backs.Grant walk_rights (walk_cap walk_flow ∷ [])))

-- A's reply to that, a list that grants in turn
abbrev pub walk_list : ℕ → ℕ → PacketData
walk_list hops pointer =
    walk_packet 1 2 walk_flow hops 0
    (walk_shim (kinds.List (record { nonce = 2; pointer = pointer; rights = walk_rights; caps = walk_cap walk_flow ∷ [] }))
    (backs.Grant walk_rights (walk_cap walk_back ∷ [])))

-- the packet without a shim
abbrev pub walk_bare : ℕ → PacketData
walk_bare hops = walk_packet 0 1 walk_flow hops 0 Nothing

-- A's further packets: a nonce alone, and a renewal
abbrev pub walk_nonce : ℕ → PacketData
walk_nonce hops = walk_packet 1 3 walk_flow hops 1000 (walk_shim (kinds.Nonce 2) backs.Nothing)

abbrev pub walk_renewal : ℕ → ℕ → ℕ → PacketData
walk_renewal hops pointer cap =
    walk_packet 1 4 walk_flow hops 1000
    (walk_shim (kinds.Renewal (record { nonce = 2; pointer = pointer; rights = walk_rights; caps = cap ∷ [] })) backs.Nothing)

-- ## the logs

abbrev pub walk_sent : Row → PacketData → ShapeKind → Entry
walk_sent row packet shape = Took (FromTrace row) (Sent (record { packet = packet; shape = shape }) (Queued 0))

abbrev pub walk_log_a : List Entry
walk_log_a =
    walk_sent walk_first (walk_request 0 []) shape.Request
    ∷ Started 0 0 Request (walk_request 0 [])
    ∷ Took (Arrival (at_time 4002900) 1 (walk_reply 1 (walk_entry 2 walk_back ∷ [])))
    (Received 1 (walk_reply 1 (walk_entry 2 walk_back ∷ []))
    (record { what = what.Request; back = became.Grant; reply = Some (record { packet = walk_list 0 0; shape = shape.List }) })
    (Some (Queued 0)) None)
    ∷ Started 4002900 0 Regular (walk_list 0 0)
    ∷ walk_sent walk_second (walk_nonce 0) shape.Nonce
    ∷ Started 10000000 0 Regular (walk_nonce 0)
    ∷ walk_sent walk_third (walk_renewal 0 0 (walk_cap walk_flow)) shape.Renewal
    ∷ Started 6000000000 0 Regular (walk_renewal 0 0 (walk_cap walk_flow))
    ∷ []

abbrev pub walk_log_b : List Entry
walk_log_b =
    Took (Arrival (at_time 2002100) 2 (walk_request 1 (walk_entry 1 walk_flow ∷ [])))
    (Received 2 (walk_request 1 (walk_entry 1 walk_flow ∷ []))
    (record { what = what.Request; back = became.Nothing; reply = Some (record { packet = walk_reply 0 []; shape = shape.Request }) })
    (Some (Queued 3)) None)
    ∷ Started 2002100 3 Request (walk_reply 0 [])
    ∷ Took (Arrival (at_time 6003940) 2 (walk_list 1 1))
    (Received 2 (walk_list 1 1) (record { what = what.Regular; back = became.Grant; reply = None }) None None)
    ∷ Took (Arrival (at_time 10000200) 2 (walk_bare 1))
    (Received 2 (walk_bare 1) (record { what = what.Legacy; back = became.Nothing; reply = None }) None None)
    ∷ Took (Arrival (at_time 12020560) 2 (walk_nonce 1))
    (Received 2 (walk_nonce 1) (record { what = what.Regular; back = became.Nothing; reply = None }) None None)
    ∷ []

-- the grant to which the router charges
abbrev pub walk_grant : Grant
walk_grant = record { flow = walk_flow; rights = walk_rights; second = 0 }

abbrev pub walk_fate : Class → Option Grant → ℕ → Fate
walk_fate class charge link = record { class = class; cause = None; charge = charge; outcome = Queued link }

-- what comes to the router on a link is queued to another, which starts it at once
abbrev pub walk_passes : ℕ → ℕ → PacketData → Class → Option Grant → ℕ → PacketData → List Entry
walk_passes time from packet class charge to onward =
    Took (Arrival (at_time time) from packet) (Arrived (Some from) packet (walk_fate class charge to) onward)
    ∷ Started time to class onward
    ∷ []

-- the router's log before the list comes, before the nonce alone comes, and before the renewal comes
abbrev pub walk_before_list : List Entry
walk_before_list =
    walk_passes 1001000 0 (walk_request 0 []) Request None 2 (walk_request 1 (walk_entry 1 walk_flow ∷ []))
    ++ walk_passes 3002450 3 (walk_reply 0 []) Request None 1 (walk_reply 1 (walk_entry 2 walk_back ∷ []))

abbrev pub walk_before_nonce : List Entry
walk_before_nonce =
    walk_before_list
    ++ walk_passes 5003420 0 (walk_list 0 0) Regular (Some walk_grant) 2 (walk_list 1 1)
    ++ Took (FromTrace walk_spoofed) (Arrived None (walk_bare 0) (walk_fate Legacy None 2) (walk_bare 1))
    ∷ Started 9000000 2 Legacy (walk_bare 1)
    ∷ []

abbrev pub walk_before_renewal : List Entry
walk_before_renewal =
    walk_before_nonce ++ walk_passes 11010280 0 (walk_nonce 0) Regular (Some walk_grant) 2 (walk_nonce 1)

abbrev pub walk_log_router : List Entry
walk_log_router =
    walk_before_renewal
    ++ walk_passes 6001010400 0 (walk_renewal 0 0 (walk_cap walk_flow)) Regular (Some walk_grant) 2
    (walk_renewal 1 1 (walk_precap walk_flow 6))

abbrev pub walk_logs : Logs
walk_logs = walk_log_router ∷ walk_log_a ∷ walk_log_b ∷ []

-- just past the time at which the renewal comes
abbrev pub walk_until : ℕ
walk_until = 6001010401

-- the arrivals of a list, a nonce alone and a renewal
abbrev pub walk_list_comes : Input
walk_list_comes = Arrival (at_time 5003420) 0 (walk_list 0 0)

abbrev pub walk_nonce_comes : Input
walk_nonce_comes = Arrival (at_time 11010280) 0 (walk_nonce 0)

abbrev pub walk_renewal_comes : Input
walk_renewal_comes = Arrival (at_time 6001010400) 0 (walk_renewal 0 0 (walk_cap walk_flow))

-- in these logs the path from A to B is steady at the router up to a packet that comes to it behind these entries, on link
-- 0, and is charged
pub record IsSteadyBehind (before : List Entry) (input : Input) (packet onward : PacketData) : Type 0 where
  pub rest : List Entry
  pub here : log_at walk_logs 0
      ≡ before ++ Took input (Arrived (Some 0) packet (walk_fate Regular (Some walk_grant) 2) onward) ∷ rest
  pub steady : IsSteadyPath walk_host_a walk_router 1000520 (deals walk_b (log_at walk_logs 1)) (comings walk_flow before)
      (charges_at walk_router (input_time input) (charges before)) (coming input packet (walk_fate Regular (Some walk_grant) 2))

-- and the whole flow keeps to the path up to the list
abbrev pub IsListWhole : Type 0
IsListWhole =
    IsWholePath walk_host_a walk_router 1000520 (deals walk_b (log_at walk_logs 1)) (comings walk_flow walk_before_list)
    (charges_at walk_router (input_time walk_list_comes) (charges walk_before_list))
    (coming walk_list_comes (walk_list 0 0) (walk_fate Regular (Some walk_grant) 2))
