-- Crate: the network of the worked walk, in which A grants to nobody, and the router restarts at 8,000,000 ns with a
-- master: its packets, and its logs until then.
use Rattle.std.specs.Prelude.{ℕ, Bool, true, false, List, [], ◌∷◌, ◌++◌, Some, None}
use Rattle.tva_base.specs.declared.event.BackKind.{BackKind}
use Rattle.tva_base.specs.declared.event.BackKind.TheVariants as became
use Rattle.tva_base.specs.declared.event.ShapeKind.{ShapeKind}
use Rattle.tva_base.specs.declared.event.ShapeKind.TheVariants as shape
use Rattle.tva_base.specs.declared.event.WhatKind.{WhatKind}
use Rattle.tva_base.specs.declared.event.WhatKind.TheVariants as what
use Rattle.tva_base.specs.declared.packet.Cause.TheVariants.{UnknownNonce}
use Rattle.tva_base.specs.declared.packet.Class.{Class}
use Rattle.tva_base.specs.declared.packet.Class.TheVariants.{Request, Regular, Legacy}
use Rattle.tva_base.specs.declared.packet.Fate.{Fate}
use Rattle.tva_base.specs.declared.packet.Flow.{Flow}
use Rattle.tva_base.specs.declared.packet.Grant.{Grant}
use Rattle.tva_base.specs.declared.packet.Outcome.TheVariants.{Queued}
use Rattle.tva_base.specs.declared.plan.HostPlan.{HostPlan}
use Rattle.tva_base.specs.declared.plan.PolicyKind.TheVariants.{DenyAll}
use Rattle.tva_base.specs.declared.plan.RouterPlan.{RouterPlan}
use Rattle.tva_shim.specs.declared.entries.Entry as entries
use Rattle.tva_shim.specs.declared.kinds.Kind.TheVariants as kinds
use Rattle.tva_shim.specs.declared.kinds.ReturnInfo.TheVariants as backs
use Rattle.tva_shim.specs.declared.packets.Carried.TheVariants.{Shim}
use Rattle.tva_shim.specs.Packets.{PacketData}
use Rattle.tva_caps.specs.Formula.{precap_of, capability_of}
use Rattle.tva_plan.specs.declared.config.Config.{Config}
use Rattle.tva_plan.specs.declared.config.NodePlan.TheVariants.{Router, Host}
use Rattle.tva_rows.specs.declared.rows.Row.{Row}
use Rattle.tva_rows.specs.declared.rows.RowWhat.TheVariants.{Send}
use Rattle.tva_run.specs.declared.kinds.Input.TheVariants.{FromTrace, Arrival}
use Rattle.tva_run.specs.Entries.{Entry, Took, Started, Arrived, Sent, Received}
use Rattle.tva_run.specs.Told.{at_time}
use Rattle.tva_laws.specs.Walk.{walk_a, walk_b, walk_rights, walk_router, walk_host, walk_host_b, walk_config, walk_flow, walk_back}
use Rattle.tva_laws.specs.Walk.{walk_row, walk_packet, walk_shim}
use Rattle.tva_laws.specs.Steady.{Walk}

-- ## the network

abbrev pub restarting_router : List ℕ → RouterPlan
restarting_router master = record walk_router { restarts = (at_time 8000000, master) ∷ [] }

abbrev pub denying_a : HostPlan
denying_a = walk_host 65 walk_a DenyAll 0

abbrev pub restart_config : List ℕ → Config
restart_config master =
    record walk_config { nodes = Router (restarting_router master) ∷ Host denying_a ∷ Host walk_host_b ∷ [] }

-- A's path to B at the router
abbrev pub restart_walk : List ℕ → Walk
restart_walk master = record {
  config = restart_config master;
  sender = 1;
  host = denying_a;
  node = 0;
  router = restarting_router master;
  delay = 1000520;
}

-- A sends so many bytes to B
abbrev pub sends : ℕ → ℕ → Row
sends time payload = walk_row time 1 (Send walk_b payload)

-- ## the packets

-- the entry that a router with this master makes in a second, and the capability that B makes of A's
abbrev pub entry_in : List ℕ → ℕ → Flow → ℕ → entries.Entry
entry_in master tag flow second = record { tag = tag; precap = precap_of master flow second }

abbrev pub cap_in : List ℕ → ℕ → ℕ
cap_in master second = capability_of (precap_of master walk_flow second) walk_rights

-- A's packets, with their numbers
abbrev pub a_request : ℕ → ℕ → List entries.Entry → PacketData
a_request ordinal hops es = walk_packet 1 ordinal walk_flow hops 77 (walk_shim (kinds.Request es) backs.Nothing)

abbrev pub a_list : ℕ → ℕ → ℕ → ℕ → ℕ → PacketData
a_list ordinal nonce hops pointer cap =
    walk_packet 1 ordinal walk_flow hops 1000
    (walk_shim (kinds.List (record { nonce = nonce; pointer = pointer; rights = walk_rights; caps = cap ∷ [] })) backs.Nothing)

abbrev pub a_renewal : ℕ → ℕ → ℕ → ℕ → ℕ → PacketData
a_renewal ordinal nonce hops pointer cap =
    walk_packet 1 ordinal walk_flow hops 1000
    (walk_shim (kinds.Renewal (record { nonce = nonce; pointer = pointer; rights = walk_rights; caps = cap ∷ [] })) backs.Nothing)

-- a nonce alone, with the mark or without
abbrev pub a_nonce : ℕ → ℕ → Bool → PacketData
a_nonce ordinal hops marked =
    walk_packet 1 ordinal walk_flow hops 1000
    (Shim (record { version = 1; demoted = marked; protocol = 6; kind = kinds.Nonce 2; back = backs.Nothing }))

-- B's answers: a request that grants, and a marked one with a notice
abbrev pub b_grant : ℕ → ℕ → List entries.Entry → ℕ → PacketData
b_grant ordinal hops es cap =
    walk_packet 2 ordinal walk_back hops 0 (walk_shim (kinds.Request es) (backs.Grant walk_rights (cap ∷ [])))

abbrev pub b_notice : ℕ → ℕ → PacketData
b_notice ordinal hops =
    walk_packet 2 ordinal walk_back hops 0
    (Shim (record { version = 1; demoted = true; protocol = 6; kind = kinds.Request []; back = backs.Notice }))

-- ## what happens at a node

-- A makes a packet for a row, which starts at once
abbrev pub goes : ℕ → PacketData → ShapeKind → Class → List Entry
goes time packet shape class =
    Took (FromTrace (sends time packet.payload)) (Sent (record { packet = packet; shape = shape }) (Queued 0))
    ∷ Started time 0 class packet
    ∷ []

-- A takes a packet with return info
abbrev pub hears : ℕ → PacketData → WhatKind → BackKind → List Entry
hears time packet what back =
    Took (Arrival (at_time time) 1 packet) (Received 1 packet (record { what = what; back = back; reply = None }) None None) ∷ []

-- B takes a packet, and answers none or one
abbrev pub takes : ℕ → PacketData → WhatKind → List Entry
takes time packet what =
    Took (Arrival (at_time time) 2 packet)
    (Received 2 packet (record { what = what; back = became.Nothing; reply = None }) None None) ∷ []

abbrev pub answers : ℕ → PacketData → WhatKind → PacketData → ShapeKind → Class → List Entry
answers time packet what reply shape class =
    Took (Arrival (at_time time) 2 packet)
    (Received 2 packet (record { what = what; back = became.Nothing; reply = Some (record { packet = reply; shape = shape }) })
    (Some (Queued 3)) None)
    ∷ Started time 3 class reply
    ∷ []

-- the fates of a request, of what is marked or loses its nonce, and of what is charged to the grant of a second; each is
-- queued to a link
abbrev pub asking : ℕ → Fate
asking link = record { class = Request; cause = None; charge = None; outcome = Queued link }

abbrev pub legacy : ℕ → Fate
legacy link = record { class = Legacy; cause = None; charge = None; outcome = Queued link }

abbrev pub demoted : ℕ → Fate
demoted link = record { class = Legacy; cause = Some UnknownNonce; charge = None; outcome = Queued link }

abbrev pub grant_of : ℕ → Grant
grant_of second = record { flow = walk_flow; rights = walk_rights; second = second }

abbrev pub charged_to : ℕ → ℕ → Fate
charged_to second link =
    record { class = Regular; cause = None; charge = Some (grant_of second); outcome = Queued link }

-- what comes to the router on a link starts on another at once
abbrev pub passes : ℕ → ℕ → PacketData → Fate → ℕ → PacketData → List Entry
passes time from packet fate to onward =
    Took (Arrival (at_time time) from packet) (Arrived (Some from) packet fate onward)
    ∷ Started time to fate.class onward
    ∷ []

-- ## until the restart

-- the capability of the first grant
abbrev pub first_cap : ℕ
first_cap = cap_in walk_router.master 0

abbrev pub first_request : PacketData
first_request = a_request 1 1 (entry_in walk_router.master 1 walk_flow 0 ∷ [])

abbrev pub first_grant : PacketData
first_grant = b_grant 1 1 (entry_in walk_router.master 2 walk_back 0 ∷ []) first_cap

-- A asks, and shows the list of its grant
abbrev pub early_a : List Entry
early_a =
    goes 0 (a_request 1 0 []) shape.Request Request
    ++ hears 4002900 first_grant what.Request became.Grant
    ++ goes 5000000 (a_list 2 2 0 0 first_cap) shape.List Regular

abbrev pub early_b : List Entry
early_b =
    answers 2002100 first_request what.Request (b_grant 1 0 [] first_cap) shape.Request Request
    ++ takes 7020800 (a_list 2 2 1 1 first_cap) what.Regular

abbrev pub early_router : List Entry
early_router =
    passes 1001000 0 (a_request 1 0 []) (asking 2) 2 first_request
    ++ passes 3002450 3 (b_grant 1 0 [] first_cap) (asking 1) 1 first_grant
    ++ passes 6010400 0 (a_list 2 2 0 0 first_cap) (charged_to 0 2) 2 (a_list 2 2 1 1 first_cap)

-- each nonce alone that comes behind the restart is demoted; B answers it by a notice
abbrev pub demotes : ℕ → ℕ → List Entry
demotes time ordinal = passes time 0 (a_nonce ordinal 0 false) (demoted 2) 2 (a_nonce ordinal 1 true)

abbrev pub notices : ℕ → ℕ → List Entry
notices time ordinal = passes time 3 (b_notice ordinal 0) (legacy 1) 1 (b_notice ordinal 1)

abbrev pub tells : ℕ → ℕ → ℕ → List Entry
tells time ordinal reply = answers time (a_nonce ordinal 1 true) what.Demoted (b_notice reply 0) shape.Legacy Legacy
