-- Crate: a walk by a changed route. A asks B by the router R1 alone, which from 8,000,000 ns on leads to B by the router R2.
-- There a nonce alone and a list of the first grant are demoted; A gives it up after two notices, and asks anew by both.
use Rattle.std.specs.Prelude.{ℕ, Bool, true, false, List, [], ◌∷◌, ◌++◌, Some, None}
use Rattle.std.specs.List.{repeat}
use Rattle.tva_base.specs.declared.event.BackKind.TheVariants as became
use Rattle.tva_base.specs.declared.event.ShapeKind.{ShapeKind}
use Rattle.tva_base.specs.declared.event.ShapeKind.TheVariants as shape
use Rattle.tva_base.specs.declared.event.WhatKind.{WhatKind}
use Rattle.tva_base.specs.declared.event.WhatKind.TheVariants as what
use Rattle.tva_base.specs.declared.packet.Cause.{Cause}
use Rattle.tva_base.specs.declared.packet.Cause.TheVariants.{NoCapability, UnknownNonce}
use Rattle.tva_base.specs.declared.packet.Class.{Class}
use Rattle.tva_base.specs.declared.packet.Class.TheVariants.{Request, Regular, Legacy}
use Rattle.tva_base.specs.declared.packet.Fate.{Fate}
use Rattle.tva_base.specs.declared.packet.Outcome.TheVariants.{Queued}
use Rattle.tva_base.specs.declared.plan.RouterPlan.{RouterPlan}
use Rattle.tva_shim.specs.declared.entries.Entry as entries
use Rattle.tva_shim.specs.declared.kinds.Kind.TheVariants as kinds
use Rattle.tva_shim.specs.declared.kinds.ReturnInfo.TheVariants as backs
use Rattle.tva_shim.specs.declared.packets.Carried.TheVariants.{Shim}
use Rattle.tva_shim.specs.Packets.{PacketData}
use Rattle.tva_plan.specs.declared.config.Config.{Config}
use Rattle.tva_plan.specs.declared.config.NodePlan.TheVariants.{Router, Host}
use Rattle.tva_rows.specs.declared.rows.Row.{Row}
use Rattle.tva_rows.specs.declared.rows.RowWhat.TheVariants.{Send}
use Rattle.tva_run.specs.declared.kinds.Input.TheVariants.{FromTrace, Arrival}
use Rattle.tva_run.specs.Entries.{Entry, Took, Started, Sent, Received}
use Rattle.tva_run.specs.Told.{at_time}
use Rattle.tva_run.specs.Reaching.{Logs}
use Rattle.tva_laws.specs.Walk.{walk_b, walk_rights, walk_limits, walk_route, walk_router, walk_host_b, walk_link, walk_config}
use Rattle.tva_laws.specs.Walk.{walk_flow, walk_back, walk_row, walk_packet, walk_shim}
use Rattle.tva_laws.specs.Steady.{Walk}
use Rattle.tva_laws.specs.Restarts.{denying_a, entry_in, cap_in, hears, takes, asking, legacy, charged_to, passes}

-- ## the network

-- R1 is node 0, and R2 node 1. Links 0 and 3 lead to R1, 1 to A, 2 and 5 to B, and 4 from R1 to R2
abbrev pub first_router : RouterPlan
first_router = record walk_router {
  outgoing = (1, walk_limits) ∷ (2, walk_limits) ∷ (4, walk_limits) ∷ [];
  reroutes = (at_time 8000000, (walk_route 167772416 2).prefix, 4) ∷ [];
}

abbrev pub second_router : RouterPlan
second_router = record walk_router {
  name = 82 ∷ 50 ∷ [];
  master = repeat 32 (255 ∷ []);
  incoming = (4, 0) ∷ [];
  outgoing = (5, walk_limits) ∷ [];
  routes = walk_route 167772416 5 ∷ [];
}

-- A is node 2, and B node 3
abbrev pub detour_config : Config
detour_config = record walk_config {
  nodes = Router first_router ∷ Router second_router ∷ Host denying_a ∷ Host walk_host_b ∷ [];
  links = walk_link 2 0 1 ∷ walk_link 0 2 0 ∷ walk_link 0 3 0 ∷ walk_link 3 0 2 ∷ walk_link 0 1 0 ∷ walk_link 1 3 0 ∷ [];
}

-- A's path to B at R1, and at R2
abbrev pub to_first : Walk
to_first = record { config = detour_config; sender = 2; host = denying_a; node = 0; router = first_router; delay = 1000520 }

abbrev pub to_second : Walk
to_second = record { config = detour_config; sender = 2; host = denying_a; node = 1; router = second_router; delay = 2002100 }

-- A sends so many bytes to B
abbrev pub detour_row : ℕ → ℕ → Row
detour_row time payload = walk_row time 2 (Send walk_b payload)

abbrev pub detour_rows : List Row
detour_rows =
    detour_row 0 77
    ∷ detour_row 5000000 1000
    ∷ detour_row 10000000 1000
    ∷ detour_row 20000000 1000
    ∷ detour_row 2100000000 77
    ∷ detour_row 2110000000 1000
    ∷ []

-- ## the packets

abbrev pub asked : ℕ → ℕ → List entries.Entry → PacketData
asked ordinal hops es = walk_packet 2 ordinal walk_flow hops 77 (walk_shim (kinds.Request es) backs.Nothing)

abbrev pub answered : ℕ → ℕ → List entries.Entry → List ℕ → PacketData
answered ordinal hops es caps = walk_packet 3 ordinal walk_back hops 0 (walk_shim (kinds.Request es) (backs.Grant walk_rights caps))

-- the capabilities of both grants
abbrev pub narrow_caps : List ℕ
narrow_caps = cap_in first_router.master 0 ∷ []

abbrev pub wide_caps : List ℕ
wide_caps = cap_in first_router.master 2 ∷ cap_in second_router.master 2 ∷ []

-- what A shows of a grant, with the mark or without: a list, and the nonce alone of the first
abbrev pub shows_list : ℕ → ℕ → List ℕ → ℕ → ℕ → Bool → PacketData
shows_list ordinal nonce caps hops pointer marked = walk_packet 2 ordinal walk_flow hops 1000
    (Shim (record {
      version = 1;
      demoted = marked;
      protocol = 6;
      kind = kinds.List (record { nonce = nonce; pointer = pointer; rights = walk_rights; caps = caps });
      back = backs.Nothing;
    }))

abbrev pub narrow_list : ℕ → ℕ → ℕ → Bool → PacketData
narrow_list ordinal hops pointer marked = shows_list ordinal 2 narrow_caps hops pointer marked

abbrev pub wide_list : ℕ → ℕ → PacketData
wide_list hops pointer = shows_list 6 6 wide_caps hops pointer false

abbrev pub narrow_nonce : ℕ → Bool → PacketData
narrow_nonce hops marked =
    walk_packet 2 3 walk_flow hops 1000
    (Shim (record { version = 1; demoted = marked; protocol = 6; kind = kinds.Nonce 2; back = backs.Nothing }))

-- B's notice
abbrev pub told : ℕ → ℕ → PacketData
told ordinal hops =
    walk_packet 3 ordinal walk_back hops 0
    (Shim (record { version = 1; demoted = true; protocol = 6; kind = kinds.Request []; back = backs.Notice }))

-- what R1, and then R2 adds to a request
abbrev pub by_first : ℕ → List entries.Entry
by_first second = entry_in first_router.master 1 walk_flow second ∷ []

abbrev pub by_second : List entries.Entry
by_second = by_first 2 ++ entry_in second_router.master 0 walk_flow 2 ∷ []

abbrev pub back_by_first : ℕ → List entries.Entry
back_by_first second = entry_in first_router.master 2 walk_back second ∷ []

-- ## the logs

-- A makes a packet for a row, and B answers one that comes on a link; both start at once
abbrev pub sends_out : ℕ → PacketData → ShapeKind → Class → List Entry
sends_out time packet shape class =
    Took (FromTrace (detour_row time packet.payload)) (Sent (record { packet = packet; shape = shape }) (Queued 0))
    ∷ Started time 0 class packet
    ∷ []

abbrev pub replies : ℕ → ℕ → PacketData → WhatKind → PacketData → ShapeKind → Class → List Entry
replies time link packet what reply shape class =
    Took (Arrival (at_time time) link packet)
    (Received link packet (record { what = what; back = became.Nothing; reply = Some (record { packet = reply; shape = shape }) })
    (Some (Queued 3)) None)
    ∷ Started time 3 class reply
    ∷ []

abbrev pub detour_log_a : List Entry
detour_log_a =
    sends_out 0 (asked 1 0 []) shape.Request Request
    ++ hears 4002900 (answered 1 1 (back_by_first 0) narrow_caps) what.Request became.Grant
    ++ sends_out 5000000 (narrow_list 2 0 0 false) shape.List Regular
    ++ sends_out 10000000 (narrow_nonce 0 false) shape.Nonce Regular
    ++ hears 15031320 (told 2 1) what.Demoted became.Notice
    ++ sends_out 20000000 (narrow_list 4 0 0 false) shape.List Regular
    ++ hears 25031680 (told 3 1) what.Demoted became.Notice
    ++ sends_out 2100000000 (asked 5 0 []) shape.Request Request
    ++ hears 2105004260 (answered 4 1 (back_by_first 2) wide_caps) what.Request became.Grant
    ++ sends_out 2110000000 (wide_list 0 0) shape.List Regular

abbrev pub detour_log_b : List Entry
detour_log_b =
    replies 2002100 2 (asked 1 1 (by_first 0)) what.Request (answered 1 0 [] narrow_caps) shape.Request Request
    ++ takes 7020800 (narrow_list 2 1 1 false) what.Regular
    ++ replies 13030840 5 (narrow_nonce 2 true) what.Demoted (told 2 0) shape.Legacy Legacy
    ++ replies 23031200 5 (narrow_list 4 2 1 true) what.Demoted (told 3 0) shape.Legacy Legacy
    ++ replies 2103003300 5 (asked 5 2 by_second) what.Request (answered 4 0 [] wide_caps) shape.Request Request

-- R1's log before the second list, which is the first by R2, and before that of the second grant
abbrev pub first_before_again : List Entry
first_before_again =
    passes 1001000 0 (asked 1 0 []) (asking 2) 2 (asked 1 1 (by_first 0))
    ++ passes 3002450 3 (answered 1 0 [] narrow_caps) (asking 1) 1 (answered 1 1 (back_by_first 0) narrow_caps)
    ++ passes 6010400 0 (narrow_list 2 0 0 false) (charged_to 0 2) 2 (narrow_list 2 1 1 false)
    ++ passes 11010280 0 (narrow_nonce 0 false) (charged_to 0 4) 4 (narrow_nonce 1 false)
    ++ passes 14031080 3 (told 2 0) (legacy 1) 1 (told 2 1)

abbrev pub first_before_list : List Entry
first_before_list =
    first_before_again
    ++ passes 21010400 0 (narrow_list 4 0 0 false) (charged_to 0 4) 4 (narrow_list 4 1 1 false)
    ++ passes 24031440 3 (told 3 0) (legacy 1) 1 (told 3 1)
    ++ passes 2101001000 0 (asked 5 0 []) (asking 4) 4 (asked 5 1 (by_first 2))
    ++ passes 2104003730 3 (answered 4 0 [] wide_caps) (asking 1) 1 (answered 4 1 (back_by_first 2) wide_caps)

abbrev pub log_first : List Entry
log_first = first_before_list ++ passes 2111010480 0 (wide_list 0 0) (charged_to 2 4) 4 (wide_list 1 1)

-- what R2 demotes
abbrev pub refused : Cause → Fate
refused cause = record { class = Legacy; cause = Some cause; charge = None; outcome = Queued 5 }

-- R2's log before the list of the second grant comes
abbrev pub second_before_list : List Entry
second_before_list =
    passes 12020560 4 (narrow_nonce 1 false) (refused UnknownNonce) 5 (narrow_nonce 2 true)
    ++ passes 22020800 4 (narrow_list 4 1 1 false) (refused NoCapability) 5 (narrow_list 4 2 1 true)
    ++ passes 2102002100 4 (asked 5 1 (by_first 2)) (asking 5) 5 (asked 5 2 by_second)

abbrev pub log_second : List Entry
log_second = second_before_list ++ passes 2112020960 4 (wide_list 1 1) (charged_to 2 5) 5 (wide_list 2 2)

abbrev pub detour_logs : Logs
detour_logs = log_first ∷ log_second ∷ detour_log_a ∷ detour_log_b ∷ []

-- just past the time at which the list of the second grant comes to R2
abbrev pub detour_until : ℕ
detour_until = 2112020961
