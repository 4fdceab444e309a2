-- Crate: a walk over a restart with another master. A shows its first grant by nonces alone, gives it up after two notices,
-- and asks anew; the list of its second grant comes to the router in the new boot.
use Rattle.std.specs.Prelude.{ℕ, false, List, [], ◌∷◌, ◌++◌}
use Rattle.std.specs.List.{repeat}
use Rattle.tva_base.specs.declared.event.BackKind.TheVariants as became
use Rattle.tva_base.specs.declared.event.ShapeKind.TheVariants as shape
use Rattle.tva_base.specs.declared.event.WhatKind.TheVariants as what
use Rattle.tva_base.specs.declared.packet.Class.TheVariants.{Request, Regular}
use Rattle.tva_shim.specs.Packets.{PacketData}
use Rattle.tva_rows.specs.declared.rows.Row.{Row}
use Rattle.tva_run.specs.Entries.{Entry}
use Rattle.tva_run.specs.Reaching.{Logs}
use Rattle.tva_laws.specs.Walk.{walk_flow, walk_back}
use Rattle.tva_laws.specs.Restarts.{sends, entry_in, cap_in, a_request, a_list, a_nonce, b_grant, b_notice, goes, hears, answers}
use Rattle.tva_laws.specs.Restarts.{passes, asking, charged_to, early_a, early_b, early_router, demotes, notices, tells}

abbrev pub new_master : List ℕ
new_master = repeat 32 (255 ∷ [])

abbrev pub new_rows : List Row
new_rows =
    sends 0 77 ∷ sends 5000000 1000 ∷ sends 10000000 1000 ∷ sends 10100000 1000 ∷ sends 2100000000 77 ∷ sends 2110000000 1000 ∷ []

-- the capability of the second grant, of the router's second 2
abbrev pub second_cap : ℕ
second_cap = cap_in new_master 2

abbrev pub second_request : PacketData
second_request = a_request 5 1 (entry_in new_master 1 walk_flow 2 ∷ [])

abbrev pub second_grant : PacketData
second_grant = b_grant 4 1 (entry_in new_master 2 walk_back 2 ∷ []) second_cap

-- A's list under it
abbrev pub new_list : ℕ → ℕ → PacketData
new_list hops pointer = a_list 6 6 hops pointer second_cap

abbrev pub new_log_a : List Entry
new_log_a =
    early_a
    ++ goes 10000000 (a_nonce 3 0 false) shape.Nonce Regular
    ++ goes 10100000 (a_nonce 4 0 false) shape.Nonce Regular
    ++ hears 14021040 (b_notice 2 1) what.Demoted became.Notice
    ++ hears 14121040 (b_notice 3 1) what.Demoted became.Notice
    ++ goes 2100000000 (a_request 5 0 []) shape.Request Request
    ++ hears 2104002900 second_grant what.Request became.Grant
    ++ goes 2110000000 (new_list 0 0) shape.List Regular

abbrev pub new_log_b : List Entry
new_log_b =
    early_b
    ++ tells 12020560 3 2
    ++ tells 12120560 4 3
    ++ answers 2102002100 second_request what.Request (b_grant 4 0 [] second_cap) shape.Request Request

-- the router's log before the list of the second grant comes
abbrev pub new_before_list : List Entry
new_before_list =
    early_router
    ++ demotes 11010280 3
    ++ demotes 11110280 4
    ++ notices 13020800 2
    ++ notices 13120800 3
    ++ passes 2101001000 0 (a_request 5 0 []) (asking 2) 2 second_request
    ++ passes 2103002450 3 (b_grant 4 0 [] second_cap) (asking 1) 1 second_grant

abbrev pub new_log_router : List Entry
new_log_router = new_before_list ++ passes 2111010400 0 (new_list 0 0) (charged_to 2 2) 2 (new_list 1 1)

abbrev pub new_logs : Logs
new_logs = new_log_router ∷ new_log_a ∷ new_log_b ∷ []

-- just past the time at which that list comes
abbrev pub new_until : ℕ
new_until = 2111010401
