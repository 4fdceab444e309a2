-- Crate: a walk over a restart with the same master. A shows its first grant by a nonce alone, and after a notice by its list
-- again and by a nonce alone; six seconds later it renews it, and shows the list of its second grant.
use Rattle.std.specs.Prelude.{ℕ, false, List, [], ◌∷◌, ◌++◌}
use Rattle.tva_base.specs.declared.event.BackKind.TheVariants as became
use Rattle.tva_base.specs.declared.event.ShapeKind.TheVariants as shape
use Rattle.tva_base.specs.declared.event.WhatKind.TheVariants as what
use Rattle.tva_base.specs.declared.packet.Class.TheVariants.{Request, Regular}
use Rattle.tva_shim.specs.Packets.{PacketData}
use Rattle.tva_caps.specs.Formula.{precap_of}
use Rattle.tva_rows.specs.declared.rows.Row.{Row}
use Rattle.tva_run.specs.Entries.{Entry}
use Rattle.tva_run.specs.Reaching.{Logs}
use Rattle.tva_laws.specs.Walk.{walk_router, walk_flow, walk_back}
use Rattle.tva_laws.specs.Restarts.{sends, entry_in, cap_in, a_list, a_renewal, a_nonce, b_grant, b_notice, goes, hears, takes}
use Rattle.tva_laws.specs.Restarts.{answers, passes, asking, charged_to, first_cap, early_a, early_b, early_router, demotes}
use Rattle.tva_laws.specs.Restarts.{notices, tells}

abbrev pub same_rows : List Row
same_rows =
    sends 0 77
    ∷ sends 5000000 1000
    ∷ sends 10000000 1000
    ∷ sends 20000000 1000
    ∷ sends 30000000 1000
    ∷ sends 6000000000 1000
    ∷ sends 6010000000 1000
    ∷ []

-- the list again
abbrev pub again : ℕ → ℕ → PacketData
again hops pointer = a_list 4 2 hops pointer first_cap

-- the renewal, and the capability of the second grant, of the router's second 6
abbrev pub renewal : PacketData
renewal = a_renewal 6 2 0 0 first_cap

abbrev pub renewed : PacketData
renewed = a_renewal 6 2 1 1 (precap_of walk_router.master walk_flow 6)

abbrev pub renewed_cap : ℕ
renewed_cap = cap_in walk_router.master 6

abbrev pub renewed_grant : PacketData
renewed_grant = b_grant 3 1 (entry_in walk_router.master 2 walk_back 6 ∷ []) renewed_cap

-- A's list under it
abbrev pub renewed_list : ℕ → ℕ → PacketData
renewed_list hops pointer = a_list 7 7 hops pointer renewed_cap

abbrev pub same_log_a : List Entry
same_log_a =
    early_a
    ++ goes 10000000 (a_nonce 3 0 false) shape.Nonce Regular
    ++ hears 14021040 (b_notice 2 1) what.Demoted became.Notice
    ++ goes 20000000 (again 0 0) shape.List Regular
    ++ goes 30000000 (a_nonce 5 0 false) shape.Nonce Regular
    ++ goes 6000000000 renewal shape.Renewal Regular
    ++ hears 6004021600 renewed_grant what.Request became.Grant
    ++ goes 6010000000 (renewed_list 0 0) shape.List Regular

abbrev pub same_log_b : List Entry
same_log_b =
    early_b
    ++ tells 12020560 3 2
    ++ takes 22020800 (again 1 1) what.Regular
    ++ takes 32020560 (a_nonce 5 1 false) what.Regular
    ++ answers 6002020800 renewed what.Renewal (b_grant 3 0 [] renewed_cap) shape.Request Request

-- the router's log before the list comes again, before the nonce alone behind it, and before the list of the second grant
abbrev pub before_again : List Entry
before_again = early_router ++ demotes 11010280 3 ++ notices 13020800 2

abbrev pub before_nonce : List Entry
before_nonce = before_again ++ passes 21010400 0 (again 0 0) (charged_to 0 2) 2 (again 1 1)

abbrev pub before_renewal : List Entry
before_renewal = before_nonce ++ passes 31010280 0 (a_nonce 5 0 false) (charged_to 0 2) 2 (a_nonce 5 1 false)

abbrev pub before_list : List Entry
before_list =
    before_renewal
    ++ passes 6001010400 0 renewal (charged_to 0 2) 2 renewed
    ++ passes 6003021150 3 (b_grant 3 0 [] renewed_cap) (asking 1) 1 renewed_grant

abbrev pub same_log_router : List Entry
same_log_router = before_list ++ passes 6011010400 0 (renewed_list 0 0) (charged_to 6 2) 2 (renewed_list 1 1)

abbrev pub same_logs : Logs
same_logs = same_log_router ∷ same_log_a ∷ same_log_b ∷ []

-- just past the time at which that list comes
abbrev pub same_until : ℕ
same_until = 6011010401
