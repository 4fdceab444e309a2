-- The logs of the walk over a restart with another master are a run.
use Rattle.tva_laws.proofs.Common.{◌≡◌, ℕ, suc, true, false, List, [], ◌∷◌, Some, refl, arith, same_Some, in_force, credit_of, layout, two_bytes, six_bytes, eight_bytes, number_bytes, list_verdict, nonce_verdict, is_granted, under_grant, decision, link_to, answer_to_shown, answer_to_nonce, judged_shim, handle, intended, after_intending, receipt_of, after_receipt, AreTraceRows, Input, FromTrace, Arrival, Site, Arrived, Entry, content, arrived, GoesOn, start_after, at_time, log_at, site_at, HasLog, IsRunTo, segment_due, range_of, after_upper, answer_to, restart_config, sends, a_request, a_list, a_nonce, b_grant, b_notice, first_cap, first_request, first_grant, charged_to, new_master, new_rows, new_logs, new_log_a, new_log_b, new_log_router, new_until, new_list, new_before_list, second_cap, second_request, second_grant, nat_tests}
use Rattle.tva_laws.proofs.WorkedRuns.{none_from, has_by, by_number, triple, pair}
use Rattle.tva_laws.proofs.Walkable.{none_begins}
use Rattle.tva_laws.proofs.Networks.{sent}
use Rattle.tva_laws.proofs.Nodes.{router_site, a_site, b_site, lasts, first_passes}

-- ## rows

pub traced : AreTraceRows (restart_config new_master) new_rows
traced = grind (arith, nat_tests, pair, sent, none_begins)

-- ## inputs

abbrev router_inputs : List Input
router_inputs =
    Arrival (at_time 1001000) 0 (a_request 1 0 [])
    ∷ Arrival (at_time 3002450) 3 (b_grant 1 0 [] first_cap)
    ∷ Arrival (at_time 6010400) 0 (a_list 2 2 0 0 first_cap)
    ∷ Arrival (at_time 11010280) 0 (a_nonce 3 0 false)
    ∷ Arrival (at_time 11110280) 0 (a_nonce 4 0 false)
    ∷ Arrival (at_time 13020800) 3 (b_notice 2 0)
    ∷ Arrival (at_time 13120800) 3 (b_notice 3 0)
    ∷ Arrival (at_time 2101001000) 0 (a_request 5 0 [])
    ∷ Arrival (at_time 2103002450) 3 (b_grant 4 0 [] second_cap)
    ∷ Arrival (at_time 2111010400) 0 (new_list 0 0)
    ∷ []

abbrev a_inputs : List Input
a_inputs =
    FromTrace (sends 0 77)
    ∷ Arrival (at_time 4002900) 1 first_grant
    ∷ FromTrace (sends 5000000 1000)
    ∷ FromTrace (sends 10000000 1000)
    ∷ FromTrace (sends 10100000 1000)
    ∷ Arrival (at_time 14021040) 1 (b_notice 2 1)
    ∷ Arrival (at_time 14121040) 1 (b_notice 3 1)
    ∷ FromTrace (sends 2100000000 77)
    ∷ Arrival (at_time 2104002900) 1 second_grant
    ∷ FromTrace (sends 2110000000 1000)
    ∷ []

abbrev b_inputs : List Input
b_inputs =
    Arrival (at_time 2002100) 2 first_request
    ∷ Arrival (at_time 7020800) 2 (a_list 2 2 1 1 first_cap)
    ∷ Arrival (at_time 12020560) 2 (a_nonce 3 1 true)
    ∷ Arrival (at_time 12120560) 2 (a_nonce 4 1 true)
    ∷ Arrival (at_time 2102002100) 2 second_request
    ∷ []

-- ## what each node makes of them

second_passes : content (router_site new_master) new_before_list (Arrival (at_time 2111010400) 0 (new_list 0 0))
    ≡ Some (Arrived (Some 0) (new_list 0 0) (charged_to 2 2) (new_list 1 1))
unfolding layout two_bytes six_bytes eight_bytes number_bytes credit_of list_verdict link_to answer_to_shown judged_shim handle arrived in_force
second_passes = rw (lasts new_master 2101001000 2111010400 (omega arith) (omega arith)) refl

router_steps : GoesOn (router_site new_master) [] router_inputs new_log_router
unfolding layout two_bytes six_bytes eight_bytes number_bytes credit_of nonce_verdict link_to answer_to_nonce judged_shim handle arrived decision start_after in_force
router_steps = grind (arith, nat_tests, triple, pair, first_passes, second_passes)

a_steps : GoesOn a_site [] a_inputs new_log_a
unfolding layout two_bytes six_bytes eight_bytes number_bytes credit_of is_granted under_grant decision link_to intended after_intending receipt_of after_receipt segment_due range_of after_upper answer_to start_after
a_steps = grind (arith, nat_tests, triple, pair)

b_steps : GoesOn b_site [] b_inputs new_log_b
unfolding layout two_bytes six_bytes eight_bytes number_bytes credit_of is_granted under_grant decision link_to intended after_intending receipt_of after_receipt segment_due range_of after_upper answer_to start_after
b_steps = (refl, refl, (refl, (refl, refl, (refl, refl, (refl, (refl, refl, (refl, (refl, refl, (refl, tt)))))))))

-- ## the run

abbrev Has : Site → List Entry → Type 0
Has site log = HasLog (restart_config new_master) new_rows new_logs new_until site log

router_has : Has (router_site new_master) new_log_router
unfolding layout two_bytes six_bytes eight_bytes number_bytes
router_has = has_by _ _ _ _ _ router_inputs _
    (record { turns = refl; gives = by_number 5 _ (refl, (refl, (refl, (refl, (refl, tt))))) (λ n. none_from 4 (suc (suc (suc (suc (suc n))))) router_inputs (omega arith) refl); order = refl; early = refl; steps = router_steps; calm = (refl, (refl, tt)) })

a_has : Has a_site new_log_a
unfolding layout two_bytes six_bytes eight_bytes number_bytes
a_has = has_by _ _ _ _ _ a_inputs _
    (record { turns = refl; gives = by_number 5 _ (refl, (refl, (refl, (refl, (refl, tt))))) (λ n. none_from 4 (suc (suc (suc (suc (suc n))))) a_inputs (omega arith) refl); order = refl; early = refl; steps = a_steps; calm = (refl, tt) })

b_has : Has b_site new_log_b
unfolding layout two_bytes six_bytes eight_bytes number_bytes
b_has = has_by _ _ _ _ _ b_inputs _
    (record { turns = refl; gives = by_number 5 _ (refl, (refl, (refl, (refl, (refl, tt))))) (λ n. none_from 4 (suc (suc (suc (suc (suc n))))) b_inputs (omega arith) refl); order = refl; early = refl; steps = b_steps; calm = (refl, tt) })

has : (node : ℕ) (site : Site) → site_at (restart_config new_master) node ≡ Some site → Has site (log_at new_logs node)
has node site e = grind (arith, nat_tests, same_Some, router_site, router_has, a_site, a_has, b_site, b_has)

pub is_run : IsRunTo (restart_config new_master) new_rows new_until new_logs
is_run = record { within = omega arith; count = refl; each = has }
