-- The logs of the worked walk are a run.
use Rattle.tva_laws.proofs.Common.{◌≡◌, ℕ, suc, List, [], ◌∷◌, Some, refl, arith, same_Some, Regular, in_force, credit_of, AreSomeRights, layout, two_bytes, six_bytes, eight_bytes, number_bytes, check_of, Valid, list_verdict, nonce_verdict, is_granted, under_grant, decision, link_to, answer_to_shown, answer_to_nonce, judged_shim, handle, intended, after_intending, receipt_of, after_receipt, Input, FromTrace, Arrival, Site, site_of, Arrived, Entry, content, arrived, GoesOn, start_after, at_time, links_out, log_at, site_at, HasLog, IsRunTo, Way, walk_flow, walk_back, walk_rights, walk_router, walk_host_a, walk_host_b, walk_config, walk_first, walk_spoofed, walk_second, walk_third, walk_rows, walk_cap, walk_grant, walk_fate, walk_entry, walk_request, walk_reply, walk_list, walk_bare, walk_nonce, walk_renewal, walk_precap, walk_before_list, walk_before_renewal, walk_log_a, walk_log_b, walk_log_router, walk_logs, walk_until, walk_list_comes, walk_nonce_comes, walk_renewal_comes, segment_due, range_of, after_upper, answer_to, nat_tests}
use Rattle.tva_plan.specs.declared.config.NodePlan.TheVariants as plans
use Rattle.tva_laws.proofs.EachMile.{valid}
use Rattle.tva_laws.proofs.WorkedRuns.{none_from, has_by, by_number}

-- ## inputs

abbrev router_inputs : List Input
router_inputs =
    Arrival (at_time 1001000) 0 (walk_request 0 [])
    ∷ Arrival (at_time 3002450) 3 (walk_reply 0 [])
    ∷ walk_list_comes
    ∷ FromTrace walk_spoofed
    ∷ walk_nonce_comes
    ∷ walk_renewal_comes
    ∷ []

abbrev a_inputs : List Input
a_inputs =
    FromTrace walk_first
    ∷ Arrival (at_time 4002900) 1 (walk_reply 1 (walk_entry 2 walk_back ∷ []))
    ∷ FromTrace walk_second
    ∷ FromTrace walk_third
    ∷ []

abbrev b_inputs : List Input
b_inputs =
    Arrival (at_time 2002100) 2 (walk_request 1 (walk_entry 1 walk_flow ∷ []))
    ∷ Arrival (at_time 6003940) 2 (walk_list 1 1)
    ∷ Arrival (at_time 10000200) 2 (walk_bare 1)
    ∷ Arrival (at_time 12020560) 2 (walk_nonce 1)
    ∷ []

-- ## what each node makes of them

abbrev router_site : Site
router_site = site_of 0 (plans.Router walk_router) (links_out 0 walk_config.links)

abbrev a_site : Site
a_site = site_of 1 (plans.Host walk_host_a) (links_out 1 walk_config.links)

abbrev b_site : Site
b_site = site_of 2 (plans.Host walk_host_b) (links_out 2 walk_config.links)

abbrev way : Way
way = record {
  margin = 1000000;
  retry = 2000000000;
  version = 1;
  delay = 1000520;
  flow = walk_flow;
  master = walk_router.master;
  offset = 0;
  slots = 8;
}

some_rights : AreSomeRights walk_rights
some_rights = record { units = omega arith; seconds = omega arith }

-- the capability is valid when the list comes, and when the renewal comes
list_valid : check_of walk_router.master 0 walk_flow (walk_cap walk_flow) walk_rights ≡ Valid walk_grant
list_valid = valid way walk_rights 1001000 5003420 some_rights (omega arith) (omega arith)

renewal_valid : check_of walk_router.master 6 walk_flow (walk_cap walk_flow) walk_rights ≡ Valid walk_grant
renewal_valid = valid way walk_rights 1001000 6001010400 some_rights (omega arith) (omega arith)

list_passes : content router_site walk_before_list walk_list_comes
    ≡ Some (Arrived (Some 0) (walk_list 0 0) (walk_fate Regular (Some walk_grant) 2) (walk_list 1 1))
unfolding layout two_bytes six_bytes eight_bytes number_bytes credit_of list_verdict link_to answer_to_shown judged_shim handle arrived in_force
list_passes = rw list_valid refl

renewal_passes : content router_site walk_before_renewal walk_renewal_comes
    ≡ Some (Arrived (Some 0) (walk_renewal 0 0 (walk_cap walk_flow)) (walk_fate Regular (Some walk_grant) 2) (walk_renewal 1 1 (walk_precap walk_flow 6)))
unfolding layout two_bytes six_bytes eight_bytes number_bytes credit_of list_verdict link_to answer_to_shown judged_shim handle arrived in_force
renewal_passes = rw renewal_valid refl

router_steps : GoesOn router_site [] router_inputs walk_log_router
unfolding layout two_bytes six_bytes eight_bytes number_bytes credit_of nonce_verdict link_to answer_to_nonce judged_shim handle arrived decision start_after in_force
router_steps = grind (arith, nat_tests, list_passes, renewal_passes)

a_steps : GoesOn a_site [] a_inputs walk_log_a
unfolding layout two_bytes six_bytes eight_bytes number_bytes credit_of is_granted under_grant decision link_to intended after_intending receipt_of after_receipt segment_due range_of after_upper answer_to start_after
a_steps = (refl, refl, (refl, (refl, refl, (refl, (refl, refl, (refl, (refl, refl, (refl, tt))))))))

b_steps : GoesOn b_site [] b_inputs walk_log_b
unfolding layout two_bytes six_bytes eight_bytes number_bytes credit_of is_granted under_grant decision link_to intended after_intending receipt_of after_receipt segment_due range_of after_upper answer_to start_after
b_steps = (refl, refl, (refl, (refl, refl, (refl, refl, (refl, refl, tt)))))

-- ## the run

abbrev Has : Site → List Entry → Type 0
Has site log = HasLog walk_config walk_rows walk_logs walk_until site log

router_has : Has router_site walk_log_router
unfolding layout two_bytes six_bytes eight_bytes number_bytes
router_has = has_by _ _ _ _ _ router_inputs _
    (record { turns = refl; gives = by_number 5 _ (refl, (refl, (refl, (refl, (refl, tt))))) (λ n. none_from 4 (suc (suc (suc (suc (suc n))))) router_inputs (omega arith) refl); order = refl; early = refl; steps = router_steps; calm = (refl, (refl, tt)) })

a_has : Has a_site walk_log_a
unfolding layout two_bytes six_bytes eight_bytes number_bytes
a_has = has_by _ _ _ _ _ a_inputs _
    (record { turns = refl; gives = by_number 5 _ (refl, (refl, (refl, (refl, (refl, tt))))) (λ n. none_from 4 (suc (suc (suc (suc (suc n))))) a_inputs (omega arith) refl); order = refl; early = refl; steps = a_steps; calm = (refl, tt) })

b_has : Has b_site walk_log_b
unfolding layout two_bytes six_bytes eight_bytes number_bytes
b_has = has_by _ _ _ _ _ b_inputs _
    (record { turns = refl; gives = by_number 5 _ (refl, (refl, (refl, (refl, (refl, tt))))) (λ n. none_from 4 (suc (suc (suc (suc (suc n))))) b_inputs (omega arith) refl); order = refl; early = refl; steps = b_steps; calm = (refl, tt) })

has : (node : ℕ) (site : Site) → site_at walk_config node ≡ Some site → Has site (log_at walk_logs node)
has node site e = grind (arith, nat_tests, same_Some, router_has, a_has, b_has)

pub is_run : IsRunTo walk_config walk_rows walk_until walk_logs
is_run = record { within = omega arith; count = refl; each = has }
