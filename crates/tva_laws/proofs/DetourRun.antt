-- The logs of the walk by a changed route are a run.
use Rattle.tva_laws.proofs.Common.{◌≡◌, ℕ, zero, suc, true, false, List, [], ◌∷◌, take, Some, refl, subst, arith, same_Some, Fate, in_force, credit_of, PacketData, layout, two_bytes, six_bytes, eight_bytes, number_bytes, list_verdict, nonce_verdict, is_granted, under_grant, decision, link_to, answer_to_shown, answer_to_nonce, judged_shim, handle, intended, after_intending, receipt_of, after_receipt, Router, Host, Input, FromTrace, Arrival, Site, site_of, Arrived, Entry, content, arrived, GoesOn, start_after, at_time, links_out, log_at, site_at, HasLog, IsRunTo, segment_due, range_of, after_upper, answer_to, walk_host_b, denying_a, charged_to, first_router, second_router, detour_config, detour_rows, detour_row, detour_logs, detour_log_a, detour_log_b, log_first, log_second, first_before_again, first_before_list, second_before_list, detour_until, asked, narrow_caps, wide_caps, narrow_list, narrow_nonce, wide_list, told, refused, by_first, by_second, back_by_first, nat_tests}
use Rattle.tva_base.specs.declared.packet.Cause.TheVariants.{NoCapability}
use Rattle.tva_laws.proofs.WorkedRuns.{none_from, has_by, by_number, triple, pair}
use Rattle.tva_laws.specs.Detour.{answered}
use Rattle.tva_laws.proofs.Nodes.{lasts}

-- ## inputs

abbrev first_inputs : List Input
first_inputs =
    Arrival (at_time 1001000) 0 (asked 1 0 [])
    ∷ Arrival (at_time 3002450) 3 (answered 1 0 [] narrow_caps)
    ∷ Arrival (at_time 6010400) 0 (narrow_list 2 0 0 false)
    ∷ Arrival (at_time 11010280) 0 (narrow_nonce 0 false)
    ∷ Arrival (at_time 14031080) 3 (told 2 0)
    ∷ Arrival (at_time 21010400) 0 (narrow_list 4 0 0 false)
    ∷ Arrival (at_time 24031440) 3 (told 3 0)
    ∷ Arrival (at_time 2101001000) 0 (asked 5 0 [])
    ∷ Arrival (at_time 2104003730) 3 (answered 4 0 [] wide_caps)
    ∷ Arrival (at_time 2111010480) 0 (wide_list 0 0)
    ∷ []

abbrev second_inputs : List Input
second_inputs =
    Arrival (at_time 12020560) 4 (narrow_nonce 1 false)
    ∷ Arrival (at_time 22020800) 4 (narrow_list 4 1 1 false)
    ∷ Arrival (at_time 2102002100) 4 (asked 5 1 (by_first 2))
    ∷ Arrival (at_time 2112020960) 4 (wide_list 1 1)
    ∷ []

abbrev a_inputs : List Input
a_inputs =
    FromTrace (detour_row 0 77)
    ∷ Arrival (at_time 4002900) 1 (answered 1 1 (back_by_first 0) narrow_caps)
    ∷ FromTrace (detour_row 5000000 1000)
    ∷ FromTrace (detour_row 10000000 1000)
    ∷ Arrival (at_time 15031320) 1 (told 2 1)
    ∷ FromTrace (detour_row 20000000 1000)
    ∷ Arrival (at_time 25031680) 1 (told 3 1)
    ∷ FromTrace (detour_row 2100000000 77)
    ∷ Arrival (at_time 2105004260) 1 (answered 4 1 (back_by_first 2) wide_caps)
    ∷ FromTrace (detour_row 2110000000 1000)
    ∷ []

abbrev b_inputs : List Input
b_inputs =
    Arrival (at_time 2002100) 2 (asked 1 1 (by_first 0))
    ∷ Arrival (at_time 7020800) 2 (narrow_list 2 1 1 false)
    ∷ Arrival (at_time 13030840) 5 (narrow_nonce 2 true)
    ∷ Arrival (at_time 23031200) 5 (narrow_list 4 2 1 true)
    ∷ Arrival (at_time 2103003300) 5 (asked 5 2 by_second)
    ∷ []

-- ## what each node makes of them

abbrev first_site : Site
first_site = site_of 0 (Router first_router) (links_out 0 detour_config.links)

abbrev second_site : Site
second_site = site_of 1 (Router second_router) (links_out 1 detour_config.links)

abbrev a_site : Site
a_site = site_of 2 (Host denying_a) (links_out 2 detour_config.links)

abbrev b_site : Site
b_site = site_of 3 (Host walk_host_b) (links_out 3 detour_config.links)

abbrev Makes : Site → List Entry → ℕ → ℕ → PacketData → Fate → PacketData → Type 0
Makes site before time link packet fate onward =
    content site before (Arrival (at_time time) link packet) ≡ Some (Arrived (Some link) packet fate onward)

list_passes : Makes first_site (take 4 first_before_again) 6010400 0 (narrow_list 2 0 0 false) (charged_to 0 2) (narrow_list 2 1 1 false)
unfolding layout two_bytes six_bytes eight_bytes number_bytes credit_of list_verdict link_to answer_to_shown judged_shim handle arrived in_force
list_passes = rw (lasts first_router.master 1001000 6010400 (omega arith) (omega arith)) refl

again_passes : Makes first_site first_before_again 21010400 0 (narrow_list 4 0 0 false) (charged_to 0 4) (narrow_list 4 1 1 false)
unfolding layout two_bytes six_bytes eight_bytes number_bytes credit_of list_verdict link_to answer_to_shown judged_shim handle arrived in_force
again_passes = rw (lasts first_router.master 1001000 21010400 (omega arith) (omega arith)) refl

wide_passes : Makes first_site first_before_list 2111010480 0 (wide_list 0 0) (charged_to 2 4) (wide_list 1 1)
unfolding layout two_bytes six_bytes eight_bytes number_bytes credit_of list_verdict link_to answer_to_shown judged_shim handle arrived in_force
wide_passes = rw (lasts first_router.master 2101001000 2111010480 (omega arith) (omega arith)) refl

list_refused : Makes second_site (take 2 second_before_list) 22020800 4 (narrow_list 4 1 1 false) (refused NoCapability) (narrow_list 4 2 1 true)
unfolding layout two_bytes six_bytes eight_bytes number_bytes credit_of list_verdict link_to answer_to_shown judged_shim handle arrived in_force
list_refused = refl

second_passes : Makes second_site second_before_list 2112020960 4 (wide_list 1 1) (charged_to 2 5) (wide_list 2 2)
unfolding layout two_bytes six_bytes eight_bytes number_bytes credit_of list_verdict link_to answer_to_shown judged_shim handle arrived in_force
second_passes = rw (lasts second_router.master 2102002100 2112020960 (omega arith) (omega arith)) refl

first_steps : GoesOn first_site [] first_inputs log_first
unfolding layout two_bytes six_bytes eight_bytes number_bytes credit_of nonce_verdict link_to answer_to_nonce judged_shim handle arrived decision start_after in_force
first_steps = grind (arith, nat_tests, triple, pair, list_passes, again_passes, wide_passes)

second_steps : GoesOn second_site [] second_inputs log_second
unfolding layout two_bytes six_bytes eight_bytes number_bytes credit_of nonce_verdict link_to answer_to_nonce judged_shim handle arrived decision start_after in_force
second_steps = grind (arith, nat_tests, list_refused, second_passes)

a_steps : GoesOn a_site [] a_inputs detour_log_a
unfolding layout two_bytes six_bytes eight_bytes number_bytes credit_of is_granted under_grant decision link_to intended after_intending receipt_of after_receipt segment_due range_of after_upper answer_to start_after
a_steps = grind (arith, nat_tests, triple, pair)

b_steps : GoesOn b_site [] b_inputs detour_log_b
unfolding layout two_bytes six_bytes eight_bytes number_bytes credit_of is_granted under_grant decision link_to intended after_intending receipt_of after_receipt segment_due range_of after_upper answer_to start_after
b_steps = search

-- ## the run

abbrev Has : Site → List Entry → Type 0
Has site log = HasLog detour_config detour_rows detour_logs detour_until site log

first_has : Has first_site log_first
unfolding layout two_bytes six_bytes eight_bytes number_bytes
first_has = has_by _ _ _ _ _ first_inputs _
    (record { turns = refl; gives = by_number 7 _ (refl, (refl, (refl, (refl, (refl, (refl, (refl, tt))))))) (λ n. none_from 6 (suc (suc (suc (suc (suc (suc (suc n))))))) first_inputs (omega arith) refl); order = refl; early = refl; steps = first_steps; calm = (refl, (refl, (refl, tt))) })

second_has : Has second_site log_second
unfolding layout two_bytes six_bytes eight_bytes number_bytes
second_has = has_by _ _ _ _ _ second_inputs _
    (record { turns = refl; gives = by_number 7 _ (refl, (refl, (refl, (refl, (refl, (refl, (refl, tt))))))) (λ n. none_from 6 (suc (suc (suc (suc (suc (suc (suc n))))))) second_inputs (omega arith) refl); order = refl; early = refl; steps = second_steps; calm = (refl, tt) })

a_has : Has a_site detour_log_a
unfolding layout two_bytes six_bytes eight_bytes number_bytes
a_has = has_by _ _ _ _ _ a_inputs _
    (record { turns = refl; gives = by_number 7 _ (refl, (refl, (refl, (refl, (refl, (refl, (refl, tt))))))) (λ n. none_from 6 (suc (suc (suc (suc (suc (suc (suc n))))))) a_inputs (omega arith) refl); order = refl; early = refl; steps = a_steps; calm = (refl, tt) })

b_has : Has b_site detour_log_b
unfolding layout two_bytes six_bytes eight_bytes number_bytes
b_has = has_by _ _ _ _ _ b_inputs _
    (record { turns = refl; gives = by_number 7 _ (refl, (refl, (refl, (refl, (refl, (refl, (refl, tt))))))) (λ n. none_from 6 (suc (suc (suc (suc (suc (suc (suc n))))))) b_inputs (omega arith) refl); order = refl; early = refl; steps = b_steps; calm = (refl, tt) })

has : (node : ℕ) (site : Site) → site_at detour_config node ≡ Some site → Has site (log_at detour_logs node)
has zero site e = subst (λ (s : Site). Has s log_first) (same_Some first_site site e) first_has
has (suc zero) site e = subst (λ (s : Site). Has s log_second) (same_Some second_site site e) second_has
has (suc (suc zero)) site e = subst (λ (s : Site). Has s detour_log_a) (same_Some a_site site e) a_has
has (suc (suc (suc zero))) site e = subst (λ (s : Site). Has s detour_log_b) (same_Some b_site site e) b_has
has (suc (suc (suc (suc n)))) site e = absurd (cc)

pub is_run : IsRunTo detour_config detour_rows detour_until detour_logs
is_run = record { within = omega arith; count = refl; each = has }
