-- The network of the walk with a loss is valid, and its logs are a run.
use Rattle.tva_laws.proofs.Common.{◌≡◌, ◌≤◌, ℕ, suc, false, List, [], ◌∷◌, Some, refl, arith, All-from_recursion, same_Some, DenyAll, in_force, credit_of, PacketData, layout, two_bytes, six_bytes, eight_bytes, number_bytes, list_verdict, nonce_verdict, is_granted, under_grant, decision, link_to, answer_to_shown, answer_to_nonce, judged_shim, handle, intended, after_intending, receipt_of, after_receipt, AreClassLimits, Router, Host, links_from, incoming_of, outgoing_of, IsLinkPlan, IsConfig, IsRow, AreTraceRows, Input, FromTrace, Arrival, Site, site_of, Arrived, Entry, content, arrived, GoesOn, start_after, at_time, links_out, log_at, site_at, HasLog, IsRunTo, segment_due, range_of, after_upper, answer_to, walk_router, denying_a, sends, a_request, a_list, a_nonce, b_grant, first_cap, first_request, first_grant, charged_to, short_link, loss_config, loss_rows, loss_logs, loss_log_a, loss_log_b, loss_log_router, loss_before_renewal, loss_until, late_renewal, late_renewed, nat_tests}
use Rattle.tva_laws.proofs.WorkedRuns.{none_from, has_by, by_number, pair}
use Rattle.tva_laws.proofs.Walkable.{limits_fine, link_fine, config_with, valid_with, none_begins}
use Rattle.tva_laws.proofs.Nodes.{b_site, lasts, before_first}

-- ## the network and its rows

class_fine : AreClassLimits short_link.limits.regular
class_fine = grind (arith, nat_tests)

short_fine : IsLinkPlan 3 short_link
short_fine = grind (arith, nat_tests, limits_fine, class_fine)

-- with the walk's links
wide : IsConfig (config_with [] DenyAll)
wide = valid_with [] DenyAll tt (omega arith)

pub valid : IsConfig loss_config
unfolding links_from incoming_of outgoing_of
valid = record {
  horizon = omega arith;
  max_events = (omega arith, omega arith);
  few_nodes = omega arith;
  few_links = omega arith;
  few_routes = omega arith;
  few_restarts = omega arith;
  few_reroutes = omega arith;
  few_slots = omega arith;
  few_places = omega arith;
  nodes = wide.nodes;
  policies = wide.policies;
  routers_first = wide.routers_first;
  links = All-from_recursion (IsLinkPlan 3) loss_config.links (
    short_fine,
    (
      link_fine 0 1 0 (omega arith) (omega arith) (λ e. omega (arith, e)),
      (
        link_fine 0 2 0 (omega arith) (omega arith) (λ e. omega (arith, e)),
        (link_fine 2 0 2 (omega arith) (omega arith) (λ e. omega (arith, e)), tt),
      ),
    ),
  );
  named = wide.named;
  names = wide.names;
  addresses = wide.addresses;
  pairs = wide.pairs;
  wired = wide.wired;
}

sent : (time payload : ℕ) → time ≤ 10000000000 → payload ≤ 1600 → IsRow loss_config (sends time payload)
sent time payload t p = record { time = t; node = omega arith; what = (refl, p) }

pub traced : AreTraceRows loss_config loss_rows
traced = grind (arith, nat_tests, pair, sent, none_begins)

-- ## inputs

abbrev router_inputs : List Input
router_inputs =
    Arrival (at_time 1001000) 0 (a_request 1 0 [])
    ∷ Arrival (at_time 3002450) 3 (b_grant 1 0 [] first_cap)
    ∷ Arrival (at_time 6010400) 0 (a_list 2 2 0 0 first_cap)
    ∷ Arrival (at_time 11010280) 0 (a_nonce 3 0 false)
    ∷ Arrival (at_time 11020560) 0 (a_nonce 4 0 false)
    ∷ Arrival (at_time 6001010400) 0 late_renewal
    ∷ []

abbrev a_inputs : List Input
a_inputs =
    FromTrace (sends 0 77)
    ∷ Arrival (at_time 4002900) 1 first_grant
    ∷ FromTrace (sends 5000000 1000)
    ∷ FromTrace (sends 10000000 1000)
    ∷ FromTrace (sends 10001000 1000)
    ∷ FromTrace (sends 10002000 1000)
    ∷ FromTrace (sends 6000000000 1000)
    ∷ []

abbrev b_inputs : List Input
b_inputs =
    Arrival (at_time 2002100) 2 first_request
    ∷ Arrival (at_time 7020800) 2 (a_list 2 2 1 1 first_cap)
    ∷ Arrival (at_time 12020560) 2 (a_nonce 3 1 false)
    ∷ Arrival (at_time 12030840) 2 (a_nonce 4 1 false)
    ∷ []

-- ## what each node makes of them

abbrev loss_router : Site
loss_router = site_of 0 (Router walk_router) (links_out 0 loss_config.links)

abbrev loss_a : Site
loss_a = site_of 1 (Host denying_a) (links_out 1 loss_config.links)

abbrev Passes : List Entry → ℕ → PacketData → PacketData → Type 0
Passes before time packet onward =
    content loss_router before (Arrival (at_time time) 0 packet) ≡ Some (Arrived (Some 0) packet (charged_to 0 2) onward)

list_passes : Passes before_first 6010400 (a_list 2 2 0 0 first_cap) (a_list 2 2 1 1 first_cap)
unfolding layout two_bytes six_bytes eight_bytes number_bytes credit_of list_verdict link_to answer_to_shown judged_shim handle arrived in_force
list_passes = rw (lasts walk_router.master 1001000 6010400 (omega arith) (omega arith)) refl

renewal_passes : Passes loss_before_renewal 6001010400 late_renewal late_renewed
unfolding layout two_bytes six_bytes eight_bytes number_bytes credit_of list_verdict link_to answer_to_shown judged_shim handle arrived in_force
renewal_passes = rw (lasts walk_router.master 1001000 6001010400 (omega arith) (omega arith)) refl

router_steps : GoesOn loss_router [] router_inputs loss_log_router
unfolding layout two_bytes six_bytes eight_bytes number_bytes credit_of nonce_verdict link_to answer_to_nonce judged_shim handle arrived decision start_after in_force
router_steps = grind (arith, nat_tests, list_passes, renewal_passes)

a_steps : GoesOn loss_a [] a_inputs loss_log_a
unfolding layout two_bytes six_bytes eight_bytes number_bytes credit_of is_granted under_grant decision link_to intended after_intending receipt_of after_receipt segment_due range_of after_upper answer_to start_after
a_steps = search

b_steps : GoesOn b_site [] b_inputs loss_log_b
unfolding layout two_bytes six_bytes eight_bytes number_bytes credit_of is_granted under_grant decision link_to intended after_intending receipt_of after_receipt segment_due range_of after_upper answer_to start_after
b_steps = search

-- ## the run

abbrev Has : Site → List Entry → Type 0
Has site log = HasLog loss_config loss_rows loss_logs loss_until site log

router_has : Has loss_router loss_log_router
unfolding layout two_bytes six_bytes eight_bytes number_bytes
router_has = has_by _ _ _ _ _ router_inputs _
    (record { turns = refl; gives = by_number 5 _ (refl, (refl, (refl, (refl, (refl, tt))))) (λ n. none_from 4 (suc (suc (suc (suc (suc n))))) router_inputs (omega arith) refl); order = refl; early = refl; steps = router_steps; calm = (refl, (refl, tt)) })

a_has : Has loss_a loss_log_a
unfolding layout two_bytes six_bytes eight_bytes number_bytes
a_has = has_by _ _ _ _ _ a_inputs _
    (record { turns = refl; gives = by_number 5 _ (refl, (refl, (refl, (refl, (refl, tt))))) (λ n. none_from 4 (suc (suc (suc (suc (suc n))))) a_inputs (omega arith) refl); order = refl; early = refl; steps = a_steps; calm = (refl, tt) })

b_has : Has b_site loss_log_b
unfolding layout two_bytes six_bytes eight_bytes number_bytes
b_has = has_by _ _ _ _ _ b_inputs _
    (record { turns = refl; gives = by_number 5 _ (refl, (refl, (refl, (refl, (refl, tt))))) (λ n. none_from 4 (suc (suc (suc (suc (suc n))))) b_inputs (omega arith) refl); order = refl; early = refl; steps = b_steps; calm = (refl, tt) })

has : (node : ℕ) (site : Site) → site_at loss_config node ≡ Some site → Has site (log_at loss_logs node)
has node site e = grind (arith, nat_tests, same_Some, router_has, a_has, b_site, b_has)

pub is_run : IsRunTo loss_config loss_rows loss_until loss_logs
is_run = record { within = omega arith; count = refl; each = has }
