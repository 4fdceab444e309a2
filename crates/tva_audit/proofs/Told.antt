-- What the events of a run say was charged.
use Rattle.tva_audit.proofs.Common.{◌≡◌, ℕ, suc, ◌+◌, ◌<◌, List, [], ◌∷◌, length, get_or, map, Option, Some, None, refl, ◌∙◌, ap, ap₂, subst, arith, slice_get, option_map, option_map_or, cons_option, slice_get-get_or, Event, Grant, from_source, Config, NodePlan, Router, Host, picked, Site, site_of, Entry, Took, input_time, charge_of, charges, Logs, links_out, log_at, site_at, AreEvents, event_node, Charged, charged_at, charged_in, charges_in, sums_of, numbered, run_sums, sum_of_log, sum_told, without_nonce, sums_among}
use Rattle.tva_shim.specs.Packets.{PacketData, packet_length}
use Rattle.tva_run.specs.Entries as entry
use Rattle.tva_run.specs.Parts as parts
use Rattle.tva_run.specs.Told.{event_of, events, at_time}

-- ## charges

taken_told : (time : ℕ) (packet : PacketData) (charge : Option Grant)
    → option_map (charged_at (at_time time) (packet_length packet)) charge ≡ option_map without_nonce (option_map (parts.charged time packet) charge)
taken_told time packet None = refl
taken_told time packet (Some grant) = refl

entry_told : (site : Site) (e : Entry) → charged_in (event_of site e) ≡ option_map without_nonce (charge_of e)
entry_told site (Took input (entry.Arrived from packet fate onward)) = taken_told (input_time input) packet fate.charge
entry_told site _ = refl

one_more : {X Y : Type 0} (f : X → Y) (o : Option X) (xs : List X) → cons_option (option_map f o) (map f xs) ≡ map f (cons_option o xs)
one_more f None xs = refl
one_more f (Some x) xs = refl

-- the events of a node tell its charges, without their nonces
pub charges_told : (site : Site) (log : List Entry) → charges_in (events site log) ≡ map without_nonce (charges log)
charges_told site [] = refl
charges_told site (e ∷ log) =
    ap₂ cons_option (entry_told site e) (charges_told site log) ∙ one_more without_nonce (charge_of e) (charges log)

-- ## sums

module _ (config : Config) (logs : Logs) (told : List Event) (are : AreEvents config logs told) where
  -- what a node tells among the events of a run is told of its log
  sum_same : (number : ℕ) (plan : NodePlan) → slice_get config.nodes number ≡ Some plan
      → sum_told number plan (from_source event_node number told) ≡ sum_of_log number plan (log_at logs number)
  sum_same number (Router plan) there =
      let site : Site = site_of number (Router plan) (links_out number config.links) in
      let is : site_at config number ≡ Some site = ap (option_map (λ p. site_of number p (links_out number config.links))) there in
      let same : from_source event_node number told ≡ events site (log_at logs number) =
      are.each number ∙ ap (λ (o : Option Site). option_map_or (λ s. events s (log_at logs number)) o []) is in
      ap (λ (cs : List Charged). Some (numbered number (sums_of plan.restarts cs))) (ap charges_in same ∙ charges_told site (log_at logs number))
  sum_same number (Host plan) there = refl

  sums_from : (first : ℕ) (plans : List NodePlan) → ((i : ℕ) (p : NodePlan) → i < length plans → slice_get config.nodes (first + i) ≡ Some (get_or plans i p))
      → picked (λ number plan. sum_told number plan (from_source event_node number told)) first plans
      ≡ picked (λ number plan. sum_of_log number plan (log_at logs number)) first plans
  sums_from first [] h = refl
  sums_from first (p ∷ ps) h =
      let there : slice_get config.nodes first ≡ Some p = subst (λ (k : ℕ). slice_get config.nodes k ≡ Some p) (let e : first + 0 ≡ first = omega arith in e) (h 0 p (omega arith)) in
      ap₂ cons_option (sum_same first p there)
      (sums_from (first + 1) ps (λ i q l. subst (λ (k : ℕ). slice_get config.nodes k ≡ Some (get_or ps i q)) (let e : first + suc i ≡ first + 1 + i = omega arith in e) (h (suc i) q (omega (arith, l)))))

  -- the sums of a run are those that its events tell
  pub sums_same : sums_among config told ≡ run_sums config logs
  sums_same = sums_from 0 config.nodes (λ i p l. subst (λ (k : ℕ). slice_get config.nodes k ≡ Some (get_or config.nodes i p)) (let e : i ≡ 0 + i = omega arith in e) (slice_get-get_or config.nodes i p l))
