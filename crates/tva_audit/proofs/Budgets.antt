-- In every run the worst grant of a router is below its limit.
use Rattle.tva_audit.proofs.Common.{◌≡◌, ℕ, suc, ◌+◌, ◌*◌, ◌<◌, List, [], ◌∷◌, length, get_or, map, filter, All, Bool, true, false, cond, Some, refl, sym, ◌∙◌, ap, subst, arith, inl, inr, append-nil, ◌==◌, IfSome, not, slice_get, sum_by, option_map, AllByRecursion, cons_option, cases_Bool, eq-eqb, All-from_recursion, recursion_from_All, sum_by-cons, slice_get-get_or, Grant, Time, filter-true, filter-false, Config, NodePlan, Router, Host, picked, Site, site_of, Entry, charges, Logs, links_out, log_at, site_at, Charged, boot_among, of_boot, bytes_of_pair, charged_bytes, grant_and_sum, is_worse, limit_of, pair_of, pair_sums, pairs_in, same_pair, sums_of, worst_from, worst_of, RouterSum, IsBelowLimit, run_sums, sum_of_log, without_nonce}
use Rattle.tva_base.specs.declared.plan.LinkPlan.{LinkPlan}
use Rattle.tva_base.specs.declared.plan.RouterPlan.{RouterPlan}
use Rattle.tva_base.specs.Changes.{boot_at}
use Rattle.tva_flow.specs.Charges.{Charge, bytes_of}
use Rattle.tva_flow.specs.Charges as flow
use Rattle.tva_router.specs.Boots.{charges_of_boot}
use Rattle.tva_laws.specs.Promises.{KeepsPromises}
use Rattle.tva_report.specs.declared.pairs.Pair.{Pair}
use Rattle.tva_report.specs.Pairs.{firsts}
use Rattle.tva_base.proofs.Each.{each-filter, each-map}

-- what holds of each part holds of all
rest_of_part : {X : Type 0} (P : X → Type 0) (p : X → Bool) (x : X) (xs : List X) → AllByRecursion P (filter p (x ∷ xs)) → AllByRecursion P (filter p xs)
rest_of_part P p x xs h =
    elim (cases_Bool (p x)) [
      | inl a ↦ (subst (AllByRecursion P) (filter-true p x xs a) h).1
      | inr a ↦ subst (AllByRecursion P) (filter-false p x xs a) h
    ]

of_parts : {X : Type 0} (P : ℕ → X → Type 0) (part : X → ℕ) (xs : List X) → ((n : ℕ) → AllByRecursion (P n) (filter (λ x. part x == n) xs))
    → AllByRecursion (λ x. P (part x) x) xs
of_parts P part [] h = tt
of_parts P part (x ∷ xs) h = (
  (subst (AllByRecursion (P (part x))) (filter-true (λ y. part y == part x) x xs (eq-eqb (part x) (part x) refl)) (h (part x))).0,
  of_parts P part xs (λ n. rest_of_part (P n) (λ y. part y == n) x xs (h n)),
)

-- ## sums of pairs

-- a pair with its sum is below its limit
abbrev IsBelow : Pair × ℕ → Type 0
IsBelow pair = pair.1 < limit_of pair.0.grant

firsts_each : {K : Type 0} (P : K → Type 0) (same : K → K → Bool) (ks : List K) → AllByRecursion P ks → AllByRecursion P (firsts same ks)
firsts_each P same [] h = tt
firsts_each P same (k ∷ ks) h = (h.0, each-filter P (λ other. not (same k other)) (firsts same ks) (firsts_each P same ks h.1))

either_below : (w : Bool) (a b : Pair × ℕ) → IsBelow a → IsBelow b → IsBelow (cond w a b)
either_below true a b f g = f
either_below false a b f g = g

worst_among : (best : Pair × ℕ) (pairs : List (Pair × ℕ)) → IsBelow best → AllByRecursion IsBelow pairs → IsBelow (worst_from best pairs)
worst_among best [] b h = b
worst_among best (p ∷ ps) b h = worst_among (cond (is_worse p best) p best) ps (either_below (is_worse p best) p best h.0 b) h.1

worst_below : (pairs : List (Pair × ℕ)) → AllByRecursion IsBelow pairs → IfSome (option_map grant_and_sum (worst_of pairs)) (λ w. w.1 < limit_of w.0)
worst_below [] h = tt
worst_below (p ∷ ps) h = worst_among p ps h.0 h.1

-- each charge's pair is below its limit
abbrev IsFew : List (Time × List ℕ) → List Charged → Charged → Type 0
IsFew restarts cs c = bytes_of_pair restarts cs (pair_of restarts c) < limit_of c.grant

pairs_below : (restarts : List (Time × List ℕ)) (cs : List Charged) → AllByRecursion (IsFew restarts cs) cs → AllByRecursion IsBelow (pair_sums restarts cs)
pairs_below restarts cs h =
    each-map (λ (key : Pair). (key, bytes_of_pair restarts cs key)) IsBelow (pairs_in restarts cs)
    (firsts_each (λ (key : Pair). bytes_of_pair restarts cs key < limit_of key.grant) same_pair (map (pair_of restarts) cs)
    (each-map (pair_of restarts) (λ (key : Pair). bytes_of_pair restarts cs key < limit_of key.grant) cs h))

-- ## a router's charges

-- the bytes of a grant in a boot are the same without nonces
boot_bytes : (plan : RouterPlan) (grant : Grant) (boot : ℕ) (h : List Charge)
    → sum_by (charged_bytes grant) (of_boot plan.restarts boot (map without_nonce h)) ≡ bytes_of grant (charges_of_boot plan boot h)
boot_bytes plan grant boot [] = refl
boot_bytes plan grant boot (c ∷ h) =
    let rest = boot_bytes plan grant boot h in
    elim (cases_Bool (boot_at plan c.time == boot)) [
      | inl a ↦
          ap (sum_by (charged_bytes grant)) (filter-true (λ (d : Charged). boot_among plan.restarts d.time.0 == boot) (without_nonce c) (map without_nonce h) a)
          ∙ sum_by-cons (charged_bytes grant) (without_nonce c) (of_boot plan.restarts boot (map without_nonce h))
          ∙ ap (λ (n : ℕ). charged_bytes grant (without_nonce c) + n) rest
          ∙ sym (sum_by-cons (flow.bytes_under grant) c (charges_of_boot plan boot h))
          ∙ ap (bytes_of grant) (sym (filter-true (λ (d : Charge). boot_at plan d.time == boot) c h a))
      | inr a ↦
          ap (sum_by (charged_bytes grant)) (filter-false (λ (d : Charged). boot_among plan.restarts d.time.0 == boot) (without_nonce c) (map without_nonce h) a)
          ∙ rest
          ∙ ap (bytes_of grant) (sym (filter-false (λ (d : Charge). boot_at plan d.time == boot) c h a))
    ]

-- a charge's grant is within its budget in the charge's boot
abbrev IsKept : RouterPlan → List Charge → ℕ → Charge → Type 0
IsKept plan h boot c = bytes_of c.grant (charges_of_boot plan boot h) < 2 * (1024 * c.grant.rights.n)

few_each : (plan : RouterPlan) (h cs : List Charge) → AllByRecursion (λ c. IsKept plan h (boot_at plan c.time) c) cs
    → AllByRecursion (λ c. IsFew plan.restarts (map without_nonce h) (without_nonce c)) cs
few_each plan h [] k = tt
few_each plan h (c ∷ cs) k =
    let same = boot_bytes plan c.grant (boot_at plan c.time) h in
    let below : bytes_of c.grant (charges_of_boot plan (boot_at plan c.time) h) < 2 * (1024 * c.grant.rights.n) = k.0 in
    let few : sum_by (charged_bytes c.grant) (of_boot plan.restarts (boot_at plan c.time) (map without_nonce h)) < 2 * 1024 * c.grant.rights.n = omega (arith, same, below) in
    (few, few_each plan h cs k.1)

router_below : (plan : RouterPlan) (h : List Charge) → ((boot : ℕ) → All (IsKept plan h boot) (charges_of_boot plan boot h))
    → IfSome (sums_of plan.restarts (map without_nonce h)).worst (λ w. w.1 < limit_of w.0)
router_below plan h budget =
    let kept : AllByRecursion (λ c. IsKept plan h (boot_at plan c.time) c) h =
    of_parts (IsKept plan h) (λ c. boot_at plan c.time) h (λ boot. recursion_from_All (IsKept plan h boot) (charges_of_boot plan boot h) (budget boot)) in
    worst_below (pair_sums plan.restarts (map without_nonce h))
    (pairs_below plan.restarts (map without_nonce h)
    (each-map without_nonce (IsFew plan.restarts (map without_nonce h)) h (few_each plan h h kept)))

-- ## a run

node_below : (number : ℕ) (plan : NodePlan) (until : ℕ) (log : List Entry) (links : List (ℕ × LinkPlan)) → KeepsPromises (site_of number plan links) until log
    → (sums : List RouterSum) → AllByRecursion IsBelowLimit sums → AllByRecursion IsBelowLimit (cons_option (sum_of_log number plan log) sums)
node_below number (Router plan) until log links keeps sums h =
    (router_below plan (charges log) (λ boot. (keeps.grants plan refl log [] (sym (append-nil log)) boot).budget), h)
node_below number (Host plan) until log links keeps sums h = h

module _ (config : Config) (until : ℕ) (logs : Logs)
    (keeps : (node : ℕ) (site : Site) → site_at config node ≡ Some site → KeepsPromises site until (log_at logs node)) where
  below_from : (first : ℕ) (plans : List NodePlan) → ((i : ℕ) (p : NodePlan) → i < length plans → slice_get config.nodes (first + i) ≡ Some (get_or plans i p))
      → AllByRecursion IsBelowLimit (picked (λ number plan. sum_of_log number plan (log_at logs number)) first plans)
  below_from first [] h = tt
  below_from first (p ∷ ps) h =
      let there : slice_get config.nodes first ≡ Some p = subst (λ (k : ℕ). slice_get config.nodes k ≡ Some p) (let e : first + 0 ≡ first = omega arith in e) (h 0 p (omega arith)) in
      let site : site_at config first ≡ Some (site_of first p (links_out first config.links)) =
      ap (option_map (λ plan. site_of first plan (links_out first config.links))) there in
      node_below first p until (log_at logs first) (links_out first config.links) (keeps first (site_of first p (links_out first config.links)) site)
      (picked (λ number plan. sum_of_log number plan (log_at logs number)) (first + 1) ps)
      (below_from (first + 1) ps (λ i q l. subst (λ (k : ℕ). slice_get config.nodes k ≡ Some (get_or ps i q)) (let e : first + suc i ≡ first + 1 + i = omega arith in e) (h (suc i) q (omega (arith, l)))))

  pub sums_below : All IsBelowLimit (run_sums config logs)
  sums_below = All-from_recursion IsBelowLimit (run_sums config logs) (below_from 0 config.nodes (λ i p l. subst (λ (k : ℕ). slice_get config.nodes k ≡ Some (get_or config.nodes i p)) (let e : i ≡ 0 + i = omega arith in e) (slice_get-get_or config.nodes i p l)))
