-- The charges of a router's boots: what an arrival adds, and what a restart leaves.
use Rattle.tva_run.proofs.Common.{◌≡◌, ℕ, ◌+◌, ◌≤◌, ◌<◌, true, false, cond, List, [], ◌∷◌, ◌++◌, sym, subst, ◌∙◌, ap, arith, ◌==◌, nat_le, count_by, AllByRecursion, eq-eqb, ne_eqb, nat_tests, filter-append, Time, RouterPlan, boot_at, has_come, Charge, charges_at, charges_of_boot}
use Rattle.std.proofs.lemmas.List.Sums.{sum_by-cons}
use Rattle.tva_run.proofs.Joins.{each-weaker, filter-all, filter-none}

one_more : (time now later : ℕ) → now ≤ later → cond (nat_le time now) 1 0 ≤ cond (nat_le time later) 1 0
one_more time now later l = grind (arith, nat_tests)

come_later : (now later : ℕ) → now ≤ later → (restarts : List (Time × List ℕ)) → count_by (λ c. has_come now c.0) restarts ≤ count_by (λ c. has_come later c.0) restarts
come_later now later l [] = omega arith
come_later now later l (x ∷ xs) =
    let a = come_later now later l xs in
    let b = one_more x.0.0 now later l in
    let before = sum_by-cons (λ (c : Time × List ℕ). cond (has_come now c.0) 1 0) x xs in
    let behind = sum_by-cons (λ (c : Time × List ℕ). cond (has_come later c.0) 1 0) x xs in
    subst (λ (n : ℕ). n ≤ count_by (λ c. has_come later c.0) (x ∷ xs)) (sym before)
    (subst (λ (n : ℕ). cond (nat_le x.0.0 now) 1 0 + count_by (λ c. has_come now c.0) xs ≤ n) (sym behind) (omega (arith, a, b)))

-- boots rise with time
pub boots_rise : (plan : RouterPlan) (now later : ℕ) → now ≤ later → boot_at plan now ≤ boot_at plan later
boots_rise plan now later l = come_later now later l plan.restarts

-- what is charged at a time is a charge of the boot that the time is in
pub charges_now : (plan : RouterPlan) (now : ℕ) (h more : List Charge) → AllByRecursion (λ c. c.time ≡ now) more → charges_at plan now (h ++ more) ≡ charges_at plan now h ++ more
charges_now plan now h more a =
    filter-append (λ (c : Charge). boot_at plan c.time == boot_at plan now) h more
    ∙ ap (λ (cs : List Charge). charges_at plan now h ++ cs)
    (filter-all (λ (c : Charge). boot_at plan c.time == boot_at plan now) more
    (each-weaker (λ (c : Charge). c.time ≡ now) (λ (c : Charge). (boot_at plan c.time == boot_at plan now) ≡ true) (λ c e. eq-eqb (boot_at plan c.time) (boot_at plan now) (ap (boot_at plan) e)) more a))

-- a boot has no charges of earlier ones
pub charges_none : (plan : RouterPlan) (boot : ℕ) (h : List Charge) → AllByRecursion (λ c. boot_at plan c.time < boot) h → charges_of_boot plan boot h ≡ []
charges_none plan boot h a =
    filter-none (λ (c : Charge). boot_at plan c.time == boot) h
    (each-weaker (λ (c : Charge). boot_at plan c.time < boot) (λ (c : Charge). (boot_at plan c.time == boot) ≡ false) (λ c l. ne_eqb (boot_at plan c.time) boot (λ e. omega (arith, l, e))) h a)
