-- What is in force in a boot of a router, and where what came in a boot stands among all that came.
use Rattle.tva_laws.proofs.Common.{◌≡◌, ◌≤◌, ℕ, Bool, true, cond, List, [], ◌∷◌, ◌++◌, length, Option, Some, None, refl, ap, sym, ◌∙◌, arith, ◌==◌, filter, option_map, filter_map, cons_option, cases_lt, le-leb, leb-true, eqb-true, length-filter, cond_some, Flow, Grant, HostPlan, RouterPlan, boot_at, master_at, in_force, router_second, Charge, same_flow, of_flow, filter_swap, each-passes, each-filter, charges_of_boot, Entry, charged, charges, at_place, Deal, Coming, comings, comings_at, since_noticed, shows_nonce, charged_since, IsSteadyPath, LieInBoot, nat_tests}
use Rattle.tva_laws.proofs.RisingLists.{place}
use Rattle.tva_laws.proofs.Asks.{come_is}
use Rattle.tva_laws.proofs.Comings.{paid_of}

-- ## what is in force

-- of two tests of which the one passes no more than the other, both keep the same where both keep equally many
module _ {X : Type 0} (p q : X → Bool) (more : (x : X) → p x ≡ true → q x ≡ true) where
  fewer_by : (x : X) (ps qs : List X) (a b : Bool) → (a ≡ true → b ≡ true) → length ps ≤ length qs
      → length (cond a (x ∷ ps) ps) ≤ length (cond b (x ∷ qs) qs)
  fewer_by x ps qs a b m l = grind (arith, nat_tests)

  fewer : (xs : List X) → length (filter p xs) ≤ length (filter q xs)
  fewer [] = omega arith
  fewer (x ∷ xs) = fewer_by x (filter p xs) (filter q xs) (p x) (q x) (more x) (fewer xs)

  same_by : (x : X) (ps qs : List X) (a b : Bool) → (a ≡ true → b ≡ true) → length ps ≤ length qs
      → (length ps ≡ length qs → ps ≡ qs) → length (cond a (x ∷ ps) ps) ≡ length (cond b (x ∷ qs) qs)
      → cond a (x ∷ ps) ps ≡ cond b (x ∷ qs) qs
  same_by x ps qs a b m l k e = grind (arith, nat_tests)

  filters_same : (xs : List X) → length (filter p xs) ≡ length (filter q xs) → filter p xs ≡ filter q xs
  filters_same [] e = refl
  filters_same (x ∷ xs) e = same_by x (filter p xs) (filter q xs) (p x) (q x) (more x) (fewer xs) (filters_same xs) e

later_master : (plan : RouterPlan) (a b : ℕ) → a ≤ b → boot_at plan a ≡ boot_at plan b → master_at plan a ≡ master_at plan b
later_master plan a b l e = grind (arith, nat_tests, le-leb, leb-true, filters_same, length-filter)

-- in one boot one master is in force
pub one_master : (plan : RouterPlan) (a b : ℕ) → boot_at plan a ≡ boot_at plan b → (in_force plan a).master ≡ (in_force plan b).master
unfolding in_force
one_master plan a b e = grind (arith, nat_tests, cases_lt, later_master)

-- ## what came in a boot

picked_here : {X : Type 0} (x : X) (xs ys : List X) (b : Bool) → xs ≡ ys → cond b (x ∷ xs) xs ≡ cons_option (cond b (Some x) None) ys
picked_here x xs ys b e = grind (arith, nat_tests)

picked_is : {X : Type 0} (p : X → Bool) (xs : List X) → filter p xs ≡ filter_map (λ x. cond (p x) (Some x) None) xs
picked_is p [] = refl
picked_is p (x ∷ xs) = picked_here x (filter p xs) (filter_map (λ y. cond (p y) (Some y) None) xs) (p x) (picked_is p xs)

-- where one that passes stands among all
pub record PassesAt {X : Type 0} (p : X → Bool) (xs front : List X) (x : X) : Type 0 where
  pub before : List X
  pub after : List X
  pub is : xs ≡ before ++ x ∷ after
  pub passes : p x ≡ true
  pub front_is : filter p before ≡ front

pub passing_place : {X : Type 0} (p : X → Bool) (xs front : List X) (x : X) (back : List X) → filter p xs ≡ front ++ x ∷ back
    → PassesAt p xs front x
passing_place {X = X} p xs front x back e =
    let pick : X → Option X = λ y. cond (p y) (Some y) None in
    let at = place pick xs front x back (sym (picked_is p xs) ∙ e) in
    grind (arith, nat_tests, cond_some, picked_is)

charged_then : (p : ℕ → Bool) (x : Coming) (cs : List Charge) (xs : List Coming) (o : Option Grant)
    → filter (λ (c : Charge). p c.time) cs ≡ filter_map paid_of xs
    → filter (λ (c : Charge). p c.time) (cons_option (option_map (charged x.time x.packet) o) cs)
    ≡ cond (p x.time) (cons_option (option_map (charged x.time x.packet) o) (filter_map paid_of xs)) (filter_map paid_of xs)
charged_then p x cs xs o e = grind (arith, nat_tests, paid_of)

-- charges of some times are those of what came at these times
pub charged_when : (p : ℕ → Bool) (seen : List Coming)
    → filter (λ (c : Charge). p c.time) (filter_map paid_of seen) ≡ filter_map paid_of (filter (λ (x : Coming). p x.time) seen)
charged_when p [] = refl
charged_when p (x ∷ xs) = grind (arith, nat_tests, charged_then, paid_of, charged_when p xs)

-- what is charged to a flow in a boot is what came in it
pub boot_charges : (plan : RouterPlan) (f : Flow) (boot : ℕ) (log : List Entry) → of_flow f (charges log) ≡ filter_map paid_of (comings f log)
    → of_flow f (charges_of_boot plan boot (charges log))
    ≡ filter_map paid_of (filter (λ (x : Coming). boot_at plan x.time == boot) (comings f log))
boot_charges plan f boot log e =
    let p : Charge → Bool = λ c. boot_at plan c.time == boot in
    filter_swap (λ (c : Charge). same_flow c.grant.flow f) p (charges log)
    ∙ (ap (filter p) e ∙ charged_when (λ (t : ℕ). boot_at plan t == boot) (comings f log))

-- what counts for the life of a nonce alone lies in its boot
pub in_boot : (host : HostPlan) (router : RouterPlan) (delay : ℕ) (own : List Deal) (seen : List Coming) (charged : List Charge)
    (x : Coming) (steady : IsSteadyPath host router delay own seen charged x) → shows_nonce x.packet.carried ≡ true
    → LieInBoot router (charged_since (router_second router.clock_offset steady.ask.time) (comings_at router x.time seen)) x.time
    (since_noticed steady.last.in_time.before)
in_boot host router delay own seen charged x steady alone before sent packet after place shown = grind (arith, nat_tests, at_place, place, come_is, each-filter, each-passes, eqb-true)
