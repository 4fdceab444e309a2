-- The order that a stable sort by time leaves.
use Rattle.tva_node.proofs.Common.{nat_tests, ◌≡◌, ℕ, zero, suc, ◌≤◌, ◌<◌, Bool, List, [], ◌∷◌, map, sym, ◌∙◌, ap, arith, inl, inr, ◌⊎◌, ◌==◌, ◌&&◌, not, AllByRecursion, is_lt, nat_cmp, IsNonDecreasingBy, IsStableByKey, ties, cases_lt, filter_agree, recursion_from_All, IsInOrder, MayPrecede, NeverFalls, from_source, each-weaker}
use Rattle.tva_base.specs.Plan.{AreRising}

pub falls_from : {X : Type 0} (time : X → ℕ) (xs : List X) → IsNonDecreasingBy time xs → NeverFalls time xs
falls_from time [] h = tt
falls_from time (x ∷ xs) h = (
  recursion_from_All (λ y. time x ≤ time y) xs (λ k d l. h zero (suc k) d (omega arith) (omega arith)),
  falls_from time xs (λ i j d l m. h (suc i) (suc j) d (omega arith) (omega arith)),
)

pub tie_is : (a b : ℕ) → (not (is_lt (nat_cmp a b)) && not (is_lt (nat_cmp b a))) ≡ (b == a)
tie_is a b = grind (arith, nat_tests)

-- a stable sort leaves what has one time in its order; there is something at each time
pub ties_from : {X : Type 0} (time : X → ℕ) (some : ℕ → X) → ((t : ℕ) → time (some t) ≡ t) → (told ordered : List X) → IsStableByKey time nat_cmp told ordered → (t : ℕ) → from_source time t ordered ≡ from_source time t told
ties_from {X = X} time some at_it told ordered h t =
    let tied : X → Bool = ties (λ (x y : X). is_lt (nat_cmp (time x) (time y))) (some t) in
    let agree : (y : X) → (time y == t) ≡ tied y = λ y. sym (tie_is (time (some t)) (time y) ∙ ap (λ (k : ℕ). time y == k) (at_it t)) in
    cc (filter_agree (λ y. time y == t) tied agree ordered, h (some t), filter_agree (λ y. time y == t) tied agree told)

-- ## lists by time

pub no_later : (a b : ℕ) → a ≤ b → (a < b) ⊎ ((a ≡ b) × (a ≤ b))
no_later a b l = elim (cases_lt a b) [ inl k ↦ inl k | inr k ↦ inr (omega arith, l) ]

pub order_of : {X : Type 0} (time : X → ℕ) (xs : List X) → NeverFalls time xs → IsInOrder time time xs
order_of time [] h = tt
order_of time (x ∷ xs) h = (each-weaker (λ y. time x ≤ time y) (MayPrecede time time x) (λ y l. no_later (time x) (time y) l) xs h.0, order_of time xs h.1)

each_unmap : {X : Type 0} (f : X → ℕ) (P : ℕ → Type 0) (xs : List X) → AllByRecursion P (map f xs) → AllByRecursion (λ x. P (f x)) xs
each_unmap f P [] h = tt
each_unmap f P (x ∷ xs) h = (h.0, each_unmap f P xs h.1)

pub rising_falls : {X : Type 0} (time : X → ℕ) (xs : List X) → AreRising (map time xs) → NeverFalls time xs
rising_falls time [] h = tt
rising_falls time (x ∷ xs) h = (
  each-weaker (λ y. time x < time y) (λ y. time x ≤ time y) (λ y l. omega arith) xs (each_unmap time (λ m. time x < m) xs (recursion_from_All (λ m. time x < m) (map time xs) h.0)),
  rising_falls time xs h.1,
)
