-- Lemmas on lists that join several sources.
use Rattle.tva_run.proofs.Common.{nat_tests, ◌≡◌, ℕ, ◌<◌, ◌≤◌, List, [], ◌∷◌, ◌++◌, filter, Bool, true, false, refl, sym, ◌∙◌, ap, ap₂, arith, inl, inr, ◌⊎◌, nat_lt, ◌==◌, AllByRecursion, lt-ltb, ltb-true, le-ltb, eq-eqb, ne_eqb, cases_eq, MayPrecede, IsInOrder, from_source, cut}
pub use Rattle.tva_base.proofs.Each.{each-filter, each-right, each-map}

-- ## any list

pub filter-true : {X : Type 0} (p : X → Bool) (x : X) (xs : List X) → p x ≡ true → filter p (x ∷ xs) ≡ x ∷ filter p xs
filter-true p x xs h = rw h refl

pub filter-false : {X : Type 0} (p : X → Bool) (x : X) (xs : List X) → p x ≡ false → filter p (x ∷ xs) ≡ filter p xs
filter-false p x xs h = rw h refl

pub filter_swap : {X : Type 0} (p q : X → Bool) (xs : List X) → filter p (filter q xs) ≡ filter q (filter p xs)
filter_swap p q [] = refl
filter_swap p q (x ∷ xs) = grind (arith, nat_tests, filter-true, filter-false, (filter_swap p q xs))

pub each-append : {X : Type 0} (P : X → Type 0) (xs ys : List X) → AllByRecursion P xs → AllByRecursion P ys → AllByRecursion P (xs ++ ys)
each-append P [] ys a b = b
each-append P (x ∷ xs) ys a b = (a.0, each-append P xs ys a.1 b)

pub each-weaker : {X : Type 0} (P Q : X → Type 0) → ((x : X) → P x → Q x) → (xs : List X) → AllByRecursion P xs → AllByRecursion Q xs
each-weaker P Q w [] h = tt
each-weaker P Q w (x ∷ xs) h = (w x h.0, each-weaker P Q w xs h.1)

-- what passes the test
pub each-passes : {X : Type 0} (p : X → Bool) (xs : List X) → AllByRecursion (λ x. p x ≡ true) (filter p xs)
each-passes p [] = tt
each-passes p (x ∷ xs) = grind (arith, nat_tests, filter-true, filter-false, (each-passes p xs))

-- where each passes, all are kept
pub filter-all : {X : Type 0} (p : X → Bool) (xs : List X) → AllByRecursion (λ x. p x ≡ true) xs → filter p xs ≡ xs
filter-all p [] h = refl
filter-all p (x ∷ xs) h = rw (filter-true p x xs h.0) (ap (λ ys. x ∷ ys) (filter-all p xs h.1))

-- where none passes, none is kept
pub filter-none : {X : Type 0} (p : X → Bool) (xs : List X) → AllByRecursion (λ x. p x ≡ false) xs → filter p xs ≡ []
filter-none p [] h = refl
filter-none p (x ∷ xs) h = rw (filter-false p x xs h.0) (filter-none p xs h.1)

-- ## the order

pub may_precede_trans : (a b c d e f : ℕ) → (a < c) ⊎ ((a ≡ c) × (b ≤ d)) → (c < e) ⊎ ((c ≡ e) × (d ≤ f)) → (a < e) ⊎ ((a ≡ e) × (b ≤ f))
may_precede_trans a b c d e f h k = grind arith

module _ {X : Type 0} (time source : X → ℕ) where
  pub in_order-filter : (p : X → Bool) (xs : List X) → IsInOrder time source xs → IsInOrder time source (filter p xs)
  in_order-filter p [] h = tt
  in_order-filter p (x ∷ xs) h = grind (arith, nat_tests, filter-true, each-filter, filter-false, (in_order-filter p xs h.1))

  -- one list after another that is later
  pub in_order-append : (t : ℕ) (xs ys : List X) → IsInOrder time source xs → IsInOrder time source ys → AllByRecursion (λ x. time x < t) xs → AllByRecursion (λ y. t ≤ time y) ys → IsInOrder time source (xs ++ ys)
  in_order-append t [] ys a b early late = b
  in_order-append t (x ∷ xs) ys a b early late = grind (arith, nat_tests, each-append, each-weaker, (in_order-append t xs ys a.1 b early.1 late))

  own_first : (x : X) (xs : List X) → from_source source (source x) (x ∷ xs) ≡ x ∷ from_source source (source x) xs
  own_first x xs = filter-true (λ y. source y == source x) x xs (eq-eqb (source x) (source x) refl)

  other_first : (s : ℕ) (x : X) (xs : List X) → (source x ≡ s → ⊥) → from_source source s (x ∷ xs) ≡ from_source source s xs
  other_first s x xs h = filter-false (λ y. source y == s) x xs (ne_eqb (source x) s h)

  -- what one source gives, where the first of the others of that source is x, has x no earlier than the first
  head_after : (y x : X) (ys rest : List X) → AllByRecursion (MayPrecede time source y) ys → from_source source (source x) ys ≡ x ∷ rest → MayPrecede time source y x
  head_after y x ys rest h e = grind (arith, nat_tests, each-filter)

  both_ways : (a b c d : ℕ) → (a < c) ⊎ ((a ≡ c) × (b ≤ d)) → (c < a) ⊎ ((c ≡ a) × (d ≤ b)) → b ≡ d
  both_ways a b c d h k = grind arith

  cons_same : (x y : X) (xs ys : List X) → x ∷ xs ≡ y ∷ ys → (x ≡ y) × (xs ≡ ys)
  cons_same x y xs ys e = (cc, cc)

  -- two lists that join the same sources are the same
  pub join_unique : (xs ys : List X) → IsInOrder time source xs → IsInOrder time source ys → ((s : ℕ) → from_source source s xs ≡ from_source source s ys) → xs ≡ ys
  join_unique [] [] a b e = refl
  join_unique [] (y ∷ ys) a b e = let k = e (source y) ∙ own_first y ys in absurd cc
  join_unique (x ∷ xs) [] a b e = let k = sym (own_first x xs) ∙ e (source x) in absurd cc
  join_unique (x ∷ xs) (y ∷ ys) a b e =
      elim (cases_eq (source x) (source y)) [
        | inl same ↦
            let k = sym (own_first x xs) ∙ (e (source x) ∙ (ap (λ s. from_source source s (y ∷ ys)) same ∙ own_first y ys)) in
            let first = cons_same x y _ _ k in
            ap₂ ◌∷◌ first.0 (join_unique xs ys a.1 b.1 (λ s.
            elim (cases_eq (source x) s) [
              | inl h ↦
                  let own : from_source source s (x ∷ xs) ≡ x ∷ from_source source s xs = filter-true (λ z. source z == s) x xs (eq-eqb (source x) s h) in
                  let own' : from_source source s (y ∷ ys) ≡ y ∷ from_source source s ys = filter-true (λ z. source z == s) y ys (eq-eqb (source y) s (sym same ∙ h)) in
                  (cons_same x y _ _ (sym own ∙ (e s ∙ own'))).1
              | inr h ↦ sym (other_first s x xs h) ∙ (e s ∙ other_first s y ys (λ i. h (same ∙ i)))
            ]))
        | inr different ↦
            let k = sym (other_first (source x) y ys (λ i. different (sym i))) ∙ (sym (e (source x)) ∙ own_first x xs) in
            let l = sym (other_first (source y) x xs different) ∙ (e (source y) ∙ own_first y ys) in
            absurd (different (both_ways (time x) (source x) (time y) (source y) (head_after x y xs _ a.0 l) (head_after y x ys _ b.0 k)))
      ]

  -- ## what comes before a time

  pub cut-late : (until : ℕ) (xs : List X) → AllByRecursion (λ x. until ≤ time x) xs → cut time until xs ≡ []
  cut-late until xs h = filter-none (λ x. nat_lt (time x) until) xs (each-weaker (λ x. until ≤ time x) (λ x. nat_lt (time x) until ≡ false) (λ x l. le-ltb (time x) until l) xs h)

  pub cut-early : (until : ℕ) (xs : List X) → AllByRecursion (λ x. time x < until) xs → cut time until xs ≡ xs
  cut-early until xs h = filter-all (λ x. nat_lt (time x) until) xs (each-weaker (λ x. time x < until) (λ x. nat_lt (time x) until ≡ true) (λ x l. lt-ltb (time x) until l) xs h)

  pub each-cut : (until : ℕ) (xs : List X) → AllByRecursion (λ x. time x < until) (cut time until xs)
  each-cut until xs = each-weaker (λ x. nat_lt (time x) until ≡ true) (λ x. time x < until) (λ x l. ltb-true (time x) until l) (cut time until xs) (each-passes (λ x. nat_lt (time x) until) xs)

  pub each_at_least : (xs : List X) → AllByRecursion (λ x. 0 ≤ time x) xs
  each_at_least [] = tt
  each_at_least (x ∷ xs) = (omega arith, each_at_least xs)

  pub cut-zero : (xs : List X) → cut time 0 xs ≡ []
  cut-zero xs = cut-late 0 xs (each_at_least xs)

  -- a later cut changes nothing
  pub cut-cut : (t until : ℕ) (xs : List X) → t ≤ until → cut time t (cut time until xs) ≡ cut time t xs
  cut-cut t until xs l = grind (arith, nat_tests, filter_swap, cut-early, each-weaker, each-cut)

  -- in order, no later one comes before the first
  pub times_from : (x : X) (xs : List X) → IsInOrder time source (x ∷ xs) → AllByRecursion (λ y. time x ≤ time y) (x ∷ xs)
  times_from x xs h = (omega arith, each-weaker (MayPrecede time source x) (λ y. time x ≤ time y) (λ y k. elim k [ inl k ↦ omega arith | inr k ↦ (let i = k.0 in omega arith) ]) xs h.0)

  pub each_later : (t : ℕ) (x : X) (xs : List X) → IsInOrder time source (x ∷ xs) → t ≤ time x → AllByRecursion (λ y. t ≤ time y) (x ∷ xs)
  each_later t x xs h l = each-weaker (λ y. time x ≤ time y) (λ y. t ≤ time y) (λ y k. omega arith) (x ∷ xs) (times_from x xs h)
