-- What is put one by one into a list in order joins what stood there and what was put in.
use Rattle.tva_run.proofs.Common.{◌≡◌, ℕ, ◌<◌, ◌≤◌, List, [], ◌∷◌, ◌++◌, true, false, refl, sym, subst, ◌∙◌, ap, arith, inl, inr, ◌⊎◌, nat_lt, ◌==◌, ◌||◌, ◌&&◌, AllByRecursion, le-ltb, eq-eqb, ne_eqb, cases_Bool, cases_eq, cond-true, cond-false, nat_tests, append-nil, MayPrecede, IsInOrder, from_source, cut, precedes, put_in, put_all, NeverFalls}
pub use Rattle.tva_base.proofs.Each.{each-both}
use Rattle.std.proofs.lemmas.List.{append_assoc}
use Rattle.tva_run.proofs.Joins.{filter-true, filter-false, filter-none, each-weaker, may_precede_trans}

pub before_yes : (a b c d : ℕ) → (nat_lt a c || ((a == c) && nat_lt b d)) ≡ true → (a < c) ⊎ ((a ≡ c) × (b < d))
before_yes a b c d h = grind (arith, nat_tests)

before_no : (a b c d : ℕ) → (nat_lt a c || ((a == c) && nat_lt b d)) ≡ false → (c < a) ⊎ ((c ≡ a) × (d ≤ b))
before_no a b c d h = grind (arith, nat_tests)

-- strictly before what is not after
pub strictly_trans : (a b c d e f : ℕ) → (a < c) ⊎ ((a ≡ c) × (b < d)) → (c < e) ⊎ ((c ≡ e) × (d ≤ f)) → (a < e) ⊎ ((a ≡ e) × (b < f))
strictly_trans a b c d e f h k = grind arith

each_left : {X : Type 0} (P : X → Type 0) (x : X) (xs ys : List X) → AllByRecursion P (xs ++ x ∷ ys) → P x
each_left P x [] ys h = h.0
each_left P x (z ∷ xs) ys h = each_left P x xs ys h.1

module _ {X : Type 0} (time source : X → ℕ) where
  pub each-put_in : (P : X → Type 0) (x : X) (ys : List X) → P x → AllByRecursion P ys → AllByRecursion P (put_in time source x ys)
  each-put_in P x [] p h = (p, tt)
  each-put_in P x (y ∷ ys) p h = grind (arith, nat_tests, (each-put_in P x ys p h.1))

  pub each-put_all : (P : X → Type 0) (xs ys : List X) → AllByRecursion P xs → AllByRecursion P ys → AllByRecursion P (put_all time source xs ys)
  each-put_all P [] ys a b = b
  each-put_all P (x ∷ xs) ys a b = each-put_all P xs (put_in time source x ys) a.1 (each-put_in P x ys a.0 b)

  pub in_order-put_in : (x : X) (ys : List X) → IsInOrder time source ys → IsInOrder time source (put_in time source x ys)
  in_order-put_in x [] h = (tt, tt)
  in_order-put_in x (y ∷ ys) h = grind (arith, nat_tests, before_yes, each-weaker, may_precede_trans, each-put_in, before_no, (in_order-put_in x ys h.1))

  pub in_order-put_all : (xs ys : List X) → IsInOrder time source ys → IsInOrder time source (put_all time source xs ys)
  in_order-put_all [] ys h = h
  in_order-put_all (x ∷ xs) ys h = in_order-put_all xs (put_in time source x ys) (in_order-put_in x ys h)

  -- what holds of what comes from a source
  source_each : (P : X → Type 0) (s : ℕ) (xs : List X) → AllByRecursion P (from_source source s xs) → AllByRecursion (λ y. source y ≡ s → P y) xs
  source_each P s [] h = tt
  source_each P s (x ∷ xs) h = grind (arith, nat_tests, filter-true, filter-false, (source_each P s xs))

  -- what holds of what comes from each source holds of all
  pub each_from_sources : (P : X → Type 0) (xs : List X) → ((s : ℕ) → AllByRecursion P (from_source source s xs)) → AllByRecursion P xs
  each_from_sources P [] h = tt
  each_from_sources P (x ∷ xs) h = (
    (rw (filter-true (λ z. source z == source x) x xs (eq-eqb (source x) (source x) refl)) at (h (source x))).0,
    each_from_sources P xs (λ s.
        elim (cases_eq (source x) s) [
          | inl e ↦ (rw (filter-true (λ z. source z == s) x xs (eq-eqb (source x) s e)) at (h s)).1
          | inr e ↦ rw (filter-false (λ z. source z == s) x xs (ne_eqb (source x) s e)) at (h s)
        ]),
  )

  none_here : (x z : X) → (time x < time z) ⊎ ((time x ≡ time z) × (source x < source z)) → (source z ≡ source x → time z ≤ time x) → (source z == source x) ≡ false
  none_here x z b l = ne_eqb (source z) (source x) (λ e. let k = l e in elim b [ inl i ↦ omega arith | inr i ↦ (let j = i.1 in omega arith) ])

  source-put_in_own : (x : X) (ys : List X) → IsInOrder time source ys → AllByRecursion (λ y. source y ≡ source x → time y ≤ time x) ys → from_source source (source x) (put_in time source x ys) ≡ from_source source (source x) ys ++ x ∷ []
  source-put_in_own x [] h l = rw (filter-true (λ z. source z == source x) x [] (eq-eqb (source x) (source x) refl)) refl
  source-put_in_own x (y ∷ ys) h l =
      elim (cases_Bool (precedes time source x y)) [
        | inl a ↦
            let first = before_yes (time x) (source x) (time y) (source y) a in
            let none : AllByRecursion (λ z. (source z == source x) ≡ false) (y ∷ ys) =
            (none_here x y first l.0, each-both (MayPrecede time source y) (λ z. source z ≡ source x → time z ≤ time x) (λ z. (source z == source x) ≡ false) (λ z k i. none_here x z (strictly_trans (time x) (source x) (time y) (source y) (time z) (source z) first k) i) ys h.0 l.1) in
            rw (cond-true _ (x ∷ y ∷ ys) (y ∷ put_in time source x ys) a)
            (rw (filter-true (λ z. source z == source x) x (y ∷ ys) (eq-eqb (source x) (source x) refl), filter-none (λ z. source z == source x) (y ∷ ys) none) refl)
        | inr a ↦
            rw (cond-false _ (x ∷ y ∷ ys) (y ∷ put_in time source x ys) a)
            (elim (cases_Bool (source y == source x)) [
              | inl e ↦ rw (filter-true (λ z. source z == source x) y (put_in time source x ys) e, filter-true (λ z. source z == source x) y ys e) (ap (λ zs. y ∷ zs) (source-put_in_own x ys h.1 l.1))
              | inr e ↦ rw (filter-false (λ z. source z == source x) y (put_in time source x ys) e, filter-false (λ z. source z == source x) y ys e) (source-put_in_own x ys h.1 l.1)
            ])
      ]

  pub source-put_in_other : (s : ℕ) (x : X) (ys : List X) → (source x ≡ s → ⊥) → from_source source s (put_in time source x ys) ≡ from_source source s ys
  source-put_in_other s x [] n = filter-false (λ z. source z == s) x [] (ne_eqb (source x) s n)
  source-put_in_other s x (y ∷ ys) n = grind (arith, nat_tests, filter-false, filter-true, (source-put_in_other s x ys n))

  falls_left : (x : X) (xs ys : List X) → NeverFalls time (xs ++ x ∷ ys) → AllByRecursion (λ y. time y ≤ time x) xs
  falls_left x [] ys h = tt
  falls_left x (z ∷ xs) ys h = (each_left (λ y. time z ≤ time y) x xs ys h.0, falls_left x xs ys h.1)

  -- one more is put_all: each source has what it had, and that one in its place
  source_step : (x : X) (xs ys : List X) → IsInOrder time source ys → NeverFalls time (from_source source (source x) ys ++ from_source source (source x) (x ∷ xs)) → (s : ℕ) → from_source source s (put_in time source x ys) ++ from_source source s xs ≡ from_source source s ys ++ from_source source s (x ∷ xs)
  source_step x xs ys h r s =
      elim (cases_eq (source x) s) [
        | inl e ↦
            let own : from_source source (source x) (x ∷ xs) ≡ x ∷ from_source source (source x) xs = filter-true (λ z. source z == source x) x xs (eq-eqb (source x) (source x) refl) in
            let last = source_each (λ y. time y ≤ time x) (source x) ys (falls_left x (from_source source (source x) ys) (from_source source (source x) xs) (rw own at r)) in
            subst (λ k. from_source source k (put_in time source x ys) ++ from_source source k xs ≡ from_source source k ys ++ from_source source k (x ∷ xs)) e
            (rw (source-put_in_own x ys h last, own) (append_assoc (from_source source (source x) ys) (x ∷ []) (from_source source (source x) xs)))
        | inr e ↦ rw (source-put_in_other s x ys e, filter-false (λ z. source z == s) x xs (ne_eqb (source x) s e)) refl
      ]

  pub source-put_all : (xs ys : List X) → IsInOrder time source ys → ((s : ℕ) → NeverFalls time (from_source source s ys ++ from_source source s xs)) → (s : ℕ) → from_source source s (put_all time source xs ys) ≡ from_source source s ys ++ from_source source s xs
  source-put_all [] ys h r s = sym (append-nil (from_source source s ys))
  source-put_all (x ∷ xs) ys h r s = search (source_step, in_order-put_in, (source-put_all xs (put_in time source x ys) (in_order-put_in x ys h)))

  cut-put_in : (until : ℕ) (x : X) (ys : List X) → until ≤ time x → cut time until (put_in time source x ys) ≡ cut time until ys
  cut-put_in until x [] l = filter-false (λ z. nat_lt (time z) until) x [] (le-ltb (time x) until l)
  cut-put_in until x (y ∷ ys) l = grind (arith, nat_tests, filter-false, filter-true, (cut-put_in until x ys l))

  -- what is put_all past a time changes nothing before it
  pub cut-put_all : (until : ℕ) (xs ys : List X) → AllByRecursion (λ x. until ≤ time x) xs → cut time until (put_all time source xs ys) ≡ cut time until ys
  cut-put_all until [] ys h = refl
  cut-put_all until (x ∷ xs) ys h = cut-put_all until xs (put_in time source x ys) h.1 ∙ cut-put_in until x ys h.0

  pub put_all-append : (xs ys zs : List X) → put_all time source (xs ++ ys) zs ≡ put_all time source ys (put_all time source xs zs)
  put_all-append [] ys zs = refl
  put_all-append (x ∷ xs) ys zs = put_all-append xs ys (put_in time source x zs)
