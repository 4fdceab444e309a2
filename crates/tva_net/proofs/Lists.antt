-- Lists, by what stands at each place, and what a list in order has from a time on.
use Rattle.tva_net.proofs.Common.{◌≡◌, ℕ, zero, suc, ◌+◌, ◌≤◌, List, [], ◌∷◌, ◌++◌, drop, map, filter, Bool, refl, sym, ◌∙◌, ap, arith, inl, inr, ◌==◌, nat_lt, Contains, AllByRecursion, AllZip, lt-ltb, eq-eqb, cases_Bool, cases_lt, IsInOrder, NeverFalls, cut, from_source, filter-true, filter-false, cut-late, each-filter, each_later, contains_cases, contains_first, contains_more}

-- ## by places

pub zip_more : {X : Type 0} (R : X → X → Type 0) → ((x y z : X) → R x y → R y z → R x z) → (xs ys zs : List X) → AllZip R xs ys → AllZip R ys zs → AllZip R xs zs
zip_more R t [] [] zs a b = b
zip_more R t [] (y ∷ ys) zs a b = absurd a
zip_more R t (x ∷ xs) [] zs a b = absurd a
zip_more R t (x ∷ xs) (y ∷ ys) [] a b = absurd b
zip_more R t (x ∷ xs) (y ∷ ys) (z ∷ zs) a b = (t x y z a.0 b.0, zip_more R t xs ys zs a.1 b.1)

pub zip_weaker : {X Y : Type 0} (R S : X → Y → Type 0) → ((x : X) (y : Y) → R x y → S x y) → (xs : List X) (ys : List Y) → AllZip R xs ys → AllZip S xs ys
zip_weaker R S w [] [] h = tt
zip_weaker R S w [] (y ∷ ys) h = absurd h
zip_weaker R S w (x ∷ xs) [] h = absurd h
zip_weaker R S w (x ∷ xs) (y ∷ ys) h = (w x y h.0, zip_weaker R S w xs ys h.1)

-- ## filters

pub drop_none : {X : Type 0} (p : X → Bool) (n : ℕ) (xs : List X) → filter p xs ≡ [] → filter p (drop n xs) ≡ []
drop_none p zero xs h = h
drop_none p (suc n) [] h = refl
drop_none p (suc n) (x ∷ xs) h =
    elim (cases_Bool (p x)) [
      | inl a ↦ let no = sym (filter-true p x xs a) ∙ h in absurd (cc)
      | inr a ↦ drop_none p n xs (sym (filter-false p x xs a) ∙ h)
    ]

pub never_falls-filter : {X : Type 0} (time : X → ℕ) (p : X → Bool) (xs : List X) → NeverFalls time xs → NeverFalls time (filter p xs)
never_falls-filter time p [] h = tt
never_falls-filter time p (x ∷ xs) h =
    elim (cases_Bool (p x)) [
      | inl a ↦ rw (filter-true p x xs a) (each-filter (λ y. time x ≤ time y) p xs h.0, never_falls-filter time p xs h.1)
      | inr a ↦ rw (filter-false p x xs a) (never_falls-filter time p xs h.1)
    ]

-- ## a list in order

-- it goes on from what it has before a time with what it has from then on
pub split_at : {X : Type 0} (time source : X → ℕ) (t : ℕ) (xs : List X) → IsInOrder time source xs → (rest : List X) × (xs ≡ cut time t xs ++ rest) × AllByRecursion (λ x. t ≤ time x) rest
split_at time source t [] o = ([], refl, tt)
split_at time source t (x ∷ xs) o =
    elim (cases_lt (time x) t) [
      | inl l ↦
          let (rest, e, late) = split_at time source t xs o.1 in
          (rest, rw (filter-true (λ y. nat_lt (time y) t) x xs (lt-ltb (time x) t l)) (ap (λ ys. x ∷ ys) e), late)
      | inr l ↦
          let late = each_later time source t x xs o l in
          (x ∷ xs, rw (cut-late time source t (x ∷ xs) late) refl, late)
    ]

-- what comes at a time comes then from some source
pub contains_from : {X : Type 0} (time source : X → ℕ) (t : ℕ) (xs : List X) → Contains (map time xs) t → (s : ℕ) × Contains (map time (from_source source s xs)) t
contains_from time source t [] (i, l, e) = absurd (omega (arith, l))
contains_from time source t (x ∷ xs) h =
    elim (contains_cases (time x) t (map time xs) h) [
      | inl e ↦ (
        source x,
        rw (filter-true (λ y. source y == source x) x xs (eq-eqb (source x) (source x) refl)) (contains_first (time x) t (map time (from_source source (source x) xs)) e),
      )
      | inr m ↦
          let (s, c) = contains_from time source t xs m in
          (s, more s c)
    ]
  where
    more : (s : ℕ) → Contains (map time (from_source source s xs)) t → Contains (map time (from_source source s (x ∷ xs))) t
    more s c = elim (cases_Bool (source x == s)) [
      | inl a ↦ rw (filter-true (λ y. source y == s) x xs a) (contains_more (time x) t (map time (from_source source s xs)) c)
      | inr a ↦ rw (filter-false (λ y. source y == s) x xs a) c
    ]
