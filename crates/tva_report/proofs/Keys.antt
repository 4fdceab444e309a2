-- Lemmas on keys that a test tells apart: the first of each, and sums by them.
use Rattle.tva_report.proofs.Common.{◌≡◌, ℕ, ◌+◌, Bool, true, false, not, ◌||◌, List, [], ◌∷◌, ◌++◌, filter, cond, refl, ◌∙◌, ap, inl, inr, add-zero, zero-add, append-nil, list_any, cases_Bool, filter-append, firsts, with_sums, add_to}

-- a test that tells equal keys
pub record Tells {K : Type 0} (same : K → K → Bool) : Type 0 where
  pub self : (k : K) → same k k ≡ true
  pub same_is : (a b : K) → same a b ≡ true → a ≡ b

module _ {K : Type 0} (same : K → K → Bool) (tells : Tells same) where
  turned : (a b : K) → same a b ≡ false → same b a ≡ false
  turned a b n =
      elim (cases_Bool (same b a)) [
        | inl e ↦ let p = tells.same_is b a e in let s = tells.self a in let z = rw p at n in absurd cc
        | inr e ↦ e
      ]

  keep : (p : K → Bool) (x : K) (xs : List K) → p x ≡ true → filter p (x ∷ xs) ≡ x ∷ filter p xs
  keep p x xs h = rw h refl

  leave : (p : K → Bool) (x : K) (xs : List K) → p x ≡ false → filter p (x ∷ xs) ≡ filter p xs
  leave p x xs h = rw h refl

  -- what is left out isn't the key
  any-filter : (k x : K) (xs : List K) → same x k ≡ false → list_any (λ y. same y k) (filter (λ z. not (same x z)) xs) ≡ list_any (λ y. same y k) xs
  any-filter k x [] n = refl
  any-filter k x (y ∷ ys) n =
      elim (cases_Bool (same x y)) [
        | inl e ↦
            let p = tells.same_is x y e in
            let m : same y k ≡ false = rw (← p) n in
            rw (leave (λ z. not (same x z)) y ys (rw e refl), m) (any-filter k x ys n)
        | inr e ↦
            rw (keep (λ z. not (same x z)) y ys (rw e refl)) (ap (λ b. same y k || b) (any-filter k x ys n))
      ]

  any-firsts : (k : K) (ks : List K) → list_any (λ y. same y k) (firsts same ks) ≡ list_any (λ y. same y k) ks
  any-firsts k [] = refl
  any-firsts k (x ∷ xs) =
      elim (cases_Bool (same x k)) [
        | inl e ↦ rw e refl
        | inr e ↦ rw e (any-filter k x (firsts same xs) e ∙ any-firsts k xs)
      ]

  -- ## one more key

  firsts-new : (k : K) (ks : List K) → list_any (λ y. same y k) ks ≡ false → firsts same (ks ++ k ∷ []) ≡ firsts same ks ++ k ∷ []
  firsts-new k [] h = refl
  firsts-new k (x ∷ xs) h =
      elim (cases_Bool (same x k)) [
        | inl e ↦ let z = rw e at h in absurd cc
        | inr e ↦
            let rest : list_any (λ y. same y k) xs ≡ false = rw e at h in
            rw (firsts-new k xs rest, filter-append, e) refl
      ]

  firsts-old : (k : K) (ks : List K) → list_any (λ y. same y k) ks ≡ true → firsts same (ks ++ k ∷ []) ≡ firsts same ks
  firsts-old k [] h = absurd cc
  firsts-old k (x ∷ xs) h =
      elim (cases_Bool (list_any (λ y. same y k) xs)) [
        | inl e ↦ rw (firsts-old k xs e) refl
        | inr e ↦
            elim (cases_Bool (same x k)) [
              | inl a ↦ rw (firsts-new k xs e, filter-append, a, append-nil) refl
              | inr a ↦ let z = rw (a, e) at h in absurd cc
            ]
      ]

  -- ## keys that stand once

  abbrev pub AreApart : List K → Type 0
  AreApart [] = Unit {0}
  AreApart (x ∷ xs) = (list_any (λ y. same y x) xs ≡ false) × AreApart xs

  none-filter : (p : K → Bool) (k : K) (xs : List K) → list_any (λ y. same y k) xs ≡ false → list_any (λ y. same y k) (filter p xs) ≡ false
  none-filter p k [] h = refl
  none-filter p k (x ∷ xs) h =
      elim (cases_Bool (same x k)) [
        | inl e ↦ let z = rw e at h in absurd cc
        | inr e ↦
            let rest : list_any (λ y. same y k) xs ≡ false = rw e at h in
            elim (cases_Bool (p x)) [
              | inl a ↦ rw (keep p x xs a, e) (none-filter p k xs rest)
              | inr a ↦ rw (leave p x xs a) (none-filter p k xs rest)
            ]
      ]

  apart-filter : (p : K → Bool) (xs : List K) → AreApart xs → AreApart (filter p xs)
  apart-filter p [] h = tt
  apart-filter p (x ∷ xs) h =
      elim (cases_Bool (p x)) [
        | inl a ↦ rw (keep p x xs a) (none-filter p x xs h.0, apart-filter p xs h.1)
        | inr a ↦ rw (leave p x xs a) (apart-filter p xs h.1)
      ]

  none-left : (x : K) (xs : List K) → list_any (λ y. same y x) (filter (λ z. not (same x z)) xs) ≡ false
  none-left x [] = refl
  none-left x (y ∷ ys) =
      elim (cases_Bool (same x y)) [
        | inl e ↦ rw (leave (λ z. not (same x z)) y ys (rw e refl)) (none-left x ys)
        | inr e ↦ rw (keep (λ z. not (same x z)) y ys (rw e refl), turned x y e) (none-left x ys)
      ]

  firsts-apart : (ks : List K) → AreApart (firsts same ks)
  firsts-apart [] = tt
  firsts-apart (x ∷ xs) = (none-left x (firsts same xs), apart-filter (λ z. not (same x z)) (firsts same xs) (firsts-apart xs))

  -- ## sums by keys

  module _ (k : K) (n : ℕ) (f g : K → ℕ) (more : (q : K) → g q ≡ f q + cond (same q k) n 0) where
    as_before : (q : K) → same q k ≡ false → g q ≡ f q
    as_before q h = more q ∙ rw (h, add-zero) refl

    unchanged : (xs : List K) → list_any (λ y. same y k) xs ≡ false → with_sums g xs ≡ with_sums f xs
    unchanged [] h = refl
    unchanged (x ∷ xs) h =
        elim (cases_Bool (same x k)) [
          | inl e ↦ let z = rw e at h in absurd cc
          | inr e ↦ rw (as_before x e, unchanged xs (rw e at h)) refl
        ]

    add-new : (xs : List K) → list_any (λ y. same y k) xs ≡ false → f k ≡ 0 → with_sums g (xs ++ k ∷ []) ≡ add_to same k n (with_sums f xs)
    add-new [] h z = rw (more k, tells.self k, z, zero-add) refl
    add-new (x ∷ xs) h z =
        elim (cases_Bool (same x k)) [
          | inl e ↦ let y = rw e at h in absurd cc
          | inr e ↦ rw (as_before x e, e, add-new xs (rw e at h) z) refl
        ]

    add-old : (xs : List K) → list_any (λ y. same y k) xs ≡ true → AreApart xs → with_sums g xs ≡ add_to same k n (with_sums f xs)
    add-old [] h a = absurd cc
    add-old (x ∷ xs) h a =
        elim (cases_Bool (same x k)) [
          | inl e ↦
              let p = tells.same_is x k e in
              let rest : list_any (λ y. same y k) xs ≡ false = rw p at a.0 in
              rw (more x, e, unchanged xs rest) refl
          | inr e ↦ rw (as_before x e, e, add-old xs (rw e at h) a.1) refl
        ]

    pub sums_push : (ks : List K) → (list_any (λ y. same y k) ks ≡ false → f k ≡ 0) → with_sums g (firsts same (ks ++ k ∷ [])) ≡ add_to same k n (with_sums f (firsts same ks))
    sums_push ks new =
        elim (cases_Bool (list_any (λ y. same y k) ks)) [
          | inl h ↦ rw (firsts-old k ks h) (add-old (firsts same ks) (any-firsts k ks ∙ h) (firsts-apart ks))
          | inr h ↦ rw (firsts-new k ks h) (add-new (firsts same ks) (any-firsts k ks ∙ h) (new h))
        ]
