-- A stable order by time of what several sources give one after another is their join.
use Rattle.tva_net.proofs.Common.{◌≡◌, ℕ, ◌<◌, ◌≤◌, Bool, List, [], ◌∷◌, filter, refl, sym, subst, ◌∙◌, ap, arith, inl, inr, ◌⊎◌, ◌==◌, AllByRecursion, cases_Bool, cases_eq, cases_lt, eq-eqb, ne_eqb, IsInOrder, IsJoin, MayPrecede, NeverFalls, from_source, each-weaker, filter-false, filter-true, filter_swap, join_unique, each-both}
use Rattle.tva_net.proofs.Lists.{never_falls-filter}
use Rattle.tva_node.proofs.Sorting.{no_later}

may_by : (a b c d : ℕ) → a ≤ b → (b ≡ a → c ≤ d) → (a < b) ⊎ ((a ≡ b) × (c ≤ d))
may_by a b c d l k = elim (cases_lt a b) [ inl m ↦ inl m | inr m ↦ let e : b ≡ a = omega arith in inr (sym e, k e) ]

module _ {X : Type 0} (time source : X → ℕ) where
  by_time : (xs : List X) → NeverFalls time xs → IsInOrder time time xs
  by_time [] h = tt
  by_time (x ∷ xs) h = (each-weaker (λ y. time x ≤ time y) (MayPrecede time time x) (λ y k. no_later (time x) (time y) k) xs h.0, by_time xs h.1)

  -- lists by time that agree at each time are the same
  same_by_ties : (xs ys : List X) → NeverFalls time xs → NeverFalls time ys → ((t : ℕ) → from_source time t xs ≡ from_source time t ys) → xs ≡ ys
  same_by_ties xs ys h k e = join_unique time time xs ys (by_time xs h) (by_time ys k) e

module _ {X : Type 0} (time : X → ℕ) where
  falls_tail : (p : X → Bool) (x : X) (xs : List X) → NeverFalls time (filter p (x ∷ xs)) → NeverFalls time (filter p xs)
  falls_tail p x xs h =
      elim (cases_Bool (p x)) [
        | inl a ↦ (rw (filter-true p x xs a) at h).1
        | inr a ↦ rw (filter-false p x xs a) at h
      ]

module _ {X : Type 0} (time source : X → ℕ) where
  -- what holds of what comes at a time
  ties_each : (P : X → Type 0) (t : ℕ) (xs : List X) → AllByRecursion P (from_source time t xs) → AllByRecursion (λ y. time y ≡ t → P y) xs
  ties_each P t [] h = tt
  ties_each P t (x ∷ xs) h =
      elim (cases_eq (time x) t) [
        | inl e ↦ let k : AllByRecursion P (x ∷ from_source time t xs) = rw (filter-true (λ z. time z == t) x xs (eq-eqb (time x) t e)) at h in ((λ _. k.0), ties_each P t xs k.1)
        | inr e ↦ let k : AllByRecursion P (from_source time t xs) = rw (filter-false (λ z. time z == t) x xs (ne_eqb (time x) t e)) at h in ((λ i. absurd (e i)), ties_each P t xs k)
      ]

  first_ties : (x : X) (xs : List X) → NeverFalls source (from_source time (time x) (x ∷ xs)) → AllByRecursion (λ y. time y ≡ time x → source x ≤ source y) xs
  first_ties x xs h =
      let k : NeverFalls source (x ∷ from_source time (time x) xs) = rw (filter-true (λ z. time z == time x) x xs (eq-eqb (time x) (time x) refl)) at h in
      ties_each (λ y. source x ≤ source y) (time x) xs k.0

  order_by_ties : (xs : List X) → NeverFalls time xs → ((t : ℕ) → NeverFalls source (from_source time t xs)) → IsInOrder time source xs
  order_by_ties [] h k = tt
  order_by_ties (x ∷ xs) h k = (
    each-both (λ y. time x ≤ time y) (λ y. time y ≡ time x → source x ≤ source y) (MayPrecede time source x)
        (λ y a b. may_by (time x) (time y) (source x) (source y) a b) xs h.0 (first_ties x xs (k (time x))),
    order_by_ties xs h.1 (λ t. falls_tail source (λ y. time y == t) x xs (k t)),
  )

  each_source : (told ordered : List X) → NeverFalls time ordered → ((t : ℕ) → from_source time t ordered ≡ from_source time t told) → ((s : ℕ) → NeverFalls time (from_source source s told)) → (s : ℕ) → from_source source s ordered ≡ from_source source s told
  each_source told ordered h ties f s =
      same_by_ties time source (from_source source s ordered) (from_source source s told)
      (never_falls-filter time (λ x. source x == s) ordered h) (f s)
      (λ t. filter_swap (λ x. time x == t) (λ x. source x == s) ordered
      ∙ (ap (filter (λ x. source x == s)) (ties t) ∙ filter_swap (λ x. source x == s) (λ x. time x == t) told))

  pub stable_joins : (told ordered : List X) → NeverFalls time ordered → ((t : ℕ) → from_source time t ordered ≡ from_source time t told) → NeverFalls source told → ((s : ℕ) → NeverFalls time (from_source source s told)) → IsJoin time source (λ s. from_source source s told) ordered
  stable_joins told ordered h ties rises f = record {
    in_order = order_by_ties ordered h (λ t. subst (NeverFalls source) (sym (ties t)) (never_falls-filter source (λ x. time x == t) told rises));
    each = each_source told ordered h ties f;
  }
