-- The tree of keys without one of them.
use Rattle.tva_index.proofs.Common.{◌≡◌, ℕ, zero, suc, ◌+◌, ◌*◌, ◌%◌, ◌^◌, ◌<◌, List, [], ◌∷◌, ◌++◌, length, get_or, set, Option, Some, None, refl, sym, ap, ◌∙◌, subst, inl, inr, ◌⊎◌, arith, cases_lt, cases_eq, get_or_append_left, get_or_push, get_or_past, length-set, length_push, Numbered, Led, link_at, entry_at, bits_past, link_by, spot, IsFree, IsKeyTree, IsLeafBelow, IsWithout}
use Rattle.tva_index.proofs.Homes.{here, elsewhere, removed}
use Rattle.tva_index.proofs.Paths.{has_key, same_entry, no_entry, no_link, same_place, step-on, came}
use Rattle.tva_index.proofs.Grown.{entry_within}

module _ (links : List (Option ℕ)) (es : List (Option Numbered)) (free : List ℕ) (t : IsKeyTree links es free) (key x : ℕ) (leaf : Led) (b : IsLeafBelow links es x leaf) (old : Numbered) (is : entry_at es x ≡ Some old) (same : old.key ≡ key) where
  abbrev y : ℕ
  y = leaf.at

  abbrev m : Numbered
  m = b.below.key

  abbrev L : List (Option ℕ)
  L = set links leaf.link None

  abbrev E : List (Option Numbered)
  E = set (set es x (Some m)) y None

  x_within : x < length es
  x_within = entry_within es x old is

  pub y_within : y < length es
  y_within = (t.leads leaf.link y b.below.link).1

  link_length : leaf.link < length links
  link_length = grind (arith, cases_lt, no_link, get_or_past)

  -- what stands where
  size : length E ≡ length es
  size = length-set (set es x (Some m)) y None ∙ length-set es x (Some m)

  at_leaf : (p : ℕ) → p ≡ y → entry_at E p ≡ None
  at_leaf p e = here (set es x (Some m)) y p None (let w = y_within in omega (arith, w, length-set es x (Some m))) e

  at_place : (p : ℕ) → p ≡ x → (p ≡ y → ⊥) → entry_at E p ≡ Some m
  at_place p e o = elsewhere (set es x (Some m)) y p None o ∙ here es x p (Some m) x_within e

  at_other : (p : ℕ) → (p ≡ x → ⊥) → (p ≡ y → ⊥) → entry_at E p ≡ entry_at es p
  at_other p n o = elsewhere (set es x (Some m)) y p None o ∙ elsewhere es x p (Some m) n

  entry_cut : (p : ℕ) (n : Numbered) → entry_at E p ≡ Some n → (p ≡ y → ⊥) × (((p ≡ x) × (n ≡ m)) ⊎ ((p ≡ x → ⊥) × (entry_at es p ≡ Some n)))
  entry_cut p n h = grind (arith, cases_eq, no_entry, at_leaf, same_entry, at_place, at_other)

  -- where links lead
  link_cut : (e p : ℕ) → link_at L e ≡ Some p → (p ≡ y → ⊥) × (link_at links e ≡ Some p)
  link_cut e p h = grind (arith, removed, link_length, t.once)

  link_none : (e : ℕ) → link_at links e ≡ None → link_at L e ≡ None
  link_none e h = grind (arith, cases_eq, here, elsewhere, link_length)

  leaf_off : (c : ℕ) → c < 2 → link_at links (2 * y + c) ≡ None
  leaf_off c l = grind (arith, cases_eq)

  way_cut : (k d p : ℕ) → spot links k d ≡ Some p → (p ≡ y → ⊥) → spot L k d ≡ Some p
  way_cut k zero p e o = e
  way_cut k (suc d) p e o =
      let c = came links k d p e in
      let inner : c.0 ≡ y → ⊥ = λ z. no_link (link_at links (2 * y + bits_past k d % 2)) p (leaf_off (bits_past k d % 2) (omega arith)) (subst (λ w. link_at links (2 * w + bits_past k d % 2) ≡ Some p) z c.2) in
      let other : link_by k d c.0 ≡ leaf.link → ⊥ = λ z. o (same_place (link_at links leaf.link) p y (subst (λ w. link_at links w ≡ Some p) z c.2) b.below.link) in
      step-on L k d c.0 p (way_cut k d c.0 c.1 inner) (elsewhere links leaf.link (link_by k d c.0) None other ∙ c.2)

  -- a place that was free, and the one that is free now
  free_other : (g : ℕ) → IsFree links es g → (g ≡ x → ⊥) × (g ≡ y → ⊥)
  free_other g h = grind (arith, no_entry, h.entry)

  still_free : (g : ℕ) → IsFree links es g → IsFree L E g
  still_free g h = grind (arith, size, free_other, at_other, link_none)

  now_free : IsFree L E y
  now_free = grind (arith, size, t.leads, y_within, at_leaf, link_none, b.low, b.high)

  free_at : (i : ℕ) → i < length (free ++ y ∷ []) → ((i < length free) × (get_or (free ++ y ∷ []) i 0 ≡ get_or free i 0)) ⊎ ((i ≡ length free) × (get_or (free ++ y ∷ []) i 0 ≡ y))
  free_at i l = grind (arith, cases_lt, get_or_append_left, length_push, get_or_push)

  pub pruned : IsKeyTree L E (free ++ y ∷ [])
  pruned = record {
    sizes = let s = t.sizes in omega (arith, s, size, length-set links leaf.link None);
    some = let s = t.some in omega (arith, s, size);
    few = let s = t.few in omega (arith, s, size);
    first = at_other 0 (λ e. no_entry (entry_at es 0) old t.first (subst (λ z. entry_at es z ≡ Some old) (sym e) is)) (λ e. no_entry (entry_at es 0) m t.first (subst (λ z. entry_at es z ≡ Some m) (sym e) b.below.entry)) ∙ t.first;
    leads = λ e p h.
        let r = link_cut e p h in
        let o = t.leads e p r.1 in
        elim (cases_eq p x) [
          | inl z ↦ (o.0, omega (arith, o.1, size), m, at_place p z r.0)
          | inr z ↦ (o.0, omega (arith, o.1, size), o.2, at_other p z r.0 ∙ o.3)
        ];
    once = λ e f p h k. t.once e f p (link_cut e p h).1 (link_cut f p k).1;
    reached = λ p n h.
        let r = entry_cut p n h in
        elim r.1 [
          | inl z ↦ (
              let long = b.below.long in
              let deep = b.below.deep in
              let by : spot links m.key b.below.passed ≡ Some p = subst (λ w. spot links m.key b.below.passed ≡ Some w) (sym z.0) b.below.by in
              (b.below.passed, omega (arith, long, deep), subst (λ (w : Numbered). spot L w.key b.below.passed ≡ Some p) (sym z.1) (way_cut m.key b.below.passed p by r.0)))
          | inr z ↦ (let s = t.reached p n z.1 in (s.0, s.1, way_cut n.key s.0 p s.2 r.0))
        ];
    alone = λ p q n k h g s.
        let r = entry_cut p n h in
        let u = entry_cut q k g in
        elim r.1 [
          | inl z ↦ elim u.1 [
            | inl w ↦ z.0 ∙ sym w.0
            | inr w ↦ absurd (u.0 (t.alone q y k m w.1 b.below.entry (sym s ∙ ap (λ (v : Numbered). v.key) z.1)))
          ]
          | inr z ↦ elim u.1 [
            | inl w ↦ absurd (r.0 (t.alone p y n m z.1 b.below.entry (s ∙ ap (λ (v : Numbered). v.key) w.1)))
            | inr w ↦ t.alone p q n k z.1 w.1 s
          ]
        ];
    small = λ p n h. elim (entry_cut p n h).1 [
      | inl z ↦ subst (λ (w : Numbered). w.key < 2 ^ 32) (sym z.1) (t.small y m b.below.entry)
      | inr z ↦ t.small p n z.1
    ];
    spare = λ i l. elim (free_at i l) [
      | inl z ↦ subst (IsFree L E) (sym z.1) (still_free (get_or free i 0) (t.spare i z.0))
      | inr z ↦ subst (IsFree L E) (sym z.1) now_free
    ];
    apart = λ i j l k e.
        let front : i < length free = omega (arith, l, k, length_push free y) in
        let a = get_or_append_left free (y ∷ []) 0 i front in
        elim (free_at j k) [
          | inl z ↦ t.apart i j l z.0 (sym a ∙ (e ∙ z.1))
          | inr z ↦ (free_other (get_or free i 0) (t.spare i front)).1 (sym a ∙ (e ∙ z.1))
        ];
  }

  pub without : IsWithout key es E
  without = record {
    gone = λ p h.
        let n = has_key key (entry_at E p) h in
        let r = entry_cut p n.0 n.1 in
        elim r.1 [
          | inl z ↦ (
              let k : m.key ≡ old.key = sym (ap (λ (w : Numbered). w.key) z.1) ∙ (n.2 ∙ sym same) in
              r.0 (z.0 ∙ sym (t.alone y x m old b.below.entry is k)))
          | inr z ↦ z.0 (t.alone p x n.0 old z.1 is (n.2 ∙ sym same))
        ];
    kept = λ p n h apart.
        let far : p ≡ x → ⊥ = λ e. apart (ap (λ (w : Numbered). w.key) (same_entry (entry_at es p) n old h (subst (λ z. entry_at es z ≡ Some old) (sym e) is)) ∙ same) in
        elim (cases_eq p y) [
          | inl e ↦ (x, at_place x refl (λ z. far (e ∙ sym z)) ∙ ap (λ (w : Numbered). Some w) (same_entry (entry_at es p) m n (subst (λ z. entry_at es z ≡ Some m) (sym e) b.below.entry) h))
          | inr o ↦ (p, at_other p far o ∙ h)
        ];
    was = λ q n h. elim (entry_cut q n h).1 [
      | inl z ↦ (y, b.below.entry ∙ ap (λ (w : Numbered). Some w) (sym z.1))
      | inr z ↦ (q, z.1)
    ];
  }
