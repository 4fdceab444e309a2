-- The places of keys in a ring, by their numbers.
use Rattle.tva_index.proofs.Common.{◌≡◌, ℕ, zero, suc, ◌+◌, ◌-◌, ◌%◌, ◌^◌, ◌<◌, List, [], ◌∷◌, ◌++◌, length, get_or, Option, Some, None, refl, sym, ap, ◌∙◌, subst, inl, inr, arith, option_map, cases_lt, cases_eq, eq-eqb, ne_eqb, get_or_append_left, get_or_push, length_push, Numbered, numbered, entry_at, HasKey, IsAbsent, IsKeyTree, IsPut, IsWritten, IsWithout, place_in, AreNumbered}
use Rattle.tva_index.proofs.Paths.{has_key, key_is, same_entry, no_entry}
use Rattle.tva_index.proofs.Grown.{entry_read}
use Rattle.tva_index.proofs.Homes.{here, elsewhere}

-- ## the place of a key in a list

pub place_found : (key : ℕ) (keys : List ℕ) (i : ℕ) → i < length keys → get_or keys i 0 ≡ key → ((j : ℕ) → j < i → get_or keys j 0 ≡ key → ⊥) → place_in key keys ≡ Some i
place_found key [] i l e n = absurd (omega (arith, l))
place_found key (k ∷ ks) zero l e n = rw (eq-eqb k key e) refl
place_found key (k ∷ ks) (suc i) l e n =
    rw (ne_eqb k key (n 0 (omega arith))) (ap (option_map (λ (m : ℕ). suc m)) (place_found key ks i (omega (arith, l)) e (λ j w. n (suc j) (omega (arith, w)))))

pub place_none : (key : ℕ) (keys : List ℕ) → ((i : ℕ) → i < length keys → get_or keys i 0 ≡ key → ⊥) → place_in key keys ≡ None
place_none key [] n = refl
place_none key (k ∷ ks) n =
    rw (ne_eqb k key (n 0 (omega arith))) (ap (option_map (λ (m : ℕ). suc m)) (place_none key ks (λ i l. n (suc i) (omega (arith, l)))))

none_next : (o : Option ℕ) → option_map (λ (n : ℕ). suc n) o ≡ None → o ≡ None
none_next o e = grind arith

some_none : (n : ℕ) → (Some n ≡ None) → ⊥
some_none n e = absurd (cc)

pub not_there : (key : ℕ) (keys : List ℕ) → place_in key keys ≡ None → (i : ℕ) → i < length keys → get_or keys i 0 ≡ key → ⊥
not_there key [] h i l e = absurd (omega (arith, l))
not_there key (k ∷ ks) h zero l e = some_none 0 (rw (eq-eqb k key e) at h)
not_there key (k ∷ ks) h (suc i) l e = grind (arith, cases_eq, some_none, eq-eqb, not_there key ks, none_next, ne_eqb)

same_number : (o : Option Numbered) (k n j m : ℕ) → o ≡ Some (numbered k n) → o ≡ Some (numbered j m) → n ≡ m
same_number o k n j m e f = ap (λ (z : Numbered). z.number) (same_entry o (numbered k n) (numbered j m) e f)

-- ## the numbers

module _ (places first : ℕ) (keys : List ℕ) (links : List (Option ℕ)) (es : List (Option Numbered)) (free : List ℕ) (a : AreNumbered places first keys links es free) where
  -- different keys
  pub differ : (i j : ℕ) → i < j → j < length keys → get_or keys i 0 ≡ get_or keys j 0 → ⊥
  differ i j l k e =
      let x = a.each i (omega (arith, l, k)) in
      let y = a.each j k in
      let p : x.0 ≡ y.0 = a.tree.alone x.0 y.0 (numbered (get_or keys i 0) ((first + i) % 2 ^ 32)) (numbered (get_or keys j 0) ((first + j) % 2 ^ 32)) x.1 y.1 e in
      let s = same_number (entry_at es y.0) (get_or keys i 0) ((first + i) % 2 ^ 32) (get_or keys j 0) ((first + j) % 2 ^ 32) (subst (λ z. entry_at es z ≡ Some (numbered (get_or keys i 0) ((first + i) % 2 ^ 32))) p x.1) y.1 in
      let few = a.few in
      let count = a.count in
      let start = a.start in
      absurd (omega (arith, s, l, k, few, count, start))

  pub numbered_place : (key number p : ℕ) → entry_at es p ≡ Some (numbered key number) → Some ((number + (2 ^ 32 - first)) % 2 ^ 32) ≡ place_in key keys
  numbered_place key number p h = grind (arith, a.only, place_found, differ)

  pub absent_place : (key : ℕ) → IsAbsent es key → None ≡ place_in key keys
  absent_place key n = sym (place_none key keys (λ i l e. let x = a.each i l in n x.0 (key_is key (entry_at es x.0) (numbered (get_or keys i 0) ((first + i) % 2 ^ 32)) x.1 e)))

  pub new_absent : (key : ℕ) → place_in key keys ≡ None → IsAbsent es key
  new_absent key none p h = grind (arith, a.only, not_there)

  -- a key goes last
  pub numbered_push : (key : ℕ) (links' : List (Option ℕ)) (es' : List (Option Numbered)) (free' : List ℕ) → length keys < places → IsKeyTree links' es' free' → IsPut key ((first + length keys) % 2 ^ 32) es es' → length free' + 1 ≡ length free
      → AreNumbered places first (keys ++ key ∷ []) links' es' free'
  numbered_push key links' es' free' room t w n =
      let v : Numbered = numbered key ((first + length keys) % 2 ^ 32) in
      let m = length_push keys key in
      record {
        few = a.few;
        start = a.start;
        tree = t;
        count = let count = a.count in omega (arith, count, n, m);
        each = λ i l. elim (cases_lt i (length keys)) [
          | inl k ↦ (
              let x = a.each i k in
              let far : x.0 ≡ w.at → ⊥ = λ e. no_entry (entry_at es x.0) (numbered (get_or keys i 0) ((first + i) % 2 ^ 32)) (subst (λ z. entry_at es z ≡ None) (sym e) w.free) x.1 in (
                x.0,
                subst (λ (z : List (Option Numbered)). entry_at z x.0 ≡ Some (numbered (get_or (keys ++ key ∷ []) i 0) ((first + i) % 2 ^ 32))) (sym w.is)
                    (elsewhere es w.at x.0 (Some v) far ∙ (x.1 ∙ ap (λ (z : ℕ). Some (numbered z ((first + i) % 2 ^ 32))) (sym (get_or_append_left keys (key ∷ []) 0 i k)))),
              ))
          | inr k ↦ (
              let e : length keys ≡ i = omega (arith, k, l, m) in (
                w.at,
                subst (λ (z : List (Option Numbered)). entry_at z w.at ≡ Some (numbered (get_or (keys ++ key ∷ []) i 0) ((first + i) % 2 ^ 32))) (sym w.is)
                    (here es w.at w.at (Some v) w.within refl
                    ∙ (ap (λ (z : ℕ). Some (numbered z ((first + length keys) % 2 ^ 32))) (sym (get_or_push keys key 0 i e)) ∙ ap (λ (z : ℕ). Some (numbered (get_or (keys ++ key ∷ []) i 0) ((first + z) % 2 ^ 32))) e)),
              ))
        ];
        only = λ p x h. elim (entry_read es w.at p v x w.within (subst (λ (z : List (Option Numbered)). entry_at z p ≡ Some x) w.is h)) [
          | inl y ↦ (length keys, omega (arith, m), get_or_push keys key 0 (length keys) refl ∙ sym (ap (λ (z : Numbered). z.key) y.1), ap (λ (z : Numbered). z.number) y.1)
          | inr y ↦ (let o = a.only p x y.1 in (o.0, (let l = o.1 in omega (arith, l, m)), get_or_append_left keys (key ∷ []) 0 o.0 o.1 ∙ o.2, o.3))
        ];
      }

-- the front leaves, or goes last
module _ (places first key : ℕ) (ks : List ℕ) (links : List (Option ℕ)) (es : List (Option Numbered)) (free : List ℕ) (a : AreNumbered places first (key ∷ ks) links es free) where
  -- it is there
  pub front_there : (p : ℕ) × HasKey key (entry_at es p)
  front_there = let x = a.each 0 (omega arith) in (x.0, key_is key (entry_at es x.0) (numbered key ((first + 0) % 2 ^ 32)) x.1 refl)

  next_number : (i : ℕ) → (first + suc i) % 2 ^ 32 ≡ ((first + 1) % 2 ^ 32 + i) % 2 ^ 32
  next_number i = omega arith

  later_key : (i : ℕ) → i < length ks → get_or ks i 0 ≡ key → ⊥
  later_key i l e = differ places first (key ∷ ks) links es free a 0 (suc i) (omega arith) (omega (arith, l)) (sym e)

  pub numbered_leave : (links' : List (Option ℕ)) (es' : List (Option Numbered)) (free' : List ℕ) → IsKeyTree links' es' free' → IsWithout key es es' → length free' ≡ length free + 1
      → AreNumbered places ((first + 1) % 2 ^ 32) ks links' es' free'
  numbered_leave links' es' free' t w n = record {
    few = a.few;
    start = omega arith;
    tree = t;
    count = let count = a.count in omega (arith, count, n);
    each = λ i l.
        let x = a.each (suc i) (omega (arith, l)) in
        let k = w.kept x.0 (numbered (get_or ks i 0) ((first + suc i) % 2 ^ 32)) x.1 (later_key i l) in
        (k.0, k.1 ∙ ap (λ (z : ℕ). Some (numbered (get_or ks i 0) z)) (next_number i));
    only = λ p x h.
        let k = w.was p x h in
        let o = a.only k.0 x k.1 in
        behind p x h o.0 o.1 o.2 o.3;
  }
    where
      behind : (p : ℕ) (x : Numbered) → entry_at es' p ≡ Some x → (i : ℕ) → i < length (key ∷ ks) → get_or (key ∷ ks) i 0 ≡ x.key → x.number ≡ (first + i) % 2 ^ 32
          → (j : ℕ) × (j < length ks) × (get_or ks j 0 ≡ x.key) × (x.number ≡ ((first + 1) % 2 ^ 32 + j) % 2 ^ 32)
      behind p x h zero l e f = absurd (w.gone p (key_is key (entry_at es' p) x h (sym e)))
      behind p x h (suc j) l e f = (j, omega (arith, l), e, f ∙ next_number j)

  pub numbered_turn : (links' : List (Option ℕ)) (es' : List (Option Numbered)) (free' : List ℕ) → IsKeyTree links' es' free' → IsWritten key (((first + 1) % 2 ^ 32 + length ks) % 2 ^ 32) es es' → free' ≡ free
      → AreNumbered places ((first + 1) % 2 ^ 32) (ks ++ key ∷ []) links' es' free'
  numbered_turn links' es' free' t w same =
      let v : Numbered = numbered key (((first + 1) % 2 ^ 32 + length ks) % 2 ^ 32) in
      let m = length_push ks key in
      let old = has_key key (entry_at es w.at) w.entry in
      record {
        few = a.few;
        start = omega arith;
        tree = t;
        count = let count = a.count in omega (arith, count, m, ap (λ (z : List ℕ). length z) same);
        each = λ i l. elim (cases_lt i (length ks)) [
          | inl k ↦ (
              let x = a.each (suc i) (omega (arith, k)) in
              let far : x.0 ≡ w.at → ⊥ = λ e. later_key i k (ap (λ (z : Numbered). z.key) (same_entry (entry_at es x.0) (numbered (get_or ks i 0) ((first + suc i) % 2 ^ 32)) old.0 x.1 (subst (λ z. entry_at es z ≡ Some old.0) (sym e) old.1)) ∙ old.2) in (
                x.0,
                subst (λ (z : List (Option Numbered)). entry_at z x.0 ≡ Some (numbered (get_or (ks ++ key ∷ []) i 0) (((first + 1) % 2 ^ 32 + i) % 2 ^ 32))) (sym w.is)
                    (elsewhere es w.at x.0 (Some v) far
                    ∙ (x.1 ∙ (ap (λ (z : ℕ). Some (numbered z ((first + suc i) % 2 ^ 32))) (sym (get_or_append_left ks (key ∷ []) 0 i k)) ∙ ap (λ (z : ℕ). Some (numbered (get_or (ks ++ key ∷ []) i 0) z)) (next_number i)))),
              ))
          | inr k ↦ (
              let e : length ks ≡ i = omega (arith, k, l, m) in (
                w.at,
                subst (λ (z : List (Option Numbered)). entry_at z w.at ≡ Some (numbered (get_or (ks ++ key ∷ []) i 0) (((first + 1) % 2 ^ 32 + i) % 2 ^ 32))) (sym w.is)
                    (here es w.at w.at (Some v) w.within refl
                    ∙ (ap (λ (z : ℕ). Some (numbered z (((first + 1) % 2 ^ 32 + length ks) % 2 ^ 32))) (sym (get_or_push ks key 0 i e)) ∙ ap (λ (z : ℕ). Some (numbered (get_or (ks ++ key ∷ []) i 0) (((first + 1) % 2 ^ 32 + z) % 2 ^ 32))) e)),
              ))
        ];
        only = λ p x h. elim (entry_read es w.at p v x w.within (subst (λ (z : List (Option Numbered)). entry_at z p ≡ Some x) w.is h)) [
          | inl y ↦ (length ks, omega (arith, m), get_or_push ks key 0 (length ks) refl ∙ sym (ap (λ (z : Numbered). z.key) y.1), ap (λ (z : Numbered). z.number) y.1)
          | inr y ↦ (let o = a.only p x y.1 in behind p x y.0 y.1 o.0 o.1 o.2 o.3)
        ];
      }
    where
      behind : (p : ℕ) (x : Numbered) → (p ≡ w.at → ⊥) → entry_at es p ≡ Some x → (i : ℕ) → i < length (key ∷ ks) → get_or (key ∷ ks) i 0 ≡ x.key → x.number ≡ (first + i) % 2 ^ 32
          → (j : ℕ) × (j < length (ks ++ key ∷ [])) × (get_or (ks ++ key ∷ []) j 0 ≡ x.key) × (x.number ≡ ((first + 1) % 2 ^ 32 + j) % 2 ^ 32)
      behind p x far h zero l e f = let old = has_key key (entry_at es w.at) w.entry in absurd (far (a.tree.alone p w.at x old.0 h old.1 (sym e ∙ sym old.2)))
      behind p x far h (suc j) l e f = (j, omega (arith, l, length_push ks key), get_or_append_left ks (key ∷ []) 0 j (omega (arith, l)) ∙ e, f ∙ next_number j)
