-- The tree of keys with a key more, and with another number.
use Rattle.tva_index.proofs.Common.{◌≡◌, ℕ, zero, suc, ◌+◌, ◌*◌, ◌^◌, ◌<◌, List, [], ◌∷◌, ◌++◌, length, get_or, set, Option, Some, None, refl, sym, ap, ◌∙◌, subst, inl, inr, ◌⊎◌, arith, cases_lt, cases_eq, get_or_past, get_or_append_left, get_or_push, length-set, length_push, Numbered, numbered, link_at, entry_at, link_by, spot, IsFree, IsKeyTree, IsMissing}
use Rattle.tva_index.proofs.Homes.{here, elsewhere, added}
use Rattle.tva_index.proofs.Paths.{key_is, same_entry, no_entry, no_link, step-on, came}

-- what is read where an entry was written
pub entry_read : (es : List (Option Numbered)) (p q : ℕ) (v n : Numbered) → p < length es → entry_at (set es p (Some v)) q ≡ Some n → ((q ≡ p) × (n ≡ v)) ⊎ ((q ≡ p → ⊥) × (entry_at es q ≡ Some n))
entry_read es p q v n l h = grind (arith, cases_eq, same_entry, here, elsewhere)

-- a place with an entry is one of the places
pub entry_within : (es : List (Option Numbered)) (p : ℕ) (n : Numbered) → entry_at es p ≡ Some n → p < length es
entry_within es p n h = elim (cases_lt p (length es)) [ inl l ↦ l | inr l ↦ (let e = get_or_past es p None l in absurd (no_entry (entry_at es p) n e h)) ]

module _ (links : List (Option ℕ)) (es : List (Option Numbered)) (free : List ℕ) (t : IsKeyTree links es free) where
  -- a walk comes by no free place
  pub not_free : (key depth p : ℕ) → spot links key depth ≡ Some p → IsFree links es p → ⊥
  not_free key depth p e f = grind (arith, t.leads, no_entry, f.entry)

  pub no_way : (p : ℕ) → IsFree links es p → (e : ℕ) → link_at links e ≡ Some p → ⊥
  no_way p f e l = let o = t.leads e p l in no_entry (entry_at es p) o.2 f.entry o.3

-- ## a key more

module _ (links : List (Option ℕ)) (es : List (Option Numbered)) (rest : List ℕ) (f : ℕ) (t : IsKeyTree links es (rest ++ f ∷ [])) (key number link : ℕ) (small : key < 2 ^ 32) (m : IsMissing links es key link) where
  abbrev L : List (Option ℕ)
  L = set links link (Some f)

  abbrev E : List (Option Numbered)
  E = set es f (Some (numbered key number))

  pub last_free : IsFree links es f
  last_free = subst (IsFree links es) (get_or_push rest f 0 (length rest) refl) (t.spare (length rest) (omega (arith, length_push rest f)))

  one_free : (i : ℕ) → i < length rest → IsFree links es (get_or rest i 0)
  one_free i l = subst (IsFree links es) (get_or_append_left rest (f ∷ []) 0 i l) (t.spare i (omega (arith, l, length_push rest f)))

  apart_last : (i : ℕ) → i < length rest → get_or rest i 0 ≡ f → ⊥
  apart_last i l e = grind (arith, t.apart, length_push, get_or_append_left, get_or_push)

  way_grows : (k d p : ℕ) → spot links k d ≡ Some p → spot L k d ≡ Some p
  way_grows k zero p e = e
  way_grows k (suc d) p e = grind (arith, came links k d p e, no_link, m.nowhere, step-on, elsewhere, way_grows k d)

  -- no link of a free place was written
  link_other : (g b : ℕ) → IsFree links es g → b < 2 → 2 * g + b ≡ link → ⊥
  link_other g b h l e = grind (arith, not_free, m.depth, m.path)

  still_free : (g : ℕ) → IsFree links es g → (g ≡ f → ⊥) → IsFree L E g
  still_free g h other = grind (arith, length-set, elsewhere, link_other)

  pub grown : IsKeyTree L E rest
  grown =
      let v : Numbered = numbered key number in
      let n = length-set es f (Some v) in
      let nl = length-set links link (Some f) in
      let w = last_free.within in
      record {
        sizes = let s = t.sizes in omega (arith, n, nl, s);
        some = let s = t.some in omega (arith, n, s);
        few = let s = t.few in omega (arith, n, s);
        first = let b = last_free.behind in elsewhere es f 0 (Some v) (λ e. absurd (omega (arith, e, b))) ∙ t.first;
        leads = λ e p h. elim (added links link e f p m.within h) [
          | inl y ↦ (let b = last_free.behind in (omega (arith, y.1, b), omega (arith, y.1, w, n), v, here es f p (Some v) w y.1))
          | inr y ↦ (
              let o = t.leads e p y.1 in
              (o.0, omega (arith, o.1, n), o.2, elsewhere es f p (Some v) (λ z. no_way links es (rest ++ f ∷ []) t f last_free e (subst (λ x. link_at links e ≡ Some x) z y.1)) ∙ o.3))
        ];
        once = λ e g p h k. elim (added links link e f p m.within h) [
          | inl y ↦ elim (added links link g f p m.within k) [
            | inl x ↦ y.0 ∙ sym x.0
            | inr x ↦ absurd (no_way links es (rest ++ f ∷ []) t f last_free g (subst (λ z. link_at links g ≡ Some z) y.1 x.1))
          ]
          | inr y ↦ elim (added links link g f p m.within k) [
            | inl x ↦ absurd (no_way links es (rest ++ f ∷ []) t f last_free e (subst (λ z. link_at links e ≡ Some z) x.1 y.1))
            | inr x ↦ t.once e g p y.1 x.1
          ]
        ];
        reached = λ p x h. elim (entry_read es f p v x w h) [
          | inl y ↦ (
              let deep = m.deep in
              let on : link_at L (link_by key m.depth m.at) ≡ Some f = here links link (link_by key m.depth m.at) (Some f) m.within (sym m.by) in
              let walk : spot L key (suc m.depth) ≡ Some f = step-on L key m.depth m.at f (way_grows key m.depth m.at m.path) on in
              (suc m.depth, omega (arith, deep), subst (λ z. spot L z.key (suc m.depth) ≡ Some p) (sym y.1) (subst (λ z. spot L key (suc m.depth) ≡ Some z) (sym y.0) walk)))
          | inr y ↦ (let r = t.reached p x y.1 in (r.0, r.1, way_grows x.key r.0 p r.2))
        ];
        alone = λ p q a b h k s. elim (entry_read es f p v a w h) [
          | inl y ↦ elim (entry_read es f q v b w k) [
            | inl x ↦ y.0 ∙ sym x.0
            | inr x ↦ absurd (m.absent q (key_is key (entry_at es q) b x.1 (sym s ∙ ap (λ (z : Numbered). z.key) y.1)))
          ]
          | inr y ↦ elim (entry_read es f q v b w k) [
            | inl x ↦ absurd (m.absent p (key_is key (entry_at es p) a y.1 (s ∙ ap (λ (z : Numbered). z.key) x.1)))
            | inr x ↦ t.alone p q a b y.1 x.1 s
          ]
        ];
        small = λ p x h. elim (entry_read es f p v x w h) [
          | inl y ↦ subst (λ (z : Numbered). z.key < 2 ^ 32) (sym y.1) small
          | inr y ↦ t.small p x y.1
        ];
        spare = λ i l. still_free (get_or rest i 0) (one_free i l) (apart_last i l);
        apart = λ i j l k e. t.apart i j l (omega (arith, k, length_push rest f)) (get_or_append_left rest (f ∷ []) 0 i (omega (arith, l, k)) ∙ (e ∙ sym (get_or_append_left rest (f ∷ []) 0 j k)));
      }

-- ## another number

module _ (links : List (Option ℕ)) (es : List (Option Numbered)) (free : List ℕ) (t : IsKeyTree links es free) (key number p : ℕ) (old : Numbered) (is : entry_at es p ≡ Some old) (same : old.key ≡ key) where
  pub renumbered : IsKeyTree links (set es p (Some (numbered key number))) free
  renumbered =
      let v : Numbered = numbered key number in
      let n = length-set es p (Some v) in
      let w = entry_within es p old is in
      let before : (q : ℕ) (x : Numbered) → entry_at (set es p (Some v)) q ≡ Some x → (y : Numbered) × (entry_at es q ≡ Some y) × (y.key ≡ x.key) =
      λ q x h. elim (entry_read es p q v x w h) [
        | inl y ↦ (old, subst (λ z. entry_at es z ≡ Some old) (sym y.0) is, same ∙ sym (ap (λ (z : Numbered). z.key) y.1))
        | inr y ↦ (x, y.1, refl)
      ] in
      record {
        sizes = let s = t.sizes in omega (arith, n, s);
        some = let s = t.some in omega (arith, n, s);
        few = let s = t.few in omega (arith, n, s);
        first = elsewhere es p 0 (Some v) (λ e. no_entry (entry_at es 0) old t.first (subst (λ z. entry_at es z ≡ Some old) (sym e) is)) ∙ t.first;
        leads = λ e q h.
            let o = t.leads e q h in
            elim (cases_eq q p) [
              | inl z ↦ (o.0, omega (arith, o.1, n), v, here es p q (Some v) w z)
              | inr z ↦ (o.0, omega (arith, o.1, n), o.2, elsewhere es p q (Some v) z ∙ o.3)
            ];
        once = t.once;
        reached = λ q x h. let y = before q x h in let r = t.reached q y.0 y.1 in (r.0, r.1, subst (λ z. spot links z r.0 ≡ Some q) y.2 r.2);
        alone = λ q r a b h k s. let y = before q a h in let x = before r b k in t.alone q r y.0 x.0 y.1 x.1 (y.2 ∙ (s ∙ sym x.2));
        small = λ q x h. let y = before q x h in subst (λ z. z < 2 ^ 32) y.2 (t.small q y.0 y.1);
        spare = λ i l.
            let h = t.spare i l in
            record {
              behind = h.behind;
              within = let x = h.within in omega (arith, x, n);
              entry = elsewhere es p (get_or free i 0) (Some v) (λ e. no_entry (entry_at es (get_or free i 0)) old h.entry (subst (λ z. entry_at es z ≡ Some old) (sym e) is)) ∙ h.entry;
              low = h.low;
              high = h.high;
            };
        apart = t.apart;
      }
