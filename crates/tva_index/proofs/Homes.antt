-- The last place of a bucket, once one place is written.
use Rattle.tva_index.proofs.Common.{◌≡◌, ℕ, ◌<◌, ◌≤◌, List, length, get_or, set, Option, Some, None, refl, sym, ap, ◌∙◌, subst, inl, inr, ◌⊎◌, arith, cases_lt, cases_eq, cases_order, get_or_past, get_or-set_same, get_or-set_other, IsLastBelow}

-- a place in a bucket is one of the places
pub in_range : (hs : List (Option ℕ)) (q b : ℕ) → get_or hs q None ≡ Some b → q < length hs
in_range hs q b h = elim (cases_lt q (length hs)) [ inl l ↦ l | inr l ↦ (let e = get_or_past hs q None l in absurd (cc)) ]

-- one bucket for each place
pub one_home : (hs : List (Option ℕ)) (q b c : ℕ) → get_or hs q None ≡ Some b → get_or hs q None ≡ Some c → c ≡ b
one_home hs q b c h k = cc

pub at_some : (hs : List (Option ℕ)) (n b : ℕ) (o : Option ℕ) (m : ℕ) → IsLastBelow hs n b o → o ≡ Some m → (m < n) × (get_or hs m None ≡ Some b) × ((q : ℕ) → q < n → get_or hs q None ≡ Some b → q ≤ m)
at_some hs n b o m k e = subst (IsLastBelow hs n b) e k

-- a place that was written, and the others
pub here : {X : Type 0} (hs : List (Option X)) (p q : ℕ) (v : Option X) → p < length hs → q ≡ p → get_or (set hs p v) q None ≡ v
here hs p q v l e = subst (λ z. get_or (set hs p v) z None ≡ v) (sym e) (get_or-set_same hs p v None l)

pub elsewhere : {X : Type 0} (hs : List (Option X)) (p q : ℕ) (v : Option X) → (q ≡ p → ⊥) → get_or (set hs p v) q None ≡ get_or hs q None
elsewhere hs p q v n = get_or-set_other hs p q v None n

-- what is in a bucket after a place was taken out was in it before
pub removed : (hs : List (Option ℕ)) (p q c : ℕ) → p < length hs → get_or (set hs p None) q None ≡ Some c → (q ≡ p → ⊥) × (get_or hs q None ≡ Some c)
removed hs p q c l h = elim (cases_eq q p) [ inl e ↦ (let k = here hs p q None l e in absurd (cc)) | inr n ↦ (n, sym (elsewhere hs p q None n) ∙ h) ]

-- the last place stays where another place is taken out
pub last-out : (hs : List (Option ℕ)) (p n c : ℕ) (o : Option ℕ) → p < length hs → IsLastBelow hs n c o → (o ≡ Some p → ⊥) → IsLastBelow (set hs p None) n c o
last-out hs p n c None l k d = λ q m h. k q m (removed hs p q c l h).1
last-out hs p n c (Some m) l k d = (k.0, elsewhere hs p m None (λ e. d (ap (λ (x : ℕ). Some x) e)) ∙ k.1, λ q w h. k.2 q w (removed hs p q c l h).1)

-- where a place with none between it and the bound is taken out, the last is the one before it
pub last_before : (hs : List (Option ℕ)) (p n b : ℕ) (o : Option ℕ) → p < length hs → p < n → IsLastBelow hs p b o → ((q : ℕ) → p < q → q < n → get_or hs q None ≡ Some b → ⊥) → IsLastBelow (set hs p None) n b o
last_before hs p n b None l w k g = λ q m h. let r = removed hs p q b l h in elim (cases_order q p) [ inl e ↦ r.0 e | inr t ↦ elim t [ inl x ↦ k q x r.1 | inr x ↦ g q x m r.1 ] ]
last_before hs p n b (Some m) l w k g = (
  omega (arith, k.0, w),
  elsewhere hs p m None (λ e. absurd (omega (arith, k.0, e))) ∙ k.1,
  λ q t h. let r = removed hs p q b l h in elim (cases_order q p) [ inl e ↦ absurd (r.0 e) | inr y ↦ elim y [ inl x ↦ k.2 q x r.1 | inr x ↦ absurd (g q x t r.1) ] ],
)

-- what is in a bucket after a place was put into one is that place, or was in it before
pub added : (hs : List (Option ℕ)) (p q b c : ℕ) → p < length hs → get_or (set hs p (Some b)) q None ≡ Some c → ((q ≡ p) × (c ≡ b)) ⊎ ((q ≡ p → ⊥) × (get_or hs q None ≡ Some c))
added hs p q b c l h = elim (cases_eq q p) [ inl e ↦ (let k = here hs p q (Some b) l e in inl (e, cc)) | inr n ↦ inr (n, sym (elsewhere hs p q (Some b) n) ∙ h) ]

-- a place that is in no bucket is not the last of one
pub not_free : (hs : List (Option ℕ)) (p m c : ℕ) → get_or hs p None ≡ None → get_or hs m None ≡ Some c → m ≡ p → ⊥
not_free hs p m c f h e = let k : get_or hs m None ≡ None = subst (λ z. get_or hs z None ≡ None) (sym e) f in absurd (cc)

-- the last place stays where a place is put into another bucket
pub last-other : (hs : List (Option ℕ)) (p n b c : ℕ) (o : Option ℕ) → p < length hs → get_or hs p None ≡ None → (c ≡ b → ⊥) → IsLastBelow hs n c o → IsLastBelow (set hs p (Some b)) n c o
last-other hs p n b c None l f d k = λ q m h. elim (added hs p q b c l h) [ inl y ↦ d y.1 | inr y ↦ k q m y.1 ]
last-other hs p n b c (Some m) l f d k = (
  k.0,
  elsewhere hs p m (Some b) (not_free hs p m c f k.1) ∙ k.1,
  λ q w h. elim (added hs p q b c l h) [ inl y ↦ absurd (d y.1) | inr y ↦ k.2 q w y.1 ],
)

-- so it does where that place is not below the bound
pub last_below : (hs : List (Option ℕ)) (p n b : ℕ) (o : Option ℕ) → p < length hs → get_or hs p None ≡ None → n ≤ p → IsLastBelow hs n b o → IsLastBelow (set hs p (Some b)) n b o
last_below hs p n b None l f w k = λ q m h. elim (added hs p q b b l h) [ inl y ↦ absurd (omega (arith, w, m, y.0)) | inr y ↦ k q m y.1 ]
last_below hs p n b (Some m) l f w k = (
  k.0,
  elsewhere hs p m (Some b) (not_free hs p m b f k.1) ∙ k.1,
  λ q t h. elim (added hs p q b b l h) [ inl y ↦ absurd (omega (arith, w, t, y.0)) | inr y ↦ k.2 q t y.1 ],
)

-- and where a later place of the bucket is below the bound
pub last_above : (hs : List (Option ℕ)) (p n b a : ℕ) (o : Option ℕ) → p < length hs → get_or hs p None ≡ None → p < a → a < n → get_or hs a None ≡ Some b → IsLastBelow hs n b o → IsLastBelow (set hs p (Some b)) n b o
last_above hs p n b a None l f v w x k = absurd (k a w x)
last_above hs p n b a (Some m) l f v w x k = (
  k.0,
  elsewhere hs p m (Some b) (not_free hs p m b f k.1) ∙ k.1,
  λ q t h. let z = k.2 a w x in elim (added hs p q b b l h) [ inl y ↦ omega (arith, z, v, y.0) | inr y ↦ k.2 q t y.1 ],
)

-- the place that was put in is the last where none of the bucket stands between it and the bound
pub last_is : (hs : List (Option ℕ)) (p n b : ℕ) → p < length hs → p < n → ((q : ℕ) → p < q → q < n → get_or hs q None ≡ Some b → ⊥) → IsLastBelow (set hs p (Some b)) n b (Some p)
last_is hs p n b l w g = (
  w,
  here hs p p (Some b) l refl,
  λ q t h. elim (added hs p q b b l h) [ inl y ↦ omega (arith, y.0) | inr y ↦ elim (cases_lt p q) [ inl x ↦ absurd (g q x t y.1) | inr x ↦ x ] ],
)

-- the last below a bound is the last before a place that has none of the bucket between
pub last_moves : (hs : List (Option ℕ)) (p n b : ℕ) (o : Option ℕ) → get_or hs p None ≡ None → p < n → IsLastBelow hs n b o → ((q : ℕ) → p < q → q < n → get_or hs q None ≡ Some b → ⊥) → IsLastBelow hs p b o
last_moves hs p n b o f w k g = grind (arith, not_free, cases_order)
