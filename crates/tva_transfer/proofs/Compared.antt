-- Look-ups by a comparison of keys find what look-ups by a test find. A key is an address with a number.
use Rattle.tva_transfer.proofs.Common.{◌≡◌, ℕ, ◌||◌, ◌&&◌, Bool, true, false, cond, eqb, ltb, ◌≤◌, List, Some, Ordering, refl, ap, sym, ◌∙◌, arith, list_any, lookup, unwrap_or, is_eq, is_gt, nat_cmp, ordering_then, eq-eqb, le-ltb, ltb-false, or_parts, nat_tests, Address, next_kept, has_key}
use Rattle.std.specs.declared.cmp.Ordering.TheVariants.{Less, Equal, Greater}
use Rattle.tva_base.proofs.Each.{list_any_same, lookup_same, is_eq-nat_cmp}

abbrev pub key_cmp : Address × ℕ → Address × ℕ → Ordering
key_cmp x y = ordering_then (nat_cmp x.0.0 y.0.0) (nat_cmp x.1 y.1)

is_eq-then : (o p : Ordering) → is_eq (ordering_then o p) ≡ (is_eq o && is_eq p)
is_eq-then o p = elim o as (λ v. is_eq (ordering_then v p) ≡ (is_eq v && is_eq p)) [ Less ↦ refl | Equal ↦ refl | Greater ↦ refl ]

pub is_eq-key_cmp : (x y : Address × ℕ) → is_eq (key_cmp x y) ≡ (eqb x.0.0 y.0.0 && eqb x.1 y.1)
is_eq-key_cmp x y = is_eq-then (nat_cmp x.0.0 y.0.0) (nat_cmp x.1 y.1) ∙ ap (λ b. b && is_eq (nat_cmp x.1 y.1)) (is_eq-nat_cmp x.0.0 y.0.0) ∙ ap (λ b. eqb x.0.0 y.0.0 && b) (is_eq-nat_cmp x.1 y.1)

pub next_kept_by : (nexts : List ((Address × ℕ) × ℕ)) (source : Address) (transfer : ℕ) → unwrap_or (lookup (λ y. is_eq (key_cmp (source, transfer) y)) nexts) 0 ≡ next_kept nexts source transfer
next_kept_by nexts source transfer = ap (λ o. unwrap_or o 0) (lookup_same (λ y. is_eq (key_cmp (source, transfer) y)) (λ y. eqb source.0 y.0.0 && eqb transfer y.1) (λ y. is_eq-key_cmp (source, transfer) y) nexts)

pub lookup_by : (nexts : List ((Address × ℕ) × ℕ)) (source : Address) (transfer : ℕ) → lookup (λ y. is_eq (key_cmp (source, transfer) y)) nexts ≡ lookup (λ (y : Address × ℕ). eqb source.0 y.0.0 && eqb transfer y.1) nexts
lookup_by nexts source transfer = lookup_same (λ y. is_eq (key_cmp (source, transfer) y)) (λ y. eqb source.0 y.0.0 && eqb transfer y.1) (λ y. is_eq-key_cmp (source, transfer) y) nexts

pub has_key_by : (keys : List (Address × ℕ)) (dst : Address) (place : ℕ) → list_any (λ y. is_eq (key_cmp (dst, place) y)) keys ≡ has_key keys dst place
has_key_by keys dst place = list_any_same (λ y. is_eq (key_cmp (dst, place) y)) (λ y. eqb dst.0 y.0.0 && eqb place y.1) (λ y. is_eq-key_cmp (dst, place) y) keys

-- a value is written at a key
pub next_kept-written : (old new : List ((Address × ℕ) × ℕ)) (source : Address) (transfer next : ℕ) → ((q : Address × ℕ) → lookup (λ y. is_eq (key_cmp q y)) new ≡ cond (is_eq (key_cmp (source, transfer) q)) (Some next) (lookup (λ y. is_eq (key_cmp q y)) old)) → (s : Address) (t : ℕ) → next_kept new s t ≡ cond (eqb source.0 s.0 && eqb transfer t) next (next_kept old s t)
next_kept-written old new source transfer next e s t = sym (next_kept_by new s t) ∙ ap (λ o. unwrap_or o 0) (e (s, t)) ∙ rw (is_eq-key_cmp (source, transfer) (s, t)) (elim (eqb source.0 s.0 && eqb transfer t) as (λ b. unwrap_or (cond b (Some next) (lookup (λ y. is_eq (key_cmp (s, t) y)) old)) 0 ≡ cond b next (next_kept old s t)) [ true ↦ refl | false ↦ next_kept_by old s t ])

-- a key is put in or taken out
pub has_key-changed : (old new : List (Address × ℕ)) (dst : Address) (place : ℕ) (b : Bool) → ((q : Address × ℕ) → list_any (λ y. is_eq (key_cmp q y)) new ≡ cond (is_eq (key_cmp (dst, place) q)) b (list_any (λ y. is_eq (key_cmp q y)) old)) → (d : Address) (p : ℕ) → has_key new d p ≡ cond (eqb dst.0 d.0 && eqb place p) b (has_key old d p)
has_key-changed old new dst place b e d p = sym (has_key_by new d p) ∙ e (d, p) ∙ rw (is_eq-key_cmp (dst, place) (d, p), has_key_by old d p) refl

is_gt-then : (o p : Ordering) → is_gt (ordering_then o p) ≡ (is_gt o || (is_eq o && is_gt p))
is_gt-then o p = elim o as (λ v. is_gt (ordering_then v p) ≡ (is_gt v || (is_eq v && is_gt p))) [ Less ↦ refl | Equal ↦ refl | Greater ↦ refl ]

is_gt-nat_cmp : (x y : ℕ) → is_gt (nat_cmp x y) ≡ ltb y x
is_gt-nat_cmp x y = grind (arith, nat_tests)

is_gt-key_cmp : (x y : Address × ℕ) → is_gt (key_cmp x y) ≡ (ltb y.0.0 x.0.0 || (eqb x.0.0 y.0.0 && ltb y.1 x.1))
is_gt-key_cmp x y = is_gt-then (nat_cmp x.0.0 y.0.0) (nat_cmp x.1 y.1) ∙ rw (is_gt-nat_cmp x.0.0 y.0.0, is_eq-nat_cmp x.0.0 y.0.0, is_gt-nat_cmp x.1 y.1) refl

-- keys in order: by the address, then by the number
pub key_from : (dst : Address) (place : ℕ) → is_gt (key_cmp (dst, 0) (dst, place)) ≡ false
key_from dst place = is_gt-key_cmp (dst, 0) (dst, place) ∙ rw (le-ltb dst.0 dst.0 (omega arith), le-ltb place 0 (omega arith), eq-eqb dst.0 dst.0 refl) refl

pub key_before : (x y : Address × ℕ) → is_gt (key_cmp x y) ≡ false → (x.0.0 ≤ y.0.0) × (x.0.0 ≡ y.0.0 → x.1 ≤ y.1)
key_before x y e = grind (arith, or_parts, is_gt-key_cmp, ltb-false, eq-eqb)
