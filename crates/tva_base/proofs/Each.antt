-- What holds of each element of a list, of the lists made of it; and searches by tests that agree.
use Rattle.std.proofs.Common.{map, filter}
use Rattle.std.specs.List.{AllByRecursion, AllZip, find, list_any}
use Rattle.std.specs.Option.{option_map}
use Rattle.std.specs.Ordering.{is_eq, nat_cmp}
use Rattle.std.specs.Map.{lookup}
use Rattle.std.specs.Prelude.{◌||◌}
use Rattle.tva_base.proofs.Common.{◌≡◌, ℕ, ◌<◌, ◌≤◌, ◌&&◌, Bool, true, false, cond, List, [], ◌∷◌, ◌++◌, length, get_or, Option, Some, refl, ap, ◌∙◌, zero, suc, eqb, nat_le, nat_lt, arith, nat_tests}

pub each-left : {X : Type 0} (P : X → Type 0) (xs ys : List X) → AllByRecursion P (xs ++ ys) → AllByRecursion P xs
each-left P [] ys h = tt
each-left P (x ∷ xs) ys h = (h.0, each-left P xs ys h.1)

pub each-right : {X : Type 0} (P : X → Type 0) (xs ys : List X) → AllByRecursion P (xs ++ ys) → AllByRecursion P ys
each-right P [] ys h = h
each-right P (x ∷ xs) ys h = each-right P xs ys h.1

pub each-map : {X Y : Type 0} (f : X → Y) (P : Y → Type 0) (xs : List X) → AllByRecursion (λ x. P (f x)) xs → AllByRecursion P (map f xs)
each-map f P [] h = tt
each-map f P (x ∷ xs) h = (h.0, each-map f P xs h.1)

pub each-of_map : {X Y : Type 0} (f : X → Y) (P : Y → Type 0) (xs : List X) → AllByRecursion P (map f xs) → AllByRecursion (λ x. P (f x)) xs
each-of_map f P [] h = tt
each-of_map f P (x ∷ xs) h = (h.0, each-of_map f P xs h.1)

pub each-filter : {X : Type 0} (P : X → Type 0) (p : X → Bool) (xs : List X) → AllByRecursion P xs → AllByRecursion P (filter p xs)
each-filter P p [] h = tt
each-filter P p (x ∷ xs) h = elim (p x) as (λ b. AllByRecursion P (cond b (x ∷ filter p xs) (filter p xs))) [ true ↦ (h.0, each-filter P p xs h.1) | false ↦ each-filter P p xs h.1 ]

pub each-both : {X : Type 0} (P Q R : X → Type 0) → ((x : X) → P x → Q x → R x) → (xs : List X) → AllByRecursion P xs → AllByRecursion Q xs → AllByRecursion R xs
each-both P Q R w [] p q = tt
each-both P Q R w (x ∷ xs) p q = (w x p.0 q.0, each-both P Q R w xs p.1 q.1)

pub each-at : {X : Type 0} (P : X → Type 0) (xs : List X) (i : ℕ) (d : X) → AllByRecursion P xs → i < length xs → P (get_or xs i d)
each-at P [] i d a h = absurd (omega arith)
each-at P (x ∷ xs) zero d a h = a.0
each-at P (x ∷ xs) (suc i) d a h = each-at P xs i d a.1 (omega arith)

pub zip_same : {X : Type 0} (R : X → X → Type 0) → ((x : X) → R x x) → (xs : List X) → AllZip R xs xs
zip_same R r [] = tt
zip_same R r (x ∷ xs) = (r x, zip_same R r xs)

pub find-map : {X Y : Type 0} (f : X → Y) (p : Y → Bool) (xs : List X) → find p (map f xs) ≡ option_map f (find (λ x. p (f x)) xs)
find-map f p [] = refl
find-map f p (x ∷ xs) = grind (arith, nat_tests, (find-map f p xs))

-- ## tests that agree

pub list_any_same : {X : Type 0} (p q : X → Bool) → ((x : X) → p x ≡ q x) → (xs : List X) → list_any p xs ≡ list_any q xs
list_any_same p q e xs = grind (arith, list_any)

pub lookup_same : {K X : Type 0} (p q : K → Bool) → ((k : K) → p k ≡ q k) → (es : List (K × X)) → lookup p es ≡ lookup q es
lookup_same p q e [] = refl
lookup_same {X = X} p q e (x ∷ xs) = ap (λ b. cond b (Some x.1) (lookup p xs)) (e x.0) ∙ ap (λ (o : Option X). cond (q x.0) (Some x.1) o) (lookup_same p q e xs)

pub is_eq-nat_cmp : (x y : ℕ) → is_eq (nat_cmp x y) ≡ eqb x y
is_eq-nat_cmp x y = grind (arith, nat_tests)

pub eqb-sym : (a b : ℕ) → eqb a b ≡ eqb b a
eqb-sym a b = grind (arith, nat_tests)

-- ## between two times

pub is_in : (a b t : ℕ) → a ≤ t → t < b → (nat_le a t && nat_lt t b) ≡ true
is_in a b t h k = grind (arith, nat_tests)

pub is_behind : (a b t : ℕ) → b ≤ t → (nat_le a t && nat_lt t b) ≡ false
is_behind a b t h = grind (arith, nat_tests)

pub is_ahead : (a b t : ℕ) → t < a → (nat_le a t && nat_lt t b) ≡ false
is_ahead a b t h = grind (arith, nat_tests)

-- ## by a test

pub by_test : (b : Bool) (P : Bool → Type 0) → (b ≡ true → P true) → (b ≡ false → P false) → P b
by_test true P t f = t refl
by_test false P t f = f refl

pub both_true : (a b : Bool) → (a && b) ≡ true → (a ≡ true) × (b ≡ true)
both_true true b h = (refl, h)
both_true false b h = absurd (cc)

pub both_false : (a b : Bool) → (a || b) ≡ false → (a ≡ false) × (b ≡ false)
both_false true b h = absurd (cc)
both_false false b h = (refl, h)
