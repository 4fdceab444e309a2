-- How many elements of a list pass a test.
use Rattle.tva_laws.proofs.Common.{◌≡◌, ℕ, ◌+◌, ◌≤◌, Bool, false, cond, List, [], ◌∷◌, arith, count_by, sum_by-cons, nat_tests}
use Rattle.std.proofs.Common.{filter}

one_more : (n a b : ℕ) → a ≤ b → n + a ≤ n + b
one_more n a b l = omega (arith, l)

none_more : (n a b : ℕ) → a ≤ b → n ≡ 0 → n + a ≤ b
none_more n a b l e = omega (arith, l, e)

none_less : (n a b : ℕ) → a ≤ b → a ≤ n + b
none_less n a b l = omega (arith, l)

abbrev pub one_if : Bool → ℕ
one_if b = cond b 1 0

pub count-cons : {X : Type 0} (p : X → Bool) (x : X) (xs : List X) → count_by p (x ∷ xs) ≡ one_if (p x) + count_by p xs
count-cons p x xs = sum_by-cons (λ y. one_if (p y)) x xs

pub count-filter : {X : Type 0} (p q : X → Bool) (xs : List X) → count_by p (filter q xs) ≤ count_by p xs
count-filter p q [] = omega arith
count-filter p q (x ∷ xs) = grind (arith, nat_tests, count-cons, one_more, none_less, count-filter p q xs)

-- where only those pass that another test passes, they are as many among those
pub count-among : {X : Type 0} (p q : X → Bool) → ((x : X) → q x ≡ false → p x ≡ false) → (xs : List X)
    → count_by p xs ≤ count_by p (filter q xs)
count-among p q only [] = omega arith
count-among p q only (x ∷ xs) = grind (arith, nat_tests, count-cons, one_more, none_more, count-among p q only xs)
