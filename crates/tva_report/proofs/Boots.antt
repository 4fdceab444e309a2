-- Lemmas on the boot at a time: rising times that have come stand in front of those that have not.
use Rattle.tva_report.proofs.Common.{◌≡◌, ℕ, ◌<◌, ◌≤◌, Bool, true, false, List, [], ◌∷◌, length, get_or, map, cond, refl, ◌∙◌, arith, zero, suc, All, count_by, sum_by-cons}
use Rattle.std.specs.List.Sorted.{IsNonDecreasingBy, IsPartitionPoint}
use Rattle.tva_base.specs.Plan.{AreRising}

rise_at : {X : Type 0} (n : X → ℕ) (a : ℕ) (xs : List X) → All (λ m. a < m) (map n xs) → (k : ℕ) (d : X) → k < length xs → a < n (get_or xs k d)
rise_at n a [] h k d l = absurd (omega arith)
rise_at n a (x ∷ xs) h zero d l = h 0 0 (omega arith)
rise_at n a (x ∷ xs) h (suc k) d l = rise_at n a xs (λ j e m. h (suc j) e (omega arith)) k d (omega arith)

pub never_falls : {X : Type 0} (n : X → ℕ) (xs : List X) → AreRising (map n xs) → IsNonDecreasingBy n xs
never_falls n [] h i j d le l = absurd (omega arith)
never_falls n (x ∷ xs) h zero zero d le l = omega arith
never_falls n (x ∷ xs) h zero (suc j) d le l = let r = rise_at n (n x) xs h.0 j d (omega arith) in omega arith
never_falls n (x ∷ xs) h (suc i) zero d le l = absurd (omega arith)
never_falls n (x ∷ xs) h (suc i) (suc j) d le l = never_falls n xs h.1 i j d (omega arith) (omega arith)

-- as many pass as stand before the point
pub count_to_point : {X : Type 0} (p : X → Bool) (xs : List X) (i : ℕ) → i ≤ length xs → IsPartitionPoint (λ y. p y ≡ true) (λ y. p y ≡ false) xs i → count_by p xs ≡ i
count_to_point p [] i l h = omega arith
count_to_point p (x ∷ xs) zero l h =
    let here = h.1 0 x (omega arith) (omega arith) in
    let rest = count_to_point p xs zero (omega arith) ((λ k d a b. absurd (omega arith)), λ k d a b. h.1 (suc k) d (omega arith) (omega arith)) in
    sum_by-cons (λ y. cond (p y) 1 0) x xs ∙ rw (here, rest) refl
count_to_point p (x ∷ xs) (suc i) l h =
    let here = h.0 0 x (omega arith) (omega arith) in
    let rest = count_to_point p xs i (omega arith) ((λ k d a b. h.0 (suc k) d (omega arith) (omega arith)), λ k d a b. h.1 (suc k) d (omega arith) (omega arith)) in
    sum_by-cons (λ y. cond (p y) 1 0) x xs ∙ rw (here, rest) (omega arith)
