-- The place at which one more is put into a list in order.
use Rattle.tva_run.proofs.Common.{◌≡◌, ℕ, zero, suc, ◌+◌, ◌<◌, ◌≤◌, List, [], ◌∷◌, length, get_or, take, true, false, refl, ◌∙◌, ap, arith, inl, inr, ◌⊎◌, insert, nat_lt, ◌==◌, ◌||◌, ◌&&◌, AllByRecursion, cases_Bool, cond-true, cond-false, nat_tests, MayPrecede, IsInOrder, precedes, put_in}
use Rattle.tva_run.proofs.Putting.{before_yes, strictly_trans}

module _ {X : Type 0} (time source : X → ℕ) where
  -- where it need not stand before the first ones, and has to before the next
  pub put_in-at : (x : X) (xs : List X) (n : ℕ) → n ≤ length xs → AllByRecursion (λ y. precedes time source x y ≡ false) (take n xs) → ((d : X) → n < length xs → precedes time source x (get_or xs n d) ≡ true) → put_in time source x xs ≡ insert xs n x
  put_in-at x [] zero l a b = refl
  put_in-at x [] (suc n) l a b = absurd (omega arith)
  put_in-at x (y ∷ ys) zero l a b = cond-true (precedes time source x y) (x ∷ y ∷ ys) (y ∷ put_in time source x ys) (b y (omega arith))
  put_in-at x (y ∷ ys) (suc n) l a b =
      cond-false (precedes time source x y) (x ∷ y ∷ ys) (y ∷ put_in time source x ys) a.0
      ∙ ap (λ (zs : List X). y ∷ zs) (put_in-at x ys n (omega arith) a.1 (λ d h. b d (omega arith)))

  -- where it need not stand before one, it need not before those before that one
  not_sooner : (x y z : X) → MayPrecede time source y z → precedes time source x z ≡ false → precedes time source x y ≡ false
  not_sooner x y z m h = elim (cases_Bool (precedes time source x y)) [
    | inl a ↦ absurd (let k = strictly_trans (time x) (source x) (time y) (source y) (time z) (source z) (before_yes (time x) (source x) (time y) (source y) a) m in clash (time x) (source x) (time z) (source z) k h)
    | inr a ↦ a
  ]
    where
      clash : (a b c d : ℕ) → (a < c) ⊎ ((a ≡ c) × (b < d)) → (nat_lt a c || ((a == c) && nat_lt b d)) ≡ false → ⊥
      clash a b c d h k = grind (arith, nat_tests)

  pub none_sooner : (x : X) (xs : List X) (n : ℕ) (d : X) → IsInOrder time source xs → n < length xs → precedes time source x (get_or xs n d) ≡ false → AllByRecursion (λ y. precedes time source x y ≡ false) (take (n + 1) xs)
  none_sooner x xs n d o l h = let e : n + 1 ≡ suc n = omega arith in rw e (none_up_to xs n o l h)
    where
      at : (y : X) (ys : List X) (k : ℕ) → AllByRecursion (MayPrecede time source y) ys → k < length ys → MayPrecede time source y (get_or ys k d)
      at y [] k a l = absurd (omega arith)
      at y (z ∷ zs) zero a l = a.0
      at y (z ∷ zs) (suc k) a l = at y zs k a.1 (omega arith)

      none_up_to : (ys : List X) (k : ℕ) → IsInOrder time source ys → k < length ys → precedes time source x (get_or ys k d) ≡ false → AllByRecursion (λ y. precedes time source x y ≡ false) (take (suc k) ys)
      none_up_to [] k o l h = absurd (omega arith)
      none_up_to (y ∷ ys) zero o l h = (h, tt)
      none_up_to (y ∷ ys) (suc k) o l h = (not_sooner x y (get_or ys k d) (at y ys k o.0 (omega arith)) h, none_up_to ys k o.1 (omega arith) h)
