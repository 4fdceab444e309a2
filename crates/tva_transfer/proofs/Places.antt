-- Lists by place, after an element was written or added.
use Rattle.tva_transfer.proofs.Common.{◌≡◌, ℕ, zero, suc, Bool, true, false, cond, eqb, List, [], ◌∷◌, ◌++◌, length, set, Some, None, refl, sym, ap, ◌∙◌, arith, slice_get, option_map, nat_tests, ne_eqb}

eqb-suc : (a b : ℕ) → eqb (suc a) (suc b) ≡ eqb a b
eqb-suc a b = grind (arith, nat_tests)

cond_same : {A : Type 0} (b : Bool) (x : A) → cond b x x ≡ x
cond_same b x = elim b as (λ v. cond v x x ≡ x) [ true ↦ refl | false ↦ refl ]

pub slice_get-push : {X : Type 0} (xs : List X) (y : X) (k : ℕ) → slice_get (xs ++ y ∷ []) k ≡ cond (eqb k (length xs)) (Some y) (slice_get xs k)
slice_get-push [] y zero = refl
slice_get-push [] y (suc k) = rw (ne_eqb (suc k) 0 (λ e. absurd (omega (arith, e)))) refl
slice_get-push (x ∷ xs) y zero = rw (ne_eqb 0 (suc (length xs)) (λ e. absurd (omega (arith, e)))) refl
slice_get-push (x ∷ xs) y (suc k) = slice_get-push xs y k ∙ ap (λ b. cond b (Some y) (slice_get xs k)) (sym (eqb-suc k (length xs)))

pub slice_get-set : {X : Type 0} (xs : List X) (i : ℕ) (y : X) (k : ℕ) → slice_get (set xs i y) k ≡ cond (eqb k i) (option_map (λ _. y) (slice_get xs k)) (slice_get xs k)
slice_get-set [] i y k = sym (cond_same (eqb k i) None)
slice_get-set (x ∷ xs) zero y zero = refl
slice_get-set (x ∷ xs) zero y (suc k) = rw (ne_eqb (suc k) 0 (λ e. absurd (omega (arith, e)))) refl
slice_get-set (x ∷ xs) (suc i) y zero = rw (ne_eqb 0 (suc i) (λ e. absurd (omega (arith, e)))) refl
slice_get-set (x ∷ xs) (suc i) y (suc k) = slice_get-set xs i y k ∙ ap (λ b. cond b (option_map (λ _. y) (slice_get xs k)) (slice_get xs k)) (sym (eqb-suc k i))
