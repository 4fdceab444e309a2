-- Places in lists, and the place of a link in a list of links.
use Rattle.tva_router.proofs.Common.{◌≡◌, ℕ, Bool, ◌<◌, ◌≤◌, true, false, List, [], ◌∷◌, length, get_or, slice_get, Some, None, eqb, ap, ◌∙◌, zero, suc, arith, find, position, position_or_len, position-Some, rules, nat_tests}
use Rattle.std.proofs.lemmas.Grind.{common_steps}
use Rattle.std.proofs.lemmas.List.Folds.{find_at}
use Rattle.std.proofs.lemmas.Option.{slice_get-get_or, slice_get_past}

module _ {X : Type 0} where
  -- the link stands in that place, and in none before it
  abbrev pub IsAt : List (ℕ × X) → ℕ → ℕ → Type 0
  IsAt [] i link = ⊥
  IsAt (o ∷ os) zero link = eqb o.0 link ≡ true
  IsAt (o ∷ os) (suc i) link = (eqb o.0 link ≡ false) × IsAt os i link

  at_place : (os : List (ℕ × X)) (i link : ℕ) (d : ℕ × X) → i < length os → eqb (get_or os i d).0 link ≡ true
      → ((k : ℕ) → k < i → eqb (get_or os k d).0 link ≡ false) → IsAt os i link
  at_place [] i link d within here before = absurd (omega (arith, within))
  at_place (o ∷ os) zero link d within here before = here
  at_place (o ∷ os) (suc i) link d within here before =
      (before 0 (omega arith), at_place os i link d (omega (arith, within)) here (λ k below. before (suc k) (omega (arith, below))))

  pub is_at : (os : List (ℕ × X)) (i link : ℕ) → position (λ o. eqb o.0 link) os ≡ Some i → IsAt os i link
  is_at [] i link h = absurd (cc)
  is_at (o ∷ os) i link h =
      let found = position-Some (λ z. eqb z.0 link) (o ∷ os) i o h in
      at_place (o ∷ os) i link o found.0 found.1 found.2

  pub at_link : (os : List (ℕ × X)) (i link : ℕ) (d : ℕ × X) → IsAt os i link → eqb (get_or os i d).0 link ≡ true
  at_link [] i link d at = absurd at
  at_link (x ∷ xs) zero link d at = at
  at_link (x ∷ xs) (suc i) link d at = at_link xs i link d at.1

  pub at_within : (os : List (ℕ × X)) (i link : ℕ) → IsAt os i link → i < length os
  at_within [] i link at = absurd at
  at_within (x ∷ xs) zero link at = omega arith
  at_within (x ∷ xs) (suc i) link at = omega (arith, at_within xs i link at.1)

module _ {X : Type 0} (p : X → Bool) where
  -- what a test finds stands in its first place
  pub find_there : (xs : List X) (i : ℕ) (d : X) → position p xs ≡ Some i → find p xs ≡ Some (get_or xs i d)
  find_there xs i d h = grind (arith, position_or_len, find_at, slice_get, slice_get-get_or, position-Some)

  -- or nowhere
  pub find_nowhere : (xs : List X) → position p xs ≡ None → find p xs ≡ None
  find_nowhere xs h = grind (arith, position_or_len, find_at, slice_get_past)
