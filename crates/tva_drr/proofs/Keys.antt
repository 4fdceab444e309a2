-- Where a key's queue stands, by the keys alone.
use Rattle.tva_drr.proofs.Common.{◌≡◌, ℕ, suc, false, List, [], ◌∷◌, map, Option, None, refl, arith, option_map, place_in, Queue, has_key, IsPlace, nat_tests}

module _ {T : Type 0} where
  place_later : (key : ℕ) (q : Queue T) (qs : List (Queue T)) (o : Option ℕ) → (q.key ≡ key → ⊥) → IsPlace key qs o → IsPlace key (q ∷ qs) (option_map (λ (n : ℕ). suc n) o)
  place_later key q qs o n h = grind (arith, nat_tests)

  -- the place of the key is that of its queue
  pub place_is : (key : ℕ) (qs : List (Queue T)) → IsPlace key qs (place_in key (map (λ (q : Queue T). q.key) qs))
  place_is key [] = refl
  place_is key (q ∷ qs) = grind (arith, nat_tests, place_later key q qs (place_in key (map (λ (q : Queue T). q.key) qs)), place_is key qs)

  -- a key without a queue has none
  pub no_place : (key : ℕ) (qs : List (Queue T)) → has_key key qs ≡ false → place_in key (map (λ (q : Queue T). q.key) qs) ≡ None
  no_place key [] h = refl
  no_place key (q ∷ qs) h = grind (arith, nat_tests, (no_place key qs))
