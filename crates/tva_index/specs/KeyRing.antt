-- Crate: keys in the order of a ring, and the place of each.
use Rattle.std.specs.Prelude.{ℕ, suc, ◌==◌, if◌then◌else◌, List, [], ◌∷◌, Option, Some, None}
use Rattle.std.specs.Option.{option_map}

-- the keys from the front on, and how many there may be
pub record Ring : Type 0 where
  pub places : ℕ
  pub keys : List ℕ

abbrev pub ring : ℕ → List ℕ → Ring
ring places keys = record { places = places; keys = keys }

-- the place of a key
abbrev pub place_in : ℕ → List ℕ → Option ℕ
place_in key [] = None
place_in key (k ∷ ks) = if k == key then Some 0 else option_map (λ n. suc n) (place_in key ks)
