-- Kit: a key that stands alone, or several, for the invariant of their ring.
use Rattle.std.specs.Prelude.{◌≡◌, ℕ, ◌≤◌, List, [], ◌∷◌, Option, Some, None, Box}
use Rattle.tva_index.specs.KeyRing.{Ring}

-- the keys that have numbers, none where there may be one key alone
abbrev pub several_in : {A : Type 0} → Option (Box Ring A) → List ℕ
several_in None = []
several_in (Some several) = several.value.keys

-- the keys of a ring: one alone, or those
abbrev pub keys_of : Option ℕ → List ℕ → List ℕ
keys_of (Some key) several = key ∷ []
keys_of None several = several

-- there are places for as many keys as there may be
abbrev pub HasRoom : {A : Type 0} → ℕ → Option (Box Ring A) → Type 0
HasRoom places None = places ≤ 1
HasRoom places (Some several) = several.value.places ≡ places
