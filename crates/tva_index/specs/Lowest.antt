-- Crate: the place of a least number.
use Rattle.std.specs.Prelude.{◌≡◌, ℕ, ◌<◌, ◌≤◌, List, length, slice_index, Option, Some, None}

abbrev pub IsLeastPlace : List ℕ → Option ℕ → Type 0
IsLeastPlace xs None = length xs ≡ 0
IsLeastPlace xs (Some p) = (p < length xs) × ((q : ℕ) → q < length xs → slice_index xs p ≤ slice_index xs q)
