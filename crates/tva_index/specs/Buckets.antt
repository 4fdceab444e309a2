-- Crate: places in buckets, and the last place of a bucket.
use Rattle.std.specs.Prelude.{◌≡◌, ℕ, ◌<◌, ◌≤◌, List, slice_index_or, Option, Some, None}

-- how many buckets there are, and the bucket of each place that is in one
pub record Placed : Type 0 where
  pub count : ℕ
  pub homes : List (Option ℕ)

abbrev pub placed : ℕ → List (Option ℕ) → Placed
placed count homes = record { count = count; homes = homes }

-- the bucket of a place
abbrev pub home : List (Option ℕ) → ℕ → Option ℕ
home homes place = slice_index_or homes place None

-- the last place in the bucket among those below a bound, where there is one
abbrev pub IsLastBelow : List (Option ℕ) → ℕ → ℕ → Option ℕ → Type 0
IsLastBelow homes bound b None = (q : ℕ) → q < bound → home homes q ≡ Some b → ⊥
IsLastBelow homes bound b (Some p) = (p < bound) × (home homes p ≡ Some b)
    × ((q : ℕ) → q < bound → home homes q ≡ Some b → q ≤ p)
