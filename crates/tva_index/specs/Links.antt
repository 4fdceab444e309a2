-- Kit: the chains of places in buckets, for the invariant and the contracts of the functions on them.
use Rattle.std.specs.Prelude.{◌≡◌, ℕ, zero, suc, ◌<◌, ◌≤◌, List, length, slice_index_or, slice_set, Option, Some, None}
use Rattle.tva_index.specs.Buckets.{home, IsLastBelow}

-- where a step leads: its code is one more than the place, or 0
abbrev pub step_to : ℕ → Option ℕ
step_to zero = None
step_to (suc place) = Some place

-- the code of a step
abbrev pub step_code : Option ℕ → ℕ
step_code None = zero
step_code (Some place) = suc place

-- each chain has the places of its bucket, from the last to the first
pub record AreLinked (last before homes : List (Option ℕ)) : Type 0 where
  pub same : length before ≡ length homes
  pub starts : (b : ℕ) → b < length last → IsLastBelow homes (length homes) b (slice_index_or last b None)
  pub steps : (p b : ℕ) → home homes p ≡ Some b → IsLastBelow homes p b (slice_index_or before p None)
  pub known : (p b : ℕ) → home homes p ≡ Some b → b < length last

-- the first place in the bucket above that one, where there is one
abbrev pub IsFirstAbove : List (Option ℕ) → ℕ → ℕ → Option ℕ → Type 0
IsFirstAbove homes place b None = (q : ℕ) → place < q → home homes q ≡ Some b → ⊥
IsFirstAbove homes place b (Some a) = (place < a) × (home homes a ≡ Some b)
    × ((q : ℕ) → place < q → home homes q ≡ Some b → a ≤ q)

-- what a chain goes on to below a place, or starts with
abbrev pub link_of : List (Option ℕ) → List (Option ℕ) → ℕ → Option ℕ → Option ℕ
link_of last before b None = slice_index_or last b None
link_of last before b (Some a) = slice_index_or before a None

-- the starts and the steps after that link is changed
abbrev pub with_last : List (Option ℕ) → ℕ → Option ℕ → Option ℕ → List (Option ℕ)
with_last last b None to = slice_set last b to
with_last last b (Some a) to = last

abbrev pub with_before : List (Option ℕ) → Option ℕ → Option ℕ → List (Option ℕ)
with_before before None to = before
with_before before (Some a) to = slice_set before a to

-- a walk along a chain, that has come from above the place to that one
abbrev pub IsWalk : List (Option ℕ) → ℕ → ℕ → Option ℕ → Option ℕ → Type 0
IsWalk homes place b None at = IsLastBelow homes (length homes) b at
IsWalk homes place b (Some a) at = (place < a) × (home homes a ≡ Some b) × IsLastBelow homes a b at
