-- Kit: a tree of numbers in a list, for the invariant and the contracts of the functions on it.
use Rattle.std.specs.Prelude.{◌≡◌, ℕ, ◌+◌, ◌*◌, ◌<◌, ◌≤◌, min, List, slice_index}

-- the inner node has the lesser number of the two below it
abbrev pub IsNode : List ℕ → ℕ → Type 0
IsNode nodes i = slice_index nodes i ≡ min (slice_index nodes (2 * i)) (slice_index nodes (2 * i + 1))

-- so do all, from the root 1 on
abbrev pub AreNodes : ℕ → List ℕ → Type 0
AreNodes places nodes = (i : ℕ) → 1 ≤ i → i < places → IsNode nodes i

-- all but one
abbrev pub AreNodesBut : ℕ → List ℕ → ℕ → Type 0
AreNodesBut places nodes but = (i : ℕ) → 1 ≤ i → i < places → (i ≡ but → ⊥) → IsNode nodes i
