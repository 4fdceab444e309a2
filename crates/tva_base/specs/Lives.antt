-- Product: a greatest value over what is left of a list: how long credits that follow one another last.
use Rattle.std.specs.Prelude.{ℕ, ◌+◌, max, List, [], ◌∷◌, sum_by}

-- over the members of a list, oldest first, the greatest of a member's time plus the credits of
-- those from it on, and 0 without members. Times and credits are in nanoseconds
abbrev pub latest_end : {A : Type 0} → (A → ℕ) → (A → ℕ) → List A → ℕ
latest_end time credit [] = 0
latest_end time credit (x ∷ xs) = max (time x + sum_by credit (x ∷ xs)) (latest_end time credit xs)
