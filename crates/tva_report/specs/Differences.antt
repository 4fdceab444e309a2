-- Product: the first line in which a report differs from what was expected.
use Rattle.std.specs.Prelude.{◌≡◌, ◌≢◌, ℕ, ◌+◌, ◌-◌, ◌≤◌, cond, List, [], ◌∷◌, take, slice_get, Option, Some, None, unwrap_or}
use Rattle.std.specs.Str.{bytes_eq}
use Rattle.tva_report.specs.declared.differences.Finding.{Finding}

-- a difference in a line with that number; a line that isn't there is empty
abbrev pub finding : ℕ → List ℕ → List ℕ → Finding
finding number expected found = record { line = number; expected = expected; found = found }

-- the first difference of what is expected from what is found, where the first lines of both have that number
abbrev pub difference_from : ℕ → List (List ℕ) → List (List ℕ) → Option Finding
difference_from number [] [] = None
difference_from number [] (y ∷ ys) = Some (finding number [] y)
difference_from number (x ∷ xs) [] = Some (finding number x [])
difference_from number (x ∷ xs) (y ∷ ys) =
    cond (bytes_eq x y) (difference_from (number + 1) xs ys) (Some (finding number x y))

-- lines have numbers from 1
abbrev pub first_difference : List (List ℕ) → List (List ℕ) → Option Finding
first_difference expected found = difference_from 1 expected found

-- the line with that number, empty where there is none
abbrev pub line_at : List (List ℕ) → ℕ → List ℕ
line_at lines number = unwrap_or (slice_get lines (number - 1)) []

-- both have the same lines before it, and no more in its place
pub record IsFirstDifference (f : Finding) (xs ys : List (List ℕ)) : Type 0 where
  pub numbered : 1 ≤ f.line
  pub before : take (f.line - 1) xs ≡ take (f.line - 1) ys
  pub differs : slice_get xs (f.line - 1) ≢ slice_get ys (f.line - 1)
  pub expected : f.expected ≡ line_at xs f.line
  pub found : f.found ≡ line_at ys f.line
