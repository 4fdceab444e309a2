-- Product: lists that join what comes from several sources: by time, and at one time by source. One definition
-- serves a node's inputs, whose first source is the trace and whose others are its links, and the lines of a
-- report, whose sources are the nodes.
use Rattle.std.specs.Prelude.{◌≡◌, ℕ, ◌<◌, ◌≤◌, Bool, ◌&&◌, ◌||◌, ◌==◌, nat_lt, cond, ◌⊎◌, List, [], ◌∷◌, filter}
use Rattle.std.specs.List.{AllByRecursion}

-- x may stand before y
abbrev pub MayPrecede : {X : Type 0} → (X → ℕ) → (X → ℕ) → X → X → Type 0
MayPrecede time source x y = (time x < time y) ⊎ ((time x ≡ time y) × (source x ≤ source y))

-- each may stand before all that follow it
abbrev pub IsInOrder : {X : Type 0} → (X → ℕ) → (X → ℕ) → List X → Type 0
IsInOrder time source [] = Unit {0}
IsInOrder time source (x ∷ xs) = AllByRecursion (MayPrecede time source x) xs × IsInOrder time source xs

-- what comes from one source
abbrev pub from_source : {X : Type 0} → (X → ℕ) → ℕ → List X → List X
from_source source s xs = filter (λ x. source x == s) xs

-- the list is in order, and has what each source gives, each in its own order, and nothing else
pub record IsJoin {X : Type 0} (time source : X → ℕ) (gives : ℕ → List X) (xs : List X) : Type 0 where
  pub in_order : IsInOrder time source xs
  pub each : (s : ℕ) → from_source source s xs ≡ gives s

-- what comes before a time
abbrev pub cut : {X : Type 0} → (X → ℕ) → ℕ → List X → List X
cut time until xs = filter (λ x. nat_lt (time x) until) xs

-- the times never fall
abbrev pub NeverFalls : {X : Type 0} → (X → ℕ) → List X → Type 0
NeverFalls time [] = Unit {0}
NeverFalls time (x ∷ xs) = AllByRecursion (λ y. time x ≤ time y) xs × NeverFalls time xs

-- x has to stand before y
abbrev pub precedes : {X : Type 0} → (X → ℕ) → (X → ℕ) → X → X → Bool
precedes time source x y = nat_lt (time x) (time y) || ((time x == time y) && nat_lt (source x) (source y))

-- one more is put at its place, behind all before which it need not stand
abbrev pub put_in : {X : Type 0} → (X → ℕ) → (X → ℕ) → X → List X → List X
put_in time source x [] = x ∷ []
put_in time source x (y ∷ ys) = cond (precedes time source x y) (x ∷ y ∷ ys) (y ∷ put_in time source x ys)

-- several are put in, one after another
abbrev pub put_all : {X : Type 0} → (X → ℕ) → (X → ℕ) → List X → List X → List X
put_all time source [] ys = ys
put_all time source (x ∷ xs) ys = put_all time source xs (put_in time source x ys)

-- the same, in order
abbrev pub sorted : {X : Type 0} → (X → ℕ) → (X → ℕ) → List X → List X
sorted time source xs = put_all time source xs []
