-- Product: keys, each once, in the order in which they come first, and sums by them.
use Rattle.std.specs.Prelude.{ℕ, Bool, not, List, [], ◌∷◌, filter, map}

abbrev pub firsts : {K : Type 0} → (K → K → Bool) → List K → List K
firsts same [] = []
firsts same (k ∷ ks) = k ∷ filter (λ other. not (same k other)) (firsts same ks)

-- each key with its sum
abbrev pub with_sums : {K : Type 0} → (K → ℕ) → List K → List (K × ℕ)
with_sums {K} sum_of keys = map {B = K × ℕ} (λ key. (key, sum_of key)) keys
