-- Crate: which pair is the worst: each before it has a lesser part of its limit, and none behind it has a greater.
use Rattle.std.specs.Prelude.{◌≡◌, ℕ, true, false, List, ◌∷◌, ◌++◌, All}
use Rattle.tva_report.specs.declared.pairs.Pair.{Pair}
use Rattle.tva_report.specs.Sums.{is_worse}

pub record IsWorst (worst : Pair × ℕ) (sums : List (Pair × ℕ)) : Type 0 where
  pub front : List (Pair × ℕ)
  pub rest : List (Pair × ℕ)
  pub stands : sums ≡ front ++ worst ∷ rest
  pub before : All (λ s. is_worse worst s ≡ true) front
  pub behind : All (λ s. is_worse s worst ≡ false) rest
