-- What stands behind some members ends no later than all together.
use Rattle.tva_base.proofs.Common.{◌≤◌, ℕ, List, [], ◌∷◌, ◌++◌, arith}
use Rattle.tva_base.specs.Lives.{latest_end}

pub latest_end-back : {A : Type 0} (time credit : A → ℕ) (xs ys : List A) → latest_end time credit ys ≤ latest_end time credit (xs ++ ys)
latest_end-back time credit [] ys = omega arith
latest_end-back time credit (x ∷ xs) ys = omega (arith, latest_end-back time credit xs ys)
