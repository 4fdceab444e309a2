-- Crate: which nodes a map of names stands for.
use Rattle.std.specs.Prelude.{◌≡◌, ℕ, List}
use Rattle.std.specs.declared.hash.{FoldHasher.FoldHasher, BuildHasherDefault.BuildHasherDefault}
use Rattle.std.specs.{HashMap.HashMap, HashMap.get_by, Str.bytes_eq, Borrow.Bor}
use Rattle.tva_plan.specs.declared.config.NodePlan as nodes
use Rattle.tva_plan.specs.Names.{named_from}

abbrev pub Names : Type 0
Names = HashMap (Bor (List ℕ)) ℕ (BuildHasherDefault FoldHasher)

-- the map gives each name the number of the first of these plans that has it, and no other
abbrev pub NumbersFrom : ℕ → List nodes.NodePlan → Names → Type 0
NumbersFrom number plans map = (name : List ℕ) → get_by (λ k. bytes_eq name k.now) map ≡ named_from name number plans

abbrev pub Numbers : List nodes.NodePlan → Names → Type 0
Numbers plans map = NumbersFrom 0 plans map
