-- Product: entries whose tags and pre-capabilities stand in two lists.
use Rattle.std.specs.Prelude.{ℕ, List, [], ◌∷◌}
use Rattle.tva_shim.specs.declared.entries.Entry.{Entry}

abbrev pub paired : List ℕ → List ℕ → List Entry
paired [] precaps = []
paired (tag ∷ tags) [] = []
paired (tag ∷ tags) (precap ∷ precaps) = record { tag = tag; precap = precap } ∷ paired tags precaps
