-- Kit: what stands behind what was seen.
use Rattle.std.specs.Prelude.{List, [], ◌∷◌, ◌++◌}
use Rattle.tva_outside.specs.declared.seen.Behind.{Behind, Nothing, One'}

abbrev pub all_behind : {X : Type 0} → Behind X → List X
all_behind Nothing = []
all_behind (One' outer inner before one) = all_behind before ++ one.value ∷ []
