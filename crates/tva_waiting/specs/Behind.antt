-- Kit: what stands behind a past.
use Rattle.std.specs.Prelude.{List, [], ◌∷◌, ◌++◌}
use Rattle.tva_waiting.specs.declared.past.Behind.{Behind, Nothing, One', All'}

abbrev pub all_behind : {X : Type 0} → Behind X → List X
all_behind Nothing = []
all_behind (One' outer inner before one) = all_behind before ++ one.value ∷ []
all_behind (All' outer inner before more) = all_behind before ++ more.value.items
