-- Crate: a list, how many of its elements memory holds no more, and how many were told.
use Rattle.std.specs.Prelude.{ℕ, List, [], ◌++◌, drop, length}

-- all that was put into a list, how many of the first of these it has forgotten, and how many it has told
pub record KeptList (X : Type 0) : Type 0 where
  pub all : List X
  pub gone : ℕ
  pub told : ℕ

-- nothing was put in yet
abbrev pub nothing : {X : Type 0} → KeptList X
nothing = record { all = []; gone = 0; told = 0 }

-- more was put in behind it
abbrev pub with_more : {X : Type 0} → KeptList X → List X → KeptList X
with_more kept more = record kept { all = kept.all ++ more }

-- what memory holds
abbrev pub held : {X : Type 0} → KeptList X → List X
held kept = drop kept.gone kept.all

-- what was not told yet
abbrev pub news : {X : Type 0} → KeptList X → List X
news kept = drop kept.told kept.all

-- all is told
abbrev pub all_told : {X : Type 0} → KeptList X → KeptList X
all_told kept = record kept { told = length kept.all }

-- all is told and forgotten
abbrev pub forgotten : {X : Type 0} → KeptList X → KeptList X
forgotten kept = record kept { gone = length kept.all; told = length kept.all }
