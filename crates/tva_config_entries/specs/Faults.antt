-- Product: steps that give a value, or the first fault in a configuration.
use Rattle.std.specs.Prelude.{◌≡◌, ℕ, List, [], ◌∷◌, ◌++◌, Bool, if◌then◌else◌, Option, Some, None, Result, Ok, Err}
use Rattle.tva_config_entries.specs.declared.faults.ConfigTable as tables
use Rattle.tva_config_entries.specs.declared.faults.ConfigTable.TheVariants as table
use Rattle.tva_config_entries.specs.declared.faults.ConfigRule as rules
use Rattle.tva_config_entries.specs.declared.faults.{ConfigFault.ConfigFault, ConfigError.ConfigError}
use Rattle.tva_config_entries.specs.declared.place.Place.{Place}
use Rattle.tva_config_entries.specs.declared.faults.ConfigError.TheVariants as error

-- a value, or the fault that is there instead
abbrev pub Read : Type 0 → Type 0
Read A = Result A ConfigFault

-- a step after another: the fault of the first comes before those of the second
infixl 10 ◌>>=◌
abbrev pub ◌>>=◌ : {A B : Type 0} → Read A → (A → Read B) → Read B
(Ok x) >>= next = next x
(Err fault) >>= next = Err fault

-- an entry of a table
abbrev pub at : tables.ConfigTable → ℕ → Place
at t entry = record { table = t; entry = entry }

-- the top level
abbrev pub top : Place
top = at table.Top 0

-- a fault at an entry
abbrev pub fault_at : Place → rules.ConfigRule → List ℕ → ConfigFault
fault_at place r key = record { rule = r; table = place.table; entry = place.entry; key = key }

-- nothing, or a fault
abbrev pub unless : Bool → ConfigFault → Read (Unit {0})
unless broken fault = if broken then Err fault else Ok tt

-- what was looked for, or a fault
abbrev pub found : {A : Type 0} → Option A → ConfigFault → Read A
found None fault = Err fault
found (Some x) fault = Ok x

-- what a step makes of each element in turn, which also sees what was made of those before it
abbrev pub in_turn : {A B : Type 0} → (List B → A → Read B) → List B → List A → Read (List B)
in_turn step done [] = Ok done
in_turn step done (x ∷ xs) = do
  made ← step done x
  in_turn step (done ++ made ∷ []) xs

-- an answer, seen as what it stands for, is what is read, but for want of memory
abbrev pub AnswersBy : {A B : Type 0} → (B → A) → Read A → Result B ConfigError → Type 0
AnswersBy seen read (Ok x) = read ≡ Ok (seen x)
AnswersBy seen read (Err (error.Fault fault)) = read ≡ Err fault
AnswersBy seen read (Err error.OutOfMemory) = Unit {0}

-- an answer is what is read, but for want of memory
abbrev pub Answers : {A : Type 0} → Read A → Result A ConfigError → Type 0
Answers read answer = AnswersBy (λ x. x) read answer
