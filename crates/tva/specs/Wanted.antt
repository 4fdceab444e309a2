-- Product: what words come to, and what may then be said of a run.
use Rattle.std.specs.Prelude.{◌≡◌, ◌⊎◌, ℕ, List, IfSome}
use Rattle.std.specs.Option.{option_map}
use Rattle.std.specs.declared.option.Option.{Option}
use Rattle.tva_outside.specs.Held.{HeldByName}
use Rattle.tva_outside.specs.Loads.{Load}
use Rattle.tva.specs.Given.{OfFiles}
use Rattle.tva.specs.Command.{command_of}
use Rattle.tva.specs.Expected.{Expected, comes_to, refuses, Ends}
use Rattle.tva.specs.declared.status.Status as status
use Rattle.tva.specs.declared.status.Status.TheVariants.{OutOfMemory}

-- what is to come of the words over files, where they are a command
abbrev pub wanted : HeldByName → List (List ℕ) → Option Expected
wanted files words = option_map (λ command. comes_to command files) (command_of words)

-- it holds of what is to come of the words, over any files that agree with what was given since
abbrev pub OfWanted : List Load → List Load → List (List ℕ) → (Expected → Type 0) → Type 0
OfWanted old new words holds = OfFiles old new (λ files. IfSome (wanted files words) holds)

-- the run ends so, unless memory runs out
abbrev pub Settles : status.Status → Expected → Type 0
Settles s x = Ends s x ⊎ (s ≡ OutOfMemory)

-- the same where it is to end with a refusal of what is read
abbrev pub SettlesRefusal : status.Status → Expected → Type 0
SettlesRefusal s (refuses r) = Settles s (refuses r)
SettlesRefusal s x = Unit {0}

-- it is to end in just one way, and no other: a trace that is to be replayed has rows, and their run is within the
-- number of events that it may have, or passes it
abbrev pub HasOneEnd : Expected → Type 0
HasOneEnd x = (s : status.Status) × Ends s x × ((other : status.Status) → Ends other x → other ≡ s)
