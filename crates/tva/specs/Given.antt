-- Product: of which files a call may be said to have read.
use Rattle.std.specs.Prelude.{◌≡◌, ◌⊎◌, ℕ, List, [], ◌∷◌, ◌++◌, map, take, IfSome, IsSomeAnd, Some}
use Rattle.std.specs.declared.option.Option.{Option}
use Rattle.std.specs.Io.KnownBytes.{append_known}
use Rattle.tva_outside.specs.Held.{HeldByName}
use Rattle.tva_outside.specs.Loads.{Agrees, Load}
use Rattle.tva.specs.Command.{Command, replay, check, gen, audit}
use Rattle.tva.specs.declared.status.Status as status
use Rattle.tva.specs.declared.status.Status.TheVariants.{ReadFault}

-- files agree with what was given since, between what a shelf gave before a call and behind it
abbrev pub AgreeSince : List Load → List Load → HeldByName → Type 0
AgreeSince old new files = (loads : List Load) → new ≡ old ++ loads → Agrees files loads

-- it holds of any such files
abbrev pub OfFiles : List Load → List Load → (HeldByName → Type 0) → Type 0
OfFiles old new holds = (files : HeldByName) → AgreeSince old new files → holds files

-- the files of a command, in the order in which they are read
abbrev pub files_of : Option Command → List (List ℕ)
files_of (Some (replay config trace)) = config ∷ trace ∷ []
files_of (Some (check config)) = config ∷ []
files_of (Some (gen seed count config)) = config ∷ []
files_of (Some (audit config trace report)) = config ∷ trace ∷ report ∷ []
files_of _ = []

-- the first of these names were asked for since, all or some or none, each once and in order
abbrev pub WereAsked : List Load → List Load → List (List ℕ) → Type 0
WereAsked old new names =
    (loads : List Load) × (n : ℕ) × (new ≡ old ++ loads) × (map (λ load. load.name) loads ≡ take n names)

-- what the shelf holds, where it tells that, agrees with what it gave; but with a fault of reading the count rose, or the
-- shelf tells
abbrev pub IsTold : Option HeldByName → List Load → List Load → Type 0 → status.Status → Type 0
IsTold held old new rose s =
    ((s ≡ ReadFault → ⊥) → IfSome held (AgreeSince old new))
    × (s ≡ ReadFault → rose ⊎ IsSomeAnd held (AgreeSince old new))

-- a sink took more since, and where it tells what was written, just that stands behind it
abbrev pub WasTaken : Option (List ℕ) → Option (List ℕ) → List ℕ → List ℕ → Type 0
WasTaken before now old new = (taken : List ℕ) × (new ≡ old ++ taken) × (now ≡ append_known before taken)
