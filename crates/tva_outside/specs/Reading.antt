-- Kit: how reading a file ends, for the contracts of the functions that read one.
use Rattle.std.specs.Prelude.{◌≡◌, ◌≢◌, ℕ, ◌+◌, ◌<◌, ◌≤◌, List, length, IfSome, Result, Ok, Err}
use Rattle.std.specs.{declared.option.Option.Option, declared.io.Error.Error, IoError.error_kind}
use Rattle.std.specs.declared.io.ErrorKind.TheVariants as kind
use Rattle.tva_outside.specs.declared.{file_shelf.Outcome.Outcome, file_shelf.Reading.Reading, shelf.Loaded.Loaded}
use Rattle.tva_outside.specs.declared.file_shelf.Reading.TheVariants.{Whole, Longer, Failed, OutOfMemory}
use Rattle.tva_outside.specs.declared.file_shelf.Outcome.TheVariants as outcome
use Rattle.tva_outside.specs.declared.shelf.Loaded.TheVariants as loaded_as

-- how one read ended of which the system answers so: with some bytes, or with none where none is left; an error is a
-- signal, want of memory, or a failure, by its kind
abbrev pub IsOutcome : Result ℕ Error → Outcome → Type 0
IsOutcome read (outcome.Count n) = (read ≡ Ok n) × (n ≢ 0)
IsOutcome read outcome.End = read ≡ Ok 0
IsOutcome read outcome.Again = (error : Error) × (read ≡ Err error) × (error_kind error ≡ kind.Interrupted)
IsOutcome read outcome.OutOfMemory = (error : Error) × (read ≡ Err error) × (error_kind error ≡ kind.OutOfMemory)
IsOutcome read outcome.Failed =
    (error : Error) × (read ≡ Err error) × (error_kind error ≢ kind.Interrupted) × (error_kind error ≢ kind.OutOfMemory)

-- reading to the end, within a limit: what is read whole is all that the reader had left, where it tells that, and what is
-- too long was longer than the limit
abbrev pub IsReading : Option (List ℕ) → ℕ → Reading → Type 0
IsReading left max (Whole bytes) = IfSome left (λ all. bytes.items ≡ all) × (length bytes.items ≤ max)
IsReading left max Longer = IfSome left (λ all. max < length all)
IsReading left max Failed = Unit {0}
IsReading left max OutOfMemory = Unit {0}

-- how it ends at an error: the system's want of memory is no failure, and any other error is one
abbrev pub IsBroken : Error → Reading → Type 0
IsBroken error (Whole bytes) = ⊥
IsBroken error Longer = ⊥
IsBroken error Failed = error_kind error ≢ kind.OutOfMemory
IsBroken error OutOfMemory = error_kind error ≡ kind.OutOfMemory

-- what a load answers where reading ended so
abbrev pub loaded_of : ℕ → Reading → Loaded
loaded_of max (Whole bytes) = loaded_as.Bytes bytes
loaded_of max Longer = loaded_as.TooLarge (max + 1)
loaded_of max Failed = loaded_as.Failed
loaded_of max OutOfMemory = loaded_as.OutOfMemory
