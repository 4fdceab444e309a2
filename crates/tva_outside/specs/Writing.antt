-- Kit: what a write to standard output answers, for the contracts of the functions that make one.
use Rattle.std.specs.Prelude.{◌≡◌, ◌≢◌, ℕ, ◌≤◌, List, [], length, Result, Ok, Err, None, Some}
use Rattle.std.specs.{declared.option.Option.Option, declared.io.Error.Error, IoError.error_kind}
use Rattle.std.specs.declared.io.ErrorKind.TheVariants as kind
use Rattle.tva_outside.specs.declared.sink.Wrote.{Wrote, TheVariants.Count, TheVariants.Failed, TheVariants.OutOfMemory}

-- a write that took something took no more than the piece, and something of a piece that isn't empty
abbrev pub TakesSome : List ℕ → Wrote → Type 0
TakesSome piece (Count n) = (n ≤ length piece) × (n ≡ 0 → piece ≡ [])
TakesSome piece Failed = Unit {0}
TakesSome piece OutOfMemory = Unit {0}

-- what a write answers where the system's ended so: its count, but that it fails where nothing is taken of a piece that isn't
-- empty; an error is a signal, and the write is made again, or want of memory, or a failure, by its kind
abbrev pub AnswersTo : List ℕ → Result ℕ Error → Option Wrote → Type 0
AnswersTo piece (Ok n) None = ⊥
AnswersTo piece (Ok n) (Some (Count m)) = (m ≡ n) × (n ≡ 0 → piece ≡ [])
AnswersTo piece (Ok n) (Some Failed) = (n ≡ 0) × (piece ≢ [])
AnswersTo piece (Ok n) (Some OutOfMemory) = ⊥
AnswersTo piece (Err error) None = error_kind error ≡ kind.Interrupted
AnswersTo piece (Err error) (Some (Count m)) = ⊥
AnswersTo piece (Err error) (Some Failed) = (error_kind error ≢ kind.Interrupted) × (error_kind error ≢ kind.OutOfMemory)
AnswersTo piece (Err error) (Some OutOfMemory) = error_kind error ≡ kind.OutOfMemory
