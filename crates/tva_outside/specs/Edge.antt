-- Crate: what there is to know of files and of standard output.
use Rattle.std.specs.Prelude.{ℕ, List}
use Rattle.tva_outside.specs.{Loads.Load, Faults.one_more}
use Rattle.tva_outside.specs.declared.shelf.Loaded as loaded
use Rattle.tva_outside.specs.declared.shelf.Loaded.TheVariants as loaded_as
use Rattle.tva_outside.specs.declared.sink.Wrote as wrote
use Rattle.tva_outside.specs.declared.sink.Wrote.TheVariants as wrote_as

-- how many loads failed, and what was asked for and given
pub record FilesState : Type 0 where
  pub faults : ℕ
  pub gave : List Load

-- how many writes failed, and the bytes that were taken
pub record OutputState : Type 0 where
  pub faults : ℕ
  pub took : List ℕ

-- the count after a load: one more at a failure, and at nothing else
abbrev pub faults_after_load : ℕ → loaded.Loaded → ℕ
faults_after_load faults (loaded_as.Bytes bytes) = faults
faults_after_load faults loaded_as.Failed = one_more faults
faults_after_load faults (loaded_as.TooLarge k) = faults
faults_after_load faults loaded_as.OutOfMemory = faults

-- the count after a write: one more at a failure, and at nothing else
abbrev pub faults_after_write : ℕ → wrote.Wrote → ℕ
faults_after_write faults (wrote_as.Count n) = faults
faults_after_write faults wrote_as.Failed = one_more faults
faults_after_write faults wrote_as.OutOfMemory = faults
