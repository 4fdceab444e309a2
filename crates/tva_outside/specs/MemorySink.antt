-- Crate: what a sink in memory answers, exactly.
use Rattle.std.specs.Prelude.{◌≡◌, ℕ, min, Bool, true, false, List, ◌++◌, length, take}
use Rattle.tva_outside.specs.declared.sink.Wrote.{Wrote, TheVariants.Count, TheVariants.Failed, TheVariants.OutOfMemory}
use Rattle.tva_outside.specs.{Calls.is_due, Faults.one_more, SinkState.SinkState}

-- the next write is to fail
abbrev pub next_write_fails : SinkState → Bool
next_write_fails sink = is_due sink.failing (one_more sink.writes)

-- a sink after its next write: one write more, what it took stands last, and one fault more at a failure;
-- want of memory changes nothing
abbrev pub after_write : SinkState → List ℕ → Wrote → SinkState
after_write sink piece (Count n) = record sink { bytes = sink.bytes ++ take n piece; writes = one_more sink.writes }
after_write sink piece Failed = record sink { writes = one_more sink.writes; faults = one_more sink.faults }
after_write sink piece OutOfMemory = sink

-- what the next write answers
abbrev pub AnswersWrite : SinkState → List ℕ → Wrote → Type 0
AnswersWrite sink piece (Count n) = (next_write_fails sink ≡ false) × (n ≡ min sink.most (length piece))
AnswersWrite sink piece Failed = next_write_fails sink ≡ true
AnswersWrite sink piece OutOfMemory = next_write_fails sink ≡ false
