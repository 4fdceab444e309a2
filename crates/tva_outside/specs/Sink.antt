-- Product: what a write may answer, and what it appends.
use Rattle.std.specs.Prelude.{◌≡◌, ℕ, ◌<◌, ◌≤◌, List, [], length, take}
use Rattle.tva_outside.specs.declared.sink.Wrote as wrote
use Rattle.tva_outside.specs.declared.sink.Wrote.TheVariants as wrote_as
use Rattle.tva_outside.specs.declared.sink.Sent as sent_type
use Rattle.tva_outside.specs.declared.sink.Sent.TheVariants as sent_as
use Rattle.tva_outside.specs.Faults.{Rose}

-- the bytes of the piece that a write took
abbrev pub bytes_taken : wrote.Wrote → List ℕ → List ℕ
bytes_taken (wrote_as.Count n) piece = take n piece
bytes_taken wrote_as.Failed piece = []
bytes_taken wrote_as.OutOfMemory piece = []

-- what a write of the piece may answer, where the count of faults went from before to now: it rises at a failure, and
-- at nothing else
abbrev pub IsWrote : List ℕ → ℕ → ℕ → wrote.Wrote → Type 0
IsWrote piece before now (wrote_as.Count n) = (n ≤ length piece) × (n ≡ 0 → piece ≡ []) × (now ≡ before)
IsWrote piece before now wrote_as.Failed = Rose before now
IsWrote piece before now wrote_as.OutOfMemory = now ≡ before

-- those of the bytes that were written
abbrev pub sent : sent_type.Sent → List ℕ → List ℕ
sent sent_as.All bytes = bytes
sent (sent_as.Failed n) bytes = take n bytes
sent (sent_as.OutOfMemory n) bytes = take n bytes

-- what a call that is to write all of the bytes may answer, where the count of faults went from before to now
abbrev pub IsSent : List ℕ → ℕ → ℕ → sent_type.Sent → Type 0
IsSent bytes before now sent_as.All = now ≡ before
IsSent bytes before now (sent_as.Failed n) = (n < length bytes) × Rose before now
IsSent bytes before now (sent_as.OutOfMemory n) = (n < length bytes) × (now ≡ before)
