use Rattle.tva_outside.proofs.Common.{◌≡◌, ◌++◌, take}
use Rattle.tva_outside.specs.Seen.{all_behind}
use Rattle.tva_outside.proofs.seen.with_bytes.Given as goal

-- the bytes up to here are behind
abbrev pub invariant-loop-byte : goal.invariant-loop-byte
invariant-loop-byte l = all_behind l.all.value ≡ all_behind l.fn.seen.value ++ take l.byte-index l.bytes
