use Rattle.tva.proofs.Common.{◌≡◌, take}
use Rattle.tva.proofs.command.shim_bytes.Given as goal

-- the bytes up to here are there
abbrev pub invariant-loop-byte : goal.invariant-loop-byte
invariant-loop-byte l = l.all.items ≡ take l.byte-index l.bytes
