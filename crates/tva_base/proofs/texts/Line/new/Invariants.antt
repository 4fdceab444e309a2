use Rattle.tva_base.proofs.Common.{◌≡◌, take}
use Rattle.tva_base.proofs.texts.Line.new.Given as goal

-- the bytes that were passed stand in the line
abbrev pub invariant-loop-byte : goal.invariant-loop-byte
invariant-loop-byte l = l.line.bytes ≡ take l.byte-index l.text
