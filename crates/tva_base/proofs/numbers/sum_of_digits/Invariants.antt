use Rattle.tva_base.proofs.Common.{◌≡◌, take, number_in}
use Rattle.tva_base.proofs.numbers.sum_of_digits.Given as goal

-- the digits that were passed are counted
abbrev pub invariant-loop-byte : goal.invariant-loop-byte
invariant-loop-byte l = l.number ≡ number_in (take l.byte-index l.text)
