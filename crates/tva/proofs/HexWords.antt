-- A word of hexadecimal digits.
use Rattle.tva.proofs.Common.{◌≡◌, ℕ, ◌/◌, List, length, arith, nat_tests}
use Rattle.hex.specs.Hex.{decode_of, decode_sized}

-- room for half of the digits is what decoding takes
pub decode_sized_half : (word : List ℕ) → decode_sized word (length word / 2) ≡ decode_of word
decode_sized_half word = grind (arith, nat_tests)
