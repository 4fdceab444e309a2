-- How great a number in bytes is.
use Rattle.tva_trace.proofs.Common.{ℕ, zero, suc, ◌^◌, ◌<◌, List, arith, lit<, slice_index}
use Rattle.std.proofs.lemmas.Nat.{mul-add-lt}
use Rattle.byteorder.specs.Endian.{big_from}

-- a number in n bytes is below 256 ^ n
pub big_from-fits : (n i : ℕ) (xs : List ℕ) → ((k : ℕ) → slice_index xs k < 256) → big_from i n xs < 256 ^ n
big_from-fits zero i xs h = lit< tt
big_from-fits (suc n) i xs h = omega (arith, mul-add-lt (slice_index xs i) (256 ^ n) (big_from (suc i) n xs) 256 (h i) (big_from-fits n (suc i) xs h))
