-- The number that a few bytes make.
use Rattle.tva_config_entries.proofs.Common.{◌<◌, ◌≤◌, ℕ, ◌^◌, arith}
use Rattle.std.proofs.Math.Nat.{pow-le-pow_right}

-- a number of at most five bytes is below 2^40
pub five_bytes : (i n : ℕ) → i < 6 → n < 256 ^ i → n < 2 ^ 40
five_bytes i n few below = let most : 256 ^ i ≤ 256 ^ 5 = pow-le-pow_right {n = 256} (omega arith) {i = i} {j = 5} (omega arith) in omega arith
