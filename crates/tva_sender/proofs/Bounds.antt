-- How far a packet moves the life of a grant.
use Rattle.tva_sender.proofs.Common.{ℕ, ◌+◌, ◌*◌, ◌^◌, ◌<◌, ◌≤◌, max, arith, mul-le-mul_left}

pub le-mul_some : (a b : ℕ) → 1 ≤ b → a ≤ a * (1024 * b)
le-mul_some a b some = grind (arith, mul-le-mul_left)

-- a byte adds less than 2^38 nanoseconds
pub credit_small : (bytes t credit : ℕ) → t < 2 ^ 8 → credit ≤ bytes * t * 1000000000 → credit ≤ bytes * 2 ^ 38
credit_small bytes t credit few least = grind (arith, mul-le-mul_left)

-- the life stays near where the packet's credit is added
pub life_near : (last life used bytes credit : ℕ) → life ≤ last + used * 2 ^ 38 → credit ≤ bytes * 2 ^ 38 → max life last + credit ≤ last + (used + bytes) * 2 ^ 38
life_near last life used bytes credit near small = omega arith
