-- Quotients that are rounded up.
use Rattle.tva_drr.proofs.Common.{◌≡◌, ℕ, ◌+◌, ◌-◌, ◌*◌, ◌<◌, ◌≤◌, inl, inr, ap, arith, div_ceil, mul-le-mul_right, add-mul, cases_lt, nat_tests}
use Rattle.std.proofs.lemmas.Grind.{div_ceil_times}

mul_by : (a b q : ℕ) → a ≡ b → a * q ≡ b * q
mul_by a b q e = ap (λ z. z * q) e

pub ceil_times : (a q : ℕ) → 1 ≤ q → (a ≤ div_ceil a q * q) × (div_ceil a q * q < a + q)
ceil_times a q h = div_ceil_times a q (omega arith)

-- it is the least number of times that is enough
pub ceil_least : (a t q : ℕ) → 1 ≤ q → a ≤ t * q → div_ceil a q ≤ t
ceil_least a t q h k = grind (arith, nat_tests, cases_lt, div_ceil, mul-le-mul_right, add-mul, ceil_times)

pub ceil_le : (a b q : ℕ) → 1 ≤ q → a ≤ b → div_ceil a q ≤ div_ceil b q
ceil_le a b q h k = ceil_least a (div_ceil b q) q h (omega (arith, k, (ceil_times b q h).0))

pub ceil_some : (a q : ℕ) → 1 ≤ q → 1 ≤ a → 1 ≤ div_ceil a q
ceil_some a q h k = grind (arith, nat_tests, cases_lt, div_ceil, mul-le-mul_right, ceil_times)

-- a whole part less is one less
pub ceil_less : (a q : ℕ) → 1 ≤ q → div_ceil (a - q) q ≡ div_ceil a q - 1
ceil_less a q h =
    let up : div_ceil a q ≤ div_ceil (a - q) q + 1 = ceil_least a (div_ceil (a - q) q + 1) q h (omega (arith, (ceil_times (a - q) q h).0, add-mul (div_ceil (a - q) q) 1 q)) in
    let down : div_ceil (a - q) q ≤ div_ceil a q - 1 = ceil_least (a - q) (div_ceil a q - 1) q h
    (elim (cases_lt 0 (div_ceil a q)) [
      | inl y ↦ omega (arith, (ceil_times a q h).0, add-mul (div_ceil a q - 1) 1 q, (let e : div_ceil a q - 1 + 1 ≡ div_ceil a q = omega arith in mul_by (div_ceil a q - 1 + 1) (div_ceil a q) q e))
      | inr y ↦ (let m = mul-le-mul_right q y in omega (arith, m, (ceil_times a q h).0))
    ]) in
    omega arith
