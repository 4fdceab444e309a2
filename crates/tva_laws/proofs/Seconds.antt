-- The arithmetic of times and seconds.
use Rattle.tva_laws.proofs.Common.{◌≤◌, ◌<◌, ℕ, ◌+◌, ◌*◌, arith, router_second}

pub second-mono : (offset a b : ℕ) → a ≤ b → router_second offset a ≤ router_second offset b
second-mono offset a b l = omega (arith, l)

pub second-later : (offset a b : ℕ) → a + 1000000000 ≤ b → router_second offset a < router_second offset b
second-later offset a b l = omega (arith, l)

pub second-within : (offset a b t : ℕ) → b + 1000000000 ≤ a + t * 1000000000 → router_second offset b < router_second offset a + t
second-within offset a b t l = omega (arith, l)
