-- Crate: what a minter is: its master, its clock's offset and its last time.
use Rattle.std.specs.Prelude.{ℕ, ◌≤◌, List}
use Rattle.tva_base.specs.Clock.{router_second}

-- a router's minter: the master that its secrets come from, the nanoseconds that its clock is
-- ahead, and the time of its last call, at first 0
pub record MinterState : Type 0 where
  pub master : List ℕ
  pub clock_offset : ℕ
  pub last : ℕ

-- a minter may be called at that time
pub record MayCall (m : MinterState) (now : ℕ) : Type 0 where
  pub never_falls : m.last ≤ now
  pub bounded : now ≤ 1000000000000000

-- the router second of a minter at a time
abbrev pub second_at : MinterState → ℕ → ℕ
second_at m now = router_second m.clock_offset now
