-- Crate: what a port keeps, and for which logs it stands.
use Rattle.std.specs.Prelude.{◌≡◌, ℕ, List}
use Rattle.tva_base.specs.declared.limits.LinkLimits.{LinkLimits}
use Rattle.tva_port.specs.Log.{Entry, NoneLater, free_after}
use Rattle.tva_port.specs.Waiting.{Waiting, waiting_after}
use Rattle.tva_port.specs.Decide.{credit_after}
use Rattle.tva_port.specs.Legal.{IsLegal}

-- a port: its limits, its last time and the credit of requests at that time, when its link is free,
-- and what waits. Times and the credit are in nanoseconds
pub record PortData : Type 0 where
  pub limits : LinkLimits
  pub last : ℕ
  pub credit : ℕ
  pub free_at : ℕ
  pub waiting : Waiting

abbrev pub port_data : LinkLimits → ℕ → ℕ → ℕ → Waiting → PortData
port_data limits last credit free_at waiting =
    record { limits = limits; last = last; credit = credit; free_at = free_at; waiting = waiting }

-- the port stands for this log: it is legal and has no entry later than the last time, and what
-- waits, the end of the last start and the credit are those after the log
pub record StandsFor (v : PortData) (log : List Entry) : Type 0 where
  pub past : NoneLater v.last log
  pub legal : IsLegal v.limits log
  pub waiting : v.waiting ≡ waiting_after v.limits log
  pub free : v.free_at ≡ free_after v.limits log
  pub credit : v.credit ≡ credit_after v.limits log v.last
