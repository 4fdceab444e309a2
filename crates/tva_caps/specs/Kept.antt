-- Crate: what a minter keeps beside what contracts see of it: the secrets of its epoch and of the one before.
use Rattle.std.specs.Prelude.{◌≡◌, ◌≤◌, ℕ, ◌-◌, List}
use Rattle.tva_base.specs.Clock.{router_second}
use Rattle.tva_caps.specs.Formula.{epoch_of, secret_of}
use Rattle.tva_caps.specs.declared.secrets.Secrets.{Secrets}
use Rattle.tva_caps.specs.declared.minters.Minter.TheInside.{Inside}

-- the kept secrets are those of their epoch and of the one before, if there is one
pub record AreSecrets (master : List ℕ) (s : Secrets) : Type 0 where
  pub current : s.current ≡ secret_of master s.epoch
  pub previous : s.previous ≡ secret_of master (s.epoch - 1)

-- the kept secrets are those of the minter's last time
pub record KeepsSecrets (m : Inside) : Type 0 where
  pub clock_offset : m.clock_offset ≤ 1000000000000000
  pub last : m.last.0 ≤ 1000000000000000
  pub epoch : m.secrets.epoch ≡ epoch_of (router_second m.clock_offset m.last.0)
  pub secrets : AreSecrets m.master m.secrets
