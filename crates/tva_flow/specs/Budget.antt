-- Product: what no flow cache lets a grant exceed.
use Rattle.std.specs.Prelude.{ℕ, ◌+◌, ◌*◌, ◌<◌, ◌≤◌, List, All}
use Rattle.tva_base.specs.declared.packet.Grant.{Grant}
use Rattle.tva_base.specs.Clock.{router_second}
use Rattle.tva_flow.specs.Charges.{Charge, bytes_of}

-- under a clock that is so far ahead, that time lies in one of the grant's T seconds
pub record IsWithinSeconds (offset : ℕ) (now : ℕ) (g : Grant) : Type 0 where
  pub from : g.second ≤ router_second offset now
  pub until : router_second offset now < g.second + g.rights.t

-- each charge came in one of its grant's seconds
abbrev pub AreTimely : ℕ → List Charge → Type 0
AreTimely offset h = All (λ c. IsWithinSeconds offset c.time c.grant) h

-- each grant with a charge has charges of less than twice its N units of 1,024 bytes
abbrev pub IsWithinBudget : List Charge → Type 0
IsWithinBudget h = All (λ c. bytes_of c.grant h < 2 * (1024 * c.grant.rights.n)) h
