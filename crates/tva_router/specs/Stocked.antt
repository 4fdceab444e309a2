-- Kit: a router with memory for packets by value.
use Rattle.std.specs.Prelude.{◌≡◌, ◌≤◌, ℕ, ◌+◌, List, [], ◌∷◌}
use Rattle.tva_base.specs.declared.limits.LinkLimits.{LinkLimits}
use Rattle.tva_flow.specs.Charges.{Charge}
use Rattle.tva_port.specs.Counts.{waiting_count, places_in, StockData}
use Rattle.tva_port.specs.Waiting.{waiting_after}
use Rattle.tva_router.specs.Handling.{PortLogs}
use Rattle.tva_router.specs.Stands.{RouterData, StandsFor}

-- how many packets wait for all links, and how many places there are
abbrev pub waiting_in : List (ℕ × LinkLimits) → PortLogs → ℕ
waiting_in [] logs = 0
waiting_in (o ∷ os) logs = waiting_count (waiting_after o.1 (logs o.0)) + waiting_in os logs

abbrev pub places_on : List (ℕ × LinkLimits) → ℕ
places_on [] = 0
places_on (o ∷ os) = places_in o.1 + places_on os

-- the router stands for charges and logs; with what waits there is memory for each place and one packet more, and there
-- is room for all
pub record IsStocked (v : RouterData) (stock : StockData) : Type 0 where
  pub charges : List Charge
  pub logs : PortLogs
  pub stands : StandsFor v charges logs
  pub count : stock.count + waiting_in v.plan.outgoing logs ≡ places_on v.plan.outgoing + 1
  pub room : places_on v.plan.outgoing + 1 ≤ stock.room
