-- Crate: what a router keeps, and for which charges and logs it stands.
use Rattle.std.specs.Prelude.{◌≡◌, ◌≤◌, ℕ, ◌==◌, if◌then◌else◌, List, [], ◌∷◌, ◌++◌, All}
use Rattle.tva_base.specs.declared.limits.LinkLimits.{LinkLimits}
use Rattle.tva_base.specs.declared.plan.RouterPlan.{RouterPlan}
use Rattle.tva_base.specs.Plan.{IsRouterPlan}
use Rattle.tva_base.specs.Changes.{changed_plan}
use Rattle.tva_caps.specs.Minting.{MinterState}
use Rattle.tva_flow.specs.Charges.{Charge}
use Rattle.tva_flow.specs.Budget.{AreTimely}
use Rattle.tva_flow.specs.Stands as flows
use Rattle.tva_port.specs.declared.decision.Decision.{Decision}
use Rattle.tva_port.specs.Decide.{started_by}
use Rattle.tva_port.specs.Stands as port
use Rattle.tva_router.specs.Key.{flow_key}
use Rattle.tva_router.specs.Handling.{PortLogs}

-- a router: the plan by which it was built and the plan in force, its last time in nanoseconds, its minter,
-- its flow cache, and the port of each outgoing link, in their order
pub record RouterData : Type 0 where
  pub built : RouterPlan
  pub plan : RouterPlan
  pub last : ℕ
  pub minter : MinterState
  pub cache : flows.Cache
  pub ports : List port.PortData

abbrev pub router_data : (built plan : RouterPlan) → ℕ → MinterState → flows.Cache → List port.PortData → RouterData
router_data built plan last minter cache ports =
    record { built = built; plan = plan; last = last; minter = minter; cache = cache; ports = ports }

-- the plan in force is valid, and is the one by which the router was built but for its master and its routes; the
-- minter and the cache with its key are those of the plan in force, and neither the cache nor a port was called later
-- than the router
pub record IsByPlan (v : RouterData) : Type 0 where
  pub valid : IsRouterPlan v.plan
  pub in_force : v.plan ≡ changed_plan v.plan.master v.plan.routes v.built
  pub master : v.minter.master ≡ v.plan.master
  pub clock : v.minter.clock_offset ≡ v.plan.clock_offset
  pub key : v.cache.key ≡ flow_key v.plan.master
  pub slots : v.cache.slots ≡ v.plan.slots
  pub offset : v.cache.offset ≡ v.plan.clock_offset
  pub charged : v.cache.last ≤ v.last
  pub ports : All (λ p. p.last ≤ v.last) v.ports

-- each outgoing link's port has the link's limits, and stands for the link's log
abbrev pub StandForLogs : List (ℕ × LinkLimits) → List port.PortData → PortLogs → Type 0
StandForLogs [] ports logs = Unit {0}
StandForLogs (o ∷ os) [] logs = ⊥
StandForLogs (o ∷ os) (p ∷ ps) logs = (p.limits ≡ o.1) × port.StandsFor p (logs o.0) × StandForLogs os ps logs

-- the router stands for these charges and logs: it is one of its plan, its cache stands for the charges,
-- each of which came in one of its grant's seconds, and each port for its link's log
pub record StandsFor (v : RouterData) (h : List Charge) (logs : PortLogs) : Type 0 where
  pub plan : IsByPlan v
  pub charges : flows.StandsFor v.cache h
  pub timely : AreTimely v.plan.clock_offset h
  pub links : StandForLogs v.plan.outgoing v.ports logs

-- the logs with what was added to each
infixl 20 ◌with◌
abbrev pub ◌with◌ : PortLogs → PortLogs → PortLogs
(logs with added) k = logs k ++ added k

-- when an outgoing link is free, and 0 where there is no such link
abbrev pub free_in : List (ℕ × LinkLimits) → List port.PortData → ℕ → ℕ
free_in [] ports link = 0
free_in (o ∷ os) [] link = 0
free_in (o ∷ os) (p ∷ ps) link = if o.0 == link then p.free_at else free_in os ps link

abbrev pub free_of : RouterData → ℕ → ℕ
free_of v link = free_in v.plan.outgoing v.ports link

-- what a decision on a link adds to the log of each
abbrev pub started_on : ℕ → Decision → ℕ → PortLogs
started_on link d now k = if k == link then started_by d now else []
