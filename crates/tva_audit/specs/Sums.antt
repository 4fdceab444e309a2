-- Product: what each router let through, in a run and as nodes tell it.
use Rattle.std.specs.Prelude.{ℕ, ◌<◌, List, map, Option, Some, None, IfSome}
use Rattle.std.specs.List.{filter_map}
use Rattle.tva_base.specs.declared.event.Event.{Event}
use Rattle.tva_flow.specs.Charges.{Charge}
use Rattle.tva_plan.specs.declared.config.Config.{Config}
use Rattle.tva_plan.specs.declared.config.NodePlan.{NodePlan}
use Rattle.tva_plan.specs.declared.config.NodePlan.TheVariants.{Router, Host}
use Rattle.tva_plan.specs.Wiring.{picked}
use Rattle.tva_run.specs.Entries.{Entry}
use Rattle.tva_run.specs.Parts.{charges}
use Rattle.tva_run.specs.Told.{at_time}
use Rattle.tva_run.specs.Reaching.{Logs, log_at}
use Rattle.tva_node.specs.States.{NodeState}
use Rattle.tva_report.specs.declared.charged.Charged.{Charged}
use Rattle.tva_report.specs.declared.sums.Sums.{Sums}
use Rattle.tva_report.specs.Charged.{charged_at, charges_in}
use Rattle.tva_report.specs.Sums.{limit_of, sums_of}
use Rattle.tva_audit.specs.declared.routers.RouterSum.{RouterSum}

abbrev pub numbered : ℕ → Sums → RouterSum
numbered node s =
    record { node = node; grants = s.grants; charges = s.charges; bytes = s.bytes; worst = s.worst }

-- ## in a run

-- a charge without its nonce
abbrev pub without_nonce : Charge → Charged
without_nonce c = charged_at (at_time c.time) c.length c.grant

-- the sums of a router with that number and log: over its charges, and by its restarts
abbrev pub sum_of_log : ℕ → NodePlan → List Entry → Option RouterSum
sum_of_log number (Router plan) log = Some (numbered number (sums_of plan.restarts (map without_nonce (charges log))))
sum_of_log number (Host plan) log = None

-- one for each router of a configuration, in the order of the nodes
abbrev pub run_sums : Config → Logs → List RouterSum
run_sums config logs = picked (λ number plan. sum_of_log number plan (log_at logs number)) 0 config.nodes

-- ## as nodes tell it

abbrev pub sum_told : ℕ → NodePlan → List Event → Option RouterSum
sum_told number (Router plan) told = Some (numbered number (sums_of plan.restarts (charges_in told)))
sum_told number (Host plan) told = None

-- one for each router among these nodes, in their order
abbrev pub sums_told : List NodeState → List RouterSum
sums_told nodes = filter_map (λ v. sum_told v.site.number v.site.plan v.events) nodes

-- ## what each sum is below

-- the worst grant has less than twice its units
abbrev pub IsBelowLimit : RouterSum → Type 0
IsBelowLimit s = IfSome s.worst (λ worst. worst.1 < limit_of worst.0)
