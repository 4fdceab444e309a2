-- Product: the masters of routers, by their names.
use Rattle.std.specs.Prelude.{List, ℕ, Option, Some, None, slice_get}
use Rattle.std.specs.Option.{option_and_then}
use Rattle.tva_plan.specs.Names.{node_named}
use Rattle.tva_plan.specs.declared.config.NodePlan as node
use Rattle.tva_plan.specs.declared.config.NodePlan.TheVariants.{Router, Host}

abbrev pub master_in : node.NodePlan → Option (List ℕ)
master_in (Router plan) = Some plan.master
master_in (Host plan) = None

-- the master of the router of that number
abbrev pub router_master : List node.NodePlan → ℕ → Option (List ℕ)
router_master plans number = option_and_then master_in (slice_get plans number)

-- the master of the router that has a name
unfoldable pub master_named : List node.NodePlan → List ℕ → Option (List ℕ)
master_named plans name = option_and_then (router_master plans) (node_named plans name)
