-- Product: what a configuration is said to hold.
use Rattle.std.specs.Prelude.{ℕ, List, [], ◌∷◌, Bool, true, false, ◌||◌, length, sum_by}
use Rattle.std.specs.List.{list_any}
use Rattle.tva_plan.specs.declared.config.Config.{Config}
use Rattle.tva_plan.specs.declared.config.NodePlan as nodes
use Rattle.tva_plan.specs.declared.config.NodePlan.TheVariants as node
use Rattle.tva_plan.specs.Names.{is_host_plan}

-- the routes of a node, its restarts, the changes of its routes, and its slots
abbrev pub routes_in : nodes.NodePlan → ℕ
routes_in (node.Router p) = length p.routes
routes_in (node.Host p) = 0

abbrev pub restarts_in : nodes.NodePlan → ℕ
restarts_in (node.Router p) = length p.restarts
restarts_in (node.Host p) = 0

abbrev pub reroutes_in : nodes.NodePlan → ℕ
reroutes_in (node.Router p) = length p.reroutes
reroutes_in (node.Host p) = 0

abbrev pub slots_in : nodes.NodePlan → ℕ
slots_in (node.Router p) = p.slots
slots_in (node.Host p) = 0

-- the numbers of nodes, links, routes, restarts, changes of routes, and slots
abbrev pub node_count : Config → ℕ
node_count c = length c.nodes

abbrev pub link_count : Config → ℕ
link_count c = length c.links

abbrev pub route_count : Config → ℕ
route_count c = sum_by routes_in c.nodes

abbrev pub restart_count : Config → ℕ
restart_count c = sum_by restarts_in c.nodes

abbrev pub reroute_count : Config → ℕ
reroute_count c = sum_by reroutes_in c.nodes

abbrev pub slot_count : Config → ℕ
slot_count c = sum_by slots_in c.nodes

abbrev pub has_some : {A : Type 0} → List A → Bool
has_some [] = false
has_some (x ∷ xs) = true

-- whether there is a host or a link
abbrev pub has_host_or_link : Config → Bool
has_host_or_link c = list_any is_host_plan c.nodes || has_some c.links
