-- Kit: the steps of the plan, cut as the functions of the code take them.
use Rattle.std.specs.Prelude.{ℕ, ◌+◌, ◌==◌, Bool, List, [], ◌∷◌, ◌++◌, length, nat_lt, if◌then◌else◌, option_and_then, Ok, Option, Some, None, codes}
use Rattle.std.specs.List.{filter_map}
use Rattle.tva_base.specs.declared.{addresses.Address.Address, addresses.Prefix.Prefix, packet.Time.Time}
use Rattle.tva_base.specs.declared.plan.{LinkPlan.LinkPlan, Route.Route}
use Rattle.tva_plan.specs.declared.config.Config.{Config}
use Rattle.tva_plan.specs.declared.config.NodePlan as nodes
use Rattle.tva_plan.specs.declared.config.NodePlan.TheVariants as node
use Rattle.tva_config_entries.specs.declared.faults.ConfigTable.TheVariants as table
use Rattle.tva_config_entries.specs.declared.faults.ConfigRule.TheVariants as rule
use Rattle.tva_config_entries.specs.declared.entries.{RouterEntry.RouterEntry, HostEntry.HostEntry, LinkEntry.LinkEntry, RouteEntry.RouteEntry, RestartEntry.RestartEntry}
use Rattle.tva_config_entries.specs.declared.entries.RerouteEntry.{RerouteEntry}
use Rattle.tva_config.specs.declared.joined.{OwnedRoute.OwnedRoute, OwnedRestart.OwnedRestart}
use Rattle.tva_config.specs.declared.joined.OwnedReroute.{OwnedReroute}
use Rattle.tva_config_entries.specs.Faults.{Read, ◌>>=◌, at, fault_at, unless, found, in_turn}
use Rattle.tva_config_entries.specs.Tables.{ConfigEntries}
use Rattle.tva_plan.specs.Wiring.{links_from, all_places}
use Rattle.tva_config.specs.Nodes.{node_names, node_of, name_step, address_step, retry_step, all_slots}
use Rattle.tva_config.specs.Links.{link_between, link_step, only, uplink_step}
use Rattle.tva_config.specs.{Routes.is_for, Routes.route_step, Changes.restart_step, Changes.reroute_step}
use Rattle.tva_config.specs.Read.{Owned, router_plans, host_plan}

-- the steps over the names of all nodes
unfoldable pub names_of : List RouterEntry → List HostEntry → Read (List (List ℕ))
names_of routers hosts = in_turn (name_step (length routers)) [] (node_names routers hosts)

-- the steps over the addresses of hosts
unfoldable pub addresses_of : List HostEntry → Read (List Address)
addresses_of hosts = in_turn address_step [] hosts

-- the steps over the times of hosts
unfoldable pub retries_of : List HostEntry → Read (List ℕ)
retries_of hosts = in_turn retry_step [] hosts

-- all routers together have at most 1,000,000 slots
unfoldable pub slots_of : List RouterEntry → Read (Unit {0})
slots_of routers = unless (nat_lt 1000000 (all_slots routers)) (fault_at (at table.Router 0) rule.Slots (codes "slots"))

-- the steps over links
unfoldable pub links_of : (List ℕ → Option ℕ) → List LinkEntry → Read (List LinkPlan)
links_of node links = in_turn (link_step node) [] links

-- the link out of a host
abbrev pub uplink_of : ℕ → List LinkPlan → ℕ → Read ℕ
uplink_of routers links host =
    found (only (links_from (routers + host) links)) (fault_at (at table.Host host) rule.Uplink (codes "name"))

-- the steps over the links out of hosts
unfoldable pub uplinks_of : ℕ → List LinkPlan → List HostEntry → Read (List ℕ)
uplinks_of routers links hosts = in_turn (uplink_step routers links) [] hosts

-- all links together have at most 1,000,000 places
unfoldable pub rings_of : List LinkPlan → Read (Unit {0})
rings_of links = unless (nat_lt 1000000 (all_places links)) (fault_at (at table.Link 0) rule.Rings (codes "-"))

-- the steps over routes
unfoldable pub routes_of : ℕ → (List ℕ → Option ℕ) → (ℕ → ℕ → Option ℕ) → List RouteEntry
    → Read (List OwnedRoute)
routes_of routers node link routes = in_turn (route_step routers node link) [] routes

-- the number of a router's link to the node of a name
abbrev pub link_to : (List ℕ → Option ℕ) → (ℕ → ℕ → Option ℕ) → ℕ → List ℕ → Option ℕ
link_to node link router name = option_and_then (link router) (node name)

-- the steps over restarts
unfoldable pub restarts_of : ℕ → (List ℕ → Option ℕ) → List RestartEntry → Read (List OwnedRestart)
restarts_of routers node restarts = in_turn (restart_step routers node) [] restarts

-- the restart is one of this router
abbrev pub is_restart_of : ℕ → OwnedRestart → Bool
is_restart_of router r = r.router == router

-- the change is one of this router for this prefix
abbrev pub is_reroute_of : ℕ → Prefix → OwnedReroute → Bool
is_reroute_of router prefix r = is_for router prefix r.owned

-- the steps over changes of routes
unfoldable pub reroutes_of : ℕ → (List ℕ → Option ℕ) → (ℕ → ℕ → Option ℕ) → List OwnedRoute → List RerouteEntry
    → Read (List OwnedReroute)
reroutes_of routers node link routes reroutes = in_turn (reroute_step routers node link routes) [] reroutes

-- the routes of a router
abbrev pub if_owned : ℕ → OwnedRoute → Option Route
if_owned router owned = if owned.router == router then Some owned.route else None

unfoldable pub routes_at : ℕ → List OwnedRoute → List Route
routes_at router routes = filter_map (if_owned router) routes

-- the restarts of a router
abbrev pub if_restart : ℕ → OwnedRestart → Option (Time × List ℕ)
if_restart router r = if r.router == router then Some (r.time, r.master) else None

unfoldable pub restarts_at : ℕ → List OwnedRestart → List (Time × List ℕ)
restarts_at router restarts = filter_map (if_restart router) restarts

-- the changes of a router's routes
abbrev pub if_reroute : ℕ → OwnedReroute → Option (Time × Prefix × ℕ)
if_reroute router r =
    if r.owned.router == router then Some (r.time, r.owned.route.prefix, r.owned.route.link) else None

unfoldable pub reroutes_at : ℕ → List OwnedReroute → List (Time × Prefix × ℕ)
reroutes_at router reroutes = filter_map (if_reroute router) reroutes

-- the plans of the hosts, each with its link out
abbrev pub host_plans : List HostEntry → List ℕ → List nodes.NodePlan
host_plans [] uplinks = []
host_plans (h ∷ hs) [] = []
host_plans (h ∷ hs) (uplink ∷ uplinks) = node.Host (host_plan h uplink) ∷ host_plans hs uplinks

-- the plan of what all steps gave
unfoldable pub config_of : ℕ → ℕ → List RouterEntry → List HostEntry
    → List LinkPlan → List ℕ → Owned → Config
config_of horizon max_events routers hosts links uplinks owned = record {
  horizon = record { 0 = horizon };
  max_events = max_events;
  nodes = router_plans links owned 0 routers ++ host_plans hosts uplinks;
  links = links;
}

-- what the steps across tables give
pub record Joined : Type 0 where
  pub links : List LinkPlan
  pub uplinks : List ℕ
  pub owned : Owned

-- the steps over routes, restarts and changes of routes, by the numbers of names and those of links
-- between nodes
unfoldable pub owned_of : ℕ → (List ℕ → Option ℕ) → (ℕ → ℕ → Option ℕ) → ConfigEntries → Read Owned
owned_of routers node link e = do
  routes ← routes_of routers node link e.routes
  restarts ← restarts_of routers node e.restarts
  reroutes ← reroutes_of routers node link routes e.reroutes
  Ok (record { routes = routes; restarts = restarts; reroutes = reroutes })

-- the steps across tables from the links on, by the numbers of names
unfoldable pub linked_of : (List ℕ → Option ℕ) → ConfigEntries → Read Joined
linked_of node e = do
  links ← links_of node e.links
  uplinks ← uplinks_of (length e.routers) links e.hosts
  owned ← owned_of (length e.routers) node (link_between links) e
  few_slots ← slots_of e.routers
  few_places ← rings_of links
  Ok (record { links = links; uplinks = uplinks; owned = owned })

-- the steps across tables, in their order
unfoldable pub joined_of : ConfigEntries → Read Joined
joined_of e = do
  names ← names_of e.routers e.hosts
  addresses ← addresses_of e.hosts
  retries ← retries_of e.hosts
  linked_of (node_of names) e

-- the plan of the entries, by these steps
unfoldable pub planned_of : ConfigEntries → Read Config
planned_of e = do
  j ← joined_of e
  Ok (config_of e.horizon e.max_events e.routers e.hosts j.links j.uplinks j.owned)
