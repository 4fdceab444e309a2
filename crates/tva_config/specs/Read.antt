-- Product: the plan of a text, or its first fault.
use Rattle.std.specs.Prelude.{ℕ, ◌+◌, ◌==◌, List, [], ◌∷◌, ◌++◌, map, length, nat_lt, if◌then◌else◌, Ok, Some, None, codes}
use Rattle.std.specs.List.{filter_map, zip}
use Rattle.tva_base.specs.declared.plan.{LinkPlan.LinkPlan, RouterPlan.RouterPlan, HostPlan.HostPlan}
use Rattle.tva_plan.specs.declared.config.Config.{Config}
use Rattle.tva_plan.specs.declared.config.NodePlan as nodes
use Rattle.tva_plan.specs.declared.config.NodePlan.TheVariants as node
use Rattle.tva_config_entries.specs.declared.entries.{RouterEntry.RouterEntry, HostEntry.HostEntry}
use Rattle.tva_config_entries.specs.declared.faults.ConfigTable.TheVariants as table
use Rattle.tva_config_entries.specs.declared.faults.ConfigRule.TheVariants as rule
use Rattle.tva_config.specs.declared.joined.{OwnedRoute.OwnedRoute, OwnedRestart.OwnedRestart}
use Rattle.tva_config.specs.declared.joined.OwnedReroute.{OwnedReroute}
use Rattle.tva_config_entries.specs.Faults.{Read, ◌>>=◌, at, fault_at, unless, in_turn}
use Rattle.tva_config_entries.specs.{Tables.ConfigEntries, Reading.entries_read}
use Rattle.tva_config.specs.Nodes.{node_names, node_of, name_step, address_step, retry_step, all_slots}
use Rattle.tva_config.specs.{Links.link_between, Links.link_step, Links.uplink_step, Routes.route_step}
use Rattle.tva_config.specs.Changes.{restart_step, reroute_step}
use Rattle.tva_plan.specs.Wiring.{incoming_of, outgoing_of, all_places}

-- the routes of all routers, their restarts and the changes of their routes
pub record Owned : Type 0 where
  pub routes : List OwnedRoute
  pub restarts : List OwnedRestart
  pub reroutes : List OwnedReroute

-- the plan of a router of that number
unfoldable pub router_plan : List LinkPlan → Owned → ℕ → RouterEntry → RouterPlan
router_plan links owned number r = record {
  name = r.name;
  master = r.master;
  clock_offset = r.clock_offset;
  slots = r.slots;
  edge_tag = r.edge_tag;
  incoming = incoming_of number links;
  outgoing = outgoing_of number links;
  routes = filter_map (λ o. if o.router == number then Some o.route else None) owned.routes;
  restarts = filter_map (λ b. if b.router == number then Some (b.time, b.master) else None) owned.restarts;
  reroutes = filter_map (λ c. if c.owned.router == number then Some (c.time, c.owned.route.prefix, c.owned.route.link)
      else None) owned.reroutes;
}

-- the plan of a host with that link out
unfoldable pub host_plan : HostEntry → ℕ → HostPlan
host_plan h uplink = record {
  name = h.name;
  address = h.address;
  nonce = h.nonce;
  margin = h.margin;
  retry = h.retry;
  version = h.version;
  policy = h.policy;
  uplink = uplink;
}

-- the plans of the routers, from that number on
abbrev pub router_plans : List LinkPlan → Owned → ℕ → List RouterEntry → List nodes.NodePlan
router_plans links owned number [] = []
router_plans links owned number (r ∷ rs) =
    node.Router (router_plan links owned number r) ∷ router_plans links owned (number + 1) rs

-- the plan of the entries, or the first fault between them
unfoldable pub plan_of : ConfigEntries → Read Config
plan_of e = do
  names ← in_turn (name_step (length e.routers)) [] (node_names e.routers e.hosts)
  addresses ← in_turn address_step [] e.hosts
  retries ← in_turn retry_step [] e.hosts
  links ← in_turn (link_step (node_of names)) [] e.links
  uplinks ← in_turn (uplink_step (length e.routers) links) [] e.hosts
  routes ← in_turn (route_step (length e.routers) (node_of names) (link_between links)) [] e.routes
  restarts ← in_turn (restart_step (length e.routers) (node_of names)) [] e.restarts
  reroutes ← in_turn (reroute_step (length e.routers) (node_of names) (link_between links) routes) [] e.reroutes
  few_slots ← unless (nat_lt 1000000 (all_slots e.routers)) (fault_at (at table.Router 0) rule.Slots (codes "slots"))
  few_places ← unless (nat_lt 1000000 (all_places links)) (fault_at (at table.Link 0) rule.Rings (codes "-"))
  Ok (record {
    horizon = record { 0 = e.horizon };
    max_events = e.max_events;
    nodes = router_plans links (record { routes = routes; restarts = restarts; reroutes = reroutes }) 0 e.routers
        ++ map (λ h. node.Host (host_plan h.0 h.1)) (zip e.hosts uplinks);
    links = links;
  })

-- the plan of a text, or the first fault in the stated order: those of keys and tables come first
unfoldable pub read_of : List ℕ → Read Config
read_of text = entries_read text >>= plan_of
