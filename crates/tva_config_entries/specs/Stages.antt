-- Kit: the steps of reading, cut as the functions of the code take them.
use Rattle.std.specs.Prelude.{ℕ, List, [], length, map, nat_lt, Ok, codes}
use Rattle.toml.specs.{Data.Members, View.table_view}
use Rattle.tva_config_entries.specs.declared.faults.ConfigTable as tables
use Rattle.tva_config_entries.specs.declared.faults.ConfigTable.TheVariants as table
use Rattle.tva_config_entries.specs.declared.faults.ConfigRule.TheVariants as rule
use Rattle.tva_config_entries.specs.declared.{place.Place.Place, top.TopTable.TopTable}
use Rattle.tva_config_entries.specs.Faults.{Read, ◌>>=◌, at, top, fault_at, unless}
use Rattle.tva_config_entries.specs.Keys.{only_listed, required, optional}
use Rattle.tva_config_entries.specs.Entries.{router_of, host_of, link_of, route_of, restart_of, reroute_of}
use Rattle.tva_config_entries.specs.Tables.{top_keys, table_entries, ConfigEntries}
use Rattle.tva_config_entries.specs.Values as value

-- what the top level holds
pub record Top : Type 0 where
  pub horizon : ℕ
  pub max_events : ℕ
  pub version : ℕ
  pub routers : List Members
  pub hosts : List Members
  pub links : List Members
  pub routes : List Members
  pub restarts : List Members
  pub reroutes : List Members

-- what a top level of the code stands for
abbrev pub seen_top : TopTable → Top
seen_top t = record {
  horizon = t.horizon;
  max_events = t.max_events;
  version = t.version;
  routers = map (λ m. table_view m.now) t.routers.items;
  hosts = map (λ m. table_view m.now) t.hosts.items;
  links = map (λ m. table_view m.now) t.links.items;
  routes = map (λ m. table_view m.now) t.routes.items;
  restarts = map (λ m. table_view m.now) t.restarts.items;
  reroutes = map (λ m. table_view m.now) t.reroutes.items;
}

-- its tables, behind its numbers
unfoldable pub tables_of : ℕ → ℕ → ℕ → Members → Read Top
tables_of horizon max_events version ms = do
  routers ← optional top ms (codes "router") value.tables []
  hosts ← optional top ms (codes "host") value.tables []
  links ← optional top ms (codes "link") value.tables []
  routes ← optional top ms (codes "route") value.tables []
  restarts ← optional top ms (codes "restart") value.tables []
  reroutes ← optional top ms (codes "reroute") value.tables []
  Ok (record {
    horizon = horizon;
    max_events = max_events;
    version = version;
    routers = routers;
    hosts = hosts;
    links = links;
    routes = routes;
    restarts = restarts;
    reroutes = reroutes;
  })

unfoldable pub top_of : Members → Read Top
top_of ms = do
  known ← only_listed top top_keys ms
  horizon ← required top ms (codes "horizon_ns") (value.number 0 1000000000000000)
  max_events ← required top ms (codes "max_events") (value.number 1 4000000)
  version ← optional top ms (codes "version") (value.number 1 2) 1
  tables_of horizon max_events version ms

-- there are not too many entries
unfoldable pub counts_of : ℕ → ℕ → ℕ → ℕ → ℕ → Read (Unit {0})
counts_of nodes links routes restarts reroutes = do
  few_nodes ← unless (nat_lt 1024 nodes) (fault_at (at table.Host 0) rule.Count (codes "-"))
  few_links ← unless (nat_lt 4096 links) (fault_at (at table.Link 0) rule.Count (codes "-"))
  few_routes ← unless (nat_lt 65536 routes) (fault_at (at table.Route 0) rule.Count (codes "-"))
  few_restarts ← unless (nat_lt 65536 restarts) (fault_at (at table.Restart 0) rule.Count (codes "-"))
  unless (nat_lt 65536 reroutes) (fault_at (at table.Reroute 0) rule.Count (codes "-"))

-- the entry at the next place of a table
abbrev pub entry_step : {A : Type 0} → tables.ConfigTable → (Place → Members → Read A) → List A → Members → Read A
entry_step t entry_of done members = entry_of (at t (length done)) members

-- the entries of all tables, in order
unfoldable pub all_entries_of : Top → Read ConfigEntries
all_entries_of t = do
  routers ← table_entries table.Router router_of t.routers
  hosts ← table_entries table.Host (host_of t.version) t.hosts
  links ← table_entries table.Link link_of t.links
  routes ← table_entries table.Route route_of t.routes
  restarts ← table_entries table.Restart restart_of t.restarts
  reroutes ← table_entries table.Reroute reroute_of t.reroutes
  Ok (record {
    horizon = t.horizon;
    max_events = t.max_events;
    routers = routers;
    hosts = hosts;
    links = links;
    routes = routes;
    restarts = restarts;
    reroutes = reroutes;
  })
