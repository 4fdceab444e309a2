-- Product: what stands in a text, or its first fault.
use Rattle.std.specs.Prelude.{ℕ, ◌+◌, List, [], length, if◌then◌else◌, Ok, Option, None, codes}
use Rattle.std.specs.Str.{is_utf8}
use Rattle.toml.specs.{Data.Members, Parse.parse_document}
use Rattle.tva_config_entries.specs.declared.faults.ConfigTable.TheVariants as table
use Rattle.tva_config_entries.specs.declared.faults.ConfigRule.TheVariants as rule
use Rattle.tva_config_entries.specs.Faults.{Read, ◌>>=◌, top, fault_at, found}
use Rattle.tva_config_entries.specs.Keys.{only_listed, required, optional}
use Rattle.tva_config_entries.specs.Values as value
use Rattle.tva_config_entries.specs.Entries.{router_of, host_of, link_of, route_of, restart_of, reroute_of}
use Rattle.tva_config_entries.specs.Tables.{top_keys, at_most, table_entries, ConfigEntries}

-- the keys of the top level, the sizes of its tables, and their entries, in the order of their faults
unfoldable pub members_read : Members → Read ConfigEntries
members_read ms = do
  known ← only_listed top top_keys ms
  horizon ← required top ms (codes "horizon_ns") (value.number 0 1000000000000000)
  max_events ← required top ms (codes "max_events") (value.number 1 4000000)
  version ← optional top ms (codes "version") (value.number 1 2) 1
  routers ← optional top ms (codes "router") value.tables []
  hosts ← optional top ms (codes "host") value.tables []
  links ← optional top ms (codes "link") value.tables []
  routes ← optional top ms (codes "route") value.tables []
  restarts ← optional top ms (codes "restart") value.tables []
  reroutes ← optional top ms (codes "reroute") value.tables []
  few_nodes ← at_most 1024 table.Host (length routers + length hosts)
  few_links ← at_most 4096 table.Link (length links)
  few_routes ← at_most 65536 table.Route (length routes)
  few_restarts ← at_most 65536 table.Restart (length restarts)
  few_reroutes ← at_most 65536 table.Reroute (length reroutes)
  each_router ← table_entries table.Router router_of routers
  each_host ← table_entries table.Host (host_of version) hosts
  each_link ← table_entries table.Link link_of links
  each_route ← table_entries table.Route route_of routes
  each_restart ← table_entries table.Restart restart_of restarts
  each_reroute ← table_entries table.Reroute reroute_of reroutes
  Ok (record {
    horizon = horizon;
    max_events = max_events;
    routers = each_router;
    hosts = each_host;
    links = each_link;
    routes = each_route;
    restarts = each_restart;
    reroutes = each_reroute;
  })

-- the table that `toml` gives for a text, if any
unfoldable pub document_of : List ℕ → Option Members
document_of text = if is_utf8 text then parse_document text else None

-- the entries of a text, or its first fault
unfoldable pub entries_read : List ℕ → Read ConfigEntries
entries_read text = found (document_of text) (fault_at top rule.Syntax (codes "-")) >>= members_read
