-- Crate: what the values of the code stand for.
use Rattle.tva_config_entries.specs.{declared.entries.EntryLists.EntryLists, Tables.ConfigEntries}

abbrev pub seen_entries : EntryLists → ConfigEntries
seen_entries e = record {
  horizon = e.horizon;
  max_events = e.max_events;
  routers = e.routers.items;
  hosts = e.hosts.items;
  links = e.links.items;
  routes = e.routes.items;
  restarts = e.restarts.items;
  reroutes = e.reroutes.items;
}
