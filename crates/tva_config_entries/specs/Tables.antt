-- Product: the keys of the top level, how many entries there may be, and its entries one by one.
use Rattle.std.specs.Prelude.{ℕ, List, [], ◌∷◌, length, nat_lt, codes}
use Rattle.toml.specs.Data.{Members}
use Rattle.tva_config_entries.specs.declared.faults.ConfigTable as tables
use Rattle.tva_config_entries.specs.declared.faults.ConfigRule.TheVariants as rule
use Rattle.tva_config_entries.specs.declared.{place.Place.Place, entries.RouterEntry.RouterEntry}
use Rattle.tva_config_entries.specs.declared.entries.{HostEntry.HostEntry, LinkEntry.LinkEntry, RouteEntry.RouteEntry, RestartEntry.RestartEntry, RerouteEntry.RerouteEntry}
use Rattle.tva_config_entries.specs.Faults.{Read, at, fault_at, unless, in_turn}

-- the keys of the top level
abbrev pub top_keys : List (List ℕ)
top_keys = codes "horizon_ns" ∷ codes "max_events" ∷ codes "version"
    ∷ codes "router" ∷ codes "host" ∷ codes "link" ∷ codes "route" ∷ codes "restart" ∷ codes "reroute" ∷ []

-- a count is at most so great, or it is a fault at the first entry of a table
abbrev pub at_most : ℕ → tables.ConfigTable → ℕ → Read (Unit {0})
at_most most t count = unless (nat_lt most count) (fault_at (at t 0) rule.Count (codes "-"))

-- the entries of a table, in order
unfoldable pub table_entries : {A : Type 0} → tables.ConfigTable → (Place → Members → Read A) → List Members
    → Read (List A)
table_entries t entry_of tables = in_turn (λ done ms. entry_of (at t (length done)) ms) [] tables

-- what stands in a configuration: its numbers, and the entries of all tables
pub record ConfigEntries : Type 0 where
  pub horizon : ℕ
  pub max_events : ℕ
  pub routers : List RouterEntry
  pub hosts : List HostEntry
  pub links : List LinkEntry
  pub routes : List RouteEntry
  pub restarts : List RestartEntry
  pub reroutes : List RerouteEntry
