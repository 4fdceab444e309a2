-- Product: what the nodes must be to one another: names, addresses and times; and the sum of slots.
use Rattle.std.specs.Prelude.{ℕ, ◌+◌, ◌-◌, ◌==◌, List, ◌++◌, map, length, nat_lt, sum_by, if◌then◌else◌, Ok, Option, codes}
use Rattle.std.specs.{List.list_any, List.position_from, Str.bytes_eq}
use Rattle.tva_base.specs.declared.addresses.Address.{Address}
use Rattle.tva_config_entries.specs.declared.faults.ConfigTable.TheVariants as table
use Rattle.tva_config_entries.specs.declared.faults.ConfigRule.TheVariants as rule
use Rattle.tva_config_entries.specs.declared.{place.Place.Place, entries.RouterEntry.RouterEntry}
use Rattle.tva_config_entries.specs.declared.entries.HostEntry.{HostEntry}
use Rattle.tva_config_entries.specs.Faults.{Read, ◌>>=◌, at, fault_at, unless}

-- the names of all nodes, in the order of their numbers
abbrev pub node_names : List RouterEntry → List HostEntry → List (List ℕ)
node_names routers hosts = map (λ r. r.name) routers ++ map (λ h. h.name) hosts

-- the number of the node of a name
abbrev pub node_of : List (List ℕ) → List ℕ → Option ℕ
node_of names name = position_from (bytes_eq name) 0 names

-- the entry of a node, where so many are routers
abbrev pub node_place : ℕ → ℕ → Place
node_place routers node = if nat_lt node routers then at table.Router node else at table.Host (node - routers)

-- a name that no earlier node has
abbrev pub name_step : ℕ → List (List ℕ) → List ℕ → Read (List ℕ)
name_step routers earlier name = do
  apart ← unless (list_any (bytes_eq name) earlier)
      (fault_at (node_place routers (length earlier)) rule.Names (codes "name"))
  Ok name

-- an address that no earlier host has
abbrev pub address_step : List Address → HostEntry → Read Address
address_step earlier host = do
  apart ← unless (list_any (λ a. a.0 == host.address.0) earlier)
      (fault_at (at table.Host (length earlier)) rule.Addresses (codes "address"))
  Ok host.address

-- a host asks again only a second and its margin later
abbrev pub retry_step : List ℕ → HostEntry → Read ℕ
retry_step earlier host = do
  late ← unless (nat_lt host.retry (1000000000 + host.margin))
      (fault_at (at table.Host (length earlier)) rule.Retry (codes "retry_ns"))
  Ok host.retry

-- the slots of all routers together
abbrev pub all_slots : List RouterEntry → ℕ
all_slots routers = sum_by (λ r. r.slots) routers
