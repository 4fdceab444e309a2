-- Product: what routes must be to the nodes, the links and one another.
use Rattle.std.specs.Prelude.{ℕ, ◌==◌, ◌&&◌, Bool, List, length, nat_lt, if◌then◌else◌, option_and_then, Ok, Option, Some, None, codes}
use Rattle.std.specs.List.{list_any}
use Rattle.tva_base.specs.declared.addresses.Prefix.{Prefix}
use Rattle.tva_config_entries.specs.declared.faults.ConfigTable.TheVariants as table
use Rattle.tva_config_entries.specs.declared.faults.ConfigRule.TheVariants as rule
use Rattle.tva_config_entries.specs.declared.{place.Place.Place, entries.RouteEntry.RouteEntry}
use Rattle.tva_config.specs.declared.joined.OwnedRoute.{OwnedRoute}
use Rattle.tva_config_entries.specs.Faults.{Read, ◌>>=◌, at, fault_at, unless, found}

-- the number of the router of a name, where so many nodes are routers
abbrev pub router_named : ℕ → (List ℕ → Option ℕ) → List ℕ → Option ℕ
router_named routers node name = option_and_then (λ n. if nat_lt n routers then Some n else None) (node name)

-- the route is one of this router for this prefix
abbrev pub is_for : ℕ → Prefix → OwnedRoute → Bool
is_for router prefix owned =
    (owned.router == router) && (owned.route.prefix.address.0 == prefix.address.0)
    && (owned.route.prefix.bits == prefix.bits)

-- its router is one, which has a link to the next node, by the numbers of names and those of links
-- between nodes
abbrev pub resolved : Place → ℕ → (List ℕ → Option ℕ) → (ℕ → ℕ → Option ℕ) → RouteEntry
    → Read OwnedRoute
resolved place routers node link entry = do
  router ← found (router_named routers node entry.router) (fault_at place rule.Owner (codes "router"))
  out ← found (option_and_then (link router) (node entry.via)) (fault_at place rule.Via (codes "via"))
  Ok (record { router = router; route = record { prefix = entry.prefix; link = out } })

-- and no earlier route of the router is for the same prefix
abbrev pub route_step : ℕ → (List ℕ → Option ℕ) → (ℕ → ℕ → Option ℕ) → List OwnedRoute → RouteEntry
    → Read OwnedRoute
route_step routers node link earlier entry = do
  owned ← resolved (at table.Route (length earlier)) routers node link entry
  apart ← unless (list_any (is_for owned.router owned.route.prefix) earlier)
      (fault_at (at table.Route (length earlier)) rule.Prefix (codes "prefix"))
  Ok owned
