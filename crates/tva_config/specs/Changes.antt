-- Product: what restarts and changes of routes must be to the routers, the links, the routes and one another.
use Rattle.std.specs.Prelude.{ℕ, ◌==◌, ◌&&◌, nat_le, not, Bool, List, length, Ok, Option, codes}
use Rattle.std.specs.List.{list_any}
use Rattle.tva_base.specs.declared.addresses.Prefix.{Prefix}
use Rattle.tva_config_entries.specs.declared.faults.ConfigTable.TheVariants as table
use Rattle.tva_config_entries.specs.declared.faults.ConfigRule.TheVariants as rule
use Rattle.tva_config_entries.specs.declared.entries.{RestartEntry.RestartEntry, RerouteEntry.RerouteEntry}
use Rattle.tva_config.specs.declared.joined.{OwnedRoute.OwnedRoute, OwnedRestart.OwnedRestart}
use Rattle.tva_config.specs.declared.joined.OwnedReroute.{OwnedReroute}
use Rattle.tva_config_entries.specs.Faults.{Read, ◌>>=◌, at, fault_at, unless, found}
use Rattle.tva_config.specs.Routes.{router_named, is_for, resolved}

-- the restart is one of this router, at no smaller time
abbrev pub is_late_restart : ℕ → ℕ → OwnedRestart → Bool
is_late_restart router time r = (r.router == router) && nat_le time r.time.0

-- its router is one, and no earlier restart of the router is at a time that isn't smaller
abbrev pub restart_step : ℕ → (List ℕ → Option ℕ) → List OwnedRestart → RestartEntry → Read OwnedRestart
restart_step routers node earlier entry = do
  router ← found (router_named routers node entry.router)
      (fault_at (at table.Restart (length earlier)) rule.Owner (codes "router"))
  after ← unless (list_any (is_late_restart router entry.at) earlier)
      (fault_at (at table.Restart (length earlier)) rule.Times (codes "at_ns"))
  Ok (record { router = router; time = record { 0 = entry.at }; master = entry.master })

-- the change is one of this router for this prefix, at no smaller time
abbrev pub is_late_reroute : ℕ → Prefix → ℕ → OwnedReroute → Bool
is_late_reroute router prefix time r = is_for router prefix r.owned && nat_le time r.time.0

-- its router is one, which has a link to the next node and a route of the prefix, and no earlier change
-- of the router for the prefix is at a time that isn't smaller
abbrev pub reroute_step : ℕ → (List ℕ → Option ℕ) → (ℕ → ℕ → Option ℕ) → List OwnedRoute → List OwnedReroute
    → RerouteEntry → Read OwnedReroute
reroute_step routers node link routes earlier entry = do
  owned ← resolved (at table.Reroute (length earlier)) routers node link entry.route
  routed ← unless (not (list_any (is_for owned.router owned.route.prefix) routes))
      (fault_at (at table.Reroute (length earlier)) rule.Prefix (codes "prefix"))
  after ← unless (list_any (is_late_reroute owned.router owned.route.prefix entry.at) earlier)
      (fault_at (at table.Reroute (length earlier)) rule.Times (codes "at_ns"))
  Ok (record { time = record { 0 = entry.at }; owned = owned })
