-- What every entry keeps that is read.
use Rattle.tva_config_entries.proofs.Common.{AreLinkLimits, IsPrefix, AreRights, IsVersion, RouterEntry, HostEntry, LinkEntry, RouteEntry, ConfigEntries, IsName, IsPolicyPlan}
use Rattle.std.specs.Prelude.{◌<◌, ◌≤◌, ◌^◌, ◌+◌, length}
use Rattle.std.specs.List.{All}

-- the ranges of an entry's name and numbers
pub record IsRouterEntry (r : RouterEntry) : Type 0 where
  pub name : IsName r.name
  pub slots : r.slots ≤ 1000000
  pub clock_offset : r.clock_offset ≤ 1000000000000000
  pub edge_tag : r.edge_tag < 2 ^ 16

pub record IsHostEntry (h : HostEntry) : Type 0 where
  pub name : IsName h.name
  pub nonce : h.nonce < 2 ^ 48
  pub margin : h.margin ≤ 1000000000000
  pub retry : h.retry ≤ 10000000000000
  pub version : IsVersion h.version
  pub rights : AreRights h.version h.policy.rights
  pub policy : IsPolicyPlan h.policy

pub record IsLinkEntry (l : LinkEntry) : Type 0 where
  pub delay : (1 ≤ l.delay) × (l.delay ≤ 1000000000000)
  pub tag : l.tag < 2 ^ 16
  pub limits : AreLinkLimits l.limits

abbrev pub IsRouteEntry : RouteEntry → Type 0
IsRouteEntry r = IsPrefix r.prefix

-- and what all of them keep, with the numbers beside them
pub record AreEntries (e : ConfigEntries) : Type 0 where
  pub horizon : e.horizon ≤ 1000000000000000
  pub events : (1 ≤ e.max_events) × (e.max_events ≤ 4000000)
  pub nodes : length e.routers + length e.hosts ≤ 1024
  pub few_links : length e.links ≤ 4096
  pub few_routes : length e.routes ≤ 65536
  pub few_restarts : length e.restarts ≤ 65536
  pub few_reroutes : length e.reroutes ≤ 65536
  pub routers : All IsRouterEntry e.routers
  pub hosts : All IsHostEntry e.hosts
  pub links : All IsLinkEntry e.links
  pub routes : All IsRouteEntry e.routes
