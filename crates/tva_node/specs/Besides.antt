-- Kit: what a node keeps besides what its callers are told, by the log for which it stands.
use Rattle.std.specs.Prelude.{◌≡◌, ℕ, ◌≤◌, List, All, map, take, Some}
use Rattle.std.specs.List.{AllByRecursion}
use Rattle.tva_base.specs.Changes.{boot_at}
use Rattle.tva_base.specs.Ordinals.{ordinal_behind}
use Rattle.tva_base.specs.Plan.{IsRouterPlan}
use Rattle.tva_port.specs.Stands as port
use Rattle.tva_router.specs.Boots.{charges_of_boot}
use Rattle.tva_router.specs.Stands as router
use Rattle.tva_transfer.specs.Stands as courier
use Rattle.tva_run.specs.Sites.{Site, limits_out}
use Rattle.tva_run.specs.Entries.{Entry, input_time}
use Rattle.tva_run.specs.Parts.{port_logs, charges, count_of_rows, calls, acts}
use Rattle.tva_run.specs.NodeLog.{in_turn, due}
use Rattle.tva_run.specs.Next.{next_on}
use Rattle.tva_node.specs.declared.role.Role.{Role}
use Rattle.tva_node.specs.declared.role.Role.TheVariants as roles
use Rattle.tva_node.specs.declared.role.Routed.{Routed}
use Rattle.tva_node.specs.declared.role.Hosted.{Hosted}
use Rattle.tva_node.specs.declared.links.Link.{Link}
use Rattle.tva_node.specs.Pairs.{link_pair}
use Rattle.tva_node.specs.Changes.{AreByTime, AreMade, move_time, plan_after, restart_time}
use Rattle.tva_node.specs.Nodes.{AreLeft, Fits, NodeState, role_plan}

-- ## a router or a host

-- a router stands for the charges of its boot and the logs of the node's log, in which nothing is charged in a later
-- boot, and knows the ordinal behind the rows
pub record StandsAsRouter (r : Routed) (log : List Entry) : Type 0 where
  pub router : router.StandsFor r.router (charges_of_boot r.router.built r.changes.boot (charges log)) (port_logs log)
  pub boots : AllByRecursion (λ c. boot_at r.router.built c.time ≤ r.changes.boot) (charges log)
  pub next : r.next ≡ ordinal_behind (count_of_rows log)

-- a host stands for its calls and its files, and the port of its one link for that link's log
pub record StandsAsHost (site : Site) (h : Hosted) (log : List Entry) : Type 0 where
  pub courier : courier.StandsFor h.courier (calls log) (acts log)
  pub node : h.courier.host.node ≡ site.number
  pub uplink : h.uplink ≡ h.courier.host.plan.uplink
  pub limits : limits_out site h.uplink ≡ Some (h.uplink, h.port.limits)
  pub port : port.StandsFor h.port (port_logs log h.uplink)

-- a router or a host stands for a node's log
abbrev pub RoleStands : Site → Role → List Entry → Type 0
RoleStands site (roles.Router r) log = StandsAsRouter r log
RoleStands site (roles.Host h) log = StandsAsHost site h log

-- a router was called no later than that; of the changes of its plan the first ones are made, none of which is later
-- than that, and they are in force
pub record IsRoutedBy (now : ℕ) (r : Routed) : Type 0 where
  pub last : r.router.last ≤ now
  pub valid : IsRouterPlan r.router.built
  pub moves : AreByTime r.router.built.reroutes r.changes.moves.items
  pub restarted : AreMade restart_time r.router.built.restarts r.changes.boot now
  pub moved : AreMade move_time r.changes.moves.items r.changes.moved now
  pub plan : r.router.plan ≡ plan_after r.router.built r.changes.boot (take r.changes.moved r.changes.moves.items)

-- it was called no later than that
abbrev pub IsBy : ℕ → Role → Type 0
IsBy now (roles.Router r) = IsRoutedBy now r
IsBy now (roles.Host h) = (h.courier.host.last ≤ now) × (h.port.last ≤ now)

-- ## a node

-- the link knows when it decides next by itself, from that time on
abbrev pub KnowsNext : Site → List Entry → ℕ → Link → Type 0
KnowsNext site log from link = link.next ≡ next_on site log from link.number

-- what the node keeps besides stands for the log: its router or host, whose plan is the site's as its links are, and
-- which was called no later than the time up to which the node is worked; each link knows when it decides next; and of
-- the inputs, each of which the node can take, those wait that are not taken by then
pub record StandsBesides (v : NodeState) (log : List Entry) : Type 0 where
  pub plan : v.site.plan ≡ role_plan v.role
  pub out : v.site.links ≡ map link_pair v.links
  pub role : RoleStands v.site v.role log
  pub past : IsBy v.worked_to v.role
  pub links : All (KnowsNext v.site log v.worked_to) v.links
  pub fits : All (λ i. (input_time i ≤ v.horizon) × Fits v.site.plan i) v.inbox
  pub left : AreLeft v.inbox (due v.worked_to (in_turn v.inbox)) v.waiting
