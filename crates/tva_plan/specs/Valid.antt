-- Crate: what every configuration keeps that a network can be built from.
use Rattle.std.specs.Prelude.{◌≡◌, ◌<◌, ◌≤◌, ◌+◌, ℕ, List, [], ◌∷◌, All, true, length, map}
use Rattle.std.specs.List.{list_all}
use Rattle.tva_base.specs.declared.{addresses.Address.Address, plan.LinkPlan.LinkPlan, plan.PolicyPlan.PolicyPlan}
use Rattle.tva_base.specs.Plan.{AreLinkLimits, AreDistinct, IsRouterPlan, IsHostPlan}
use Rattle.tva_plan.specs.{declared.config.Config.Config, Names.is_name_byte, Names.name_at, Names.is_host_plan}
use Rattle.tva_plan.specs.Counts.{node_count, link_count, route_count, restart_count, reroute_count, slot_count}
use Rattle.tva_plan.specs.Wiring.{links_from, all_places, incoming_of, outgoing_of}
use Rattle.tva_plan.specs.declared.config.NodePlan as nodes
use Rattle.tva_plan.specs.declared.config.NodePlan.TheVariants as node

-- a name: 1 to 16 letters, digits, `_` and `-`
pub record IsName (text : List ℕ) : Type 0 where
  pub size : (1 ≤ length text) × (length text ≤ 16)
  pub bytes : list_all is_name_byte text ≡ true

-- a plan that a router or a host can be built from
abbrev pub IsNodePlan : nodes.NodePlan → Type 0
IsNodePlan (node.Router p) = IsRouterPlan p
IsNodePlan (node.Host p) = IsHostPlan p

-- a policy with few addresses and tags that it denies, and few grants to one source
pub record IsPolicyPlan (p : PolicyPlan) : Type 0 where
  pub grants : p.grants ≤ 1000000
  pub deny : length p.deny ≤ 1024
  pub deny_tags : length p.deny_tags ≤ 1024
  pub tags : All (λ tag. (1 ≤ tag) × (tag ≤ 65535)) p.deny_tags

-- the policy of a host is such a one
abbrev pub HasPolicy : nodes.NodePlan → Type 0
HasPolicy (node.Router p) = Unit {0}
HasPolicy (node.Host p) = IsPolicyPlan p.policy

-- a link between two of so many nodes
pub record IsLinkPlan (count : ℕ) (l : LinkPlan) : Type 0 where
  pub from : l.from < count
  pub to : l.to < count
  pub apart : l.from ≡ l.to → ⊥
  pub delay : (1 ≤ l.delay) × (l.delay ≤ 1000000000000)
  pub limits : AreLinkLimits l.limits

-- the plan of a node of that number has the links that begin or end there
abbrev pub IsWired : List LinkPlan → ℕ → nodes.NodePlan → Type 0
IsWired links n (node.Router p) = (p.incoming ≡ incoming_of n links) × (p.outgoing ≡ outgoing_of n links)
IsWired links n (node.Host p) = links_from n links ≡ p.uplink ∷ []

abbrev pub AreWired : List LinkPlan → ℕ → List nodes.NodePlan → Type 0
AreWired links n [] = Unit {0}
AreWired links n (p ∷ ps) = IsWired links n p × AreWired links (n + 1) ps

-- behind a host stand hosts alone
abbrev pub AreRoutersFirst : List nodes.NodePlan → Type 0
AreRoutersFirst [] = Unit {0}
AreRoutersFirst (node.Router p ∷ ps) = AreRoutersFirst ps
AreRoutersFirst (node.Host p ∷ ps) = All (λ q. is_host_plan q ≡ true) ps

-- the addresses of the hosts among the nodes
abbrev pub addresses_at : List nodes.NodePlan → List Address
addresses_at [] = []
addresses_at (node.Router p ∷ ps) = addresses_at ps
addresses_at (node.Host p ∷ ps) = p.address ∷ addresses_at ps

abbrev pub ends_of : LinkPlan → ℕ × ℕ
ends_of l = (l.from, l.to)

-- a configuration that a network can be built from
pub record IsConfig (c : Config) : Type 0 where
  pub horizon : c.horizon.0 ≤ 1000000000000000
  pub max_events : (1 ≤ c.max_events) × (c.max_events ≤ 4000000)
  pub few_nodes : node_count c ≤ 1024
  pub few_links : link_count c ≤ 4096
  pub few_routes : route_count c ≤ 65536
  pub few_restarts : restart_count c ≤ 65536
  pub few_reroutes : reroute_count c ≤ 65536
  pub few_slots : slot_count c ≤ 1000000
  pub few_places : all_places c.links ≤ 1000000
  pub nodes : All IsNodePlan c.nodes
  pub policies : All HasPolicy c.nodes
  pub routers_first : AreRoutersFirst c.nodes
  pub links : All (IsLinkPlan (length c.nodes)) c.links
  pub named : All IsName (map name_at c.nodes)
  pub names : AreDistinct (map name_at c.nodes)
  pub addresses : AreDistinct (addresses_at c.nodes)
  pub pairs : AreDistinct (map ends_of c.links)
  pub wired : AreWired c.links 0 c.nodes
