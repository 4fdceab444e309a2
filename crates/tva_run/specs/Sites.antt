-- Product: what a node is by the plan of its network: its number, its plan, and the links out of it.
use Rattle.std.specs.Prelude.{◌≡◌, ℕ, ◌≤◌, ◌<◌, ◌==◌, List, [], ◌∷◌, All, map, Option}
use Rattle.std.specs.Option.{option_map}
use Rattle.std.specs.List.{find}
use Rattle.tva_base.specs.declared.limits.LinkLimits.{LinkLimits}
use Rattle.tva_base.specs.declared.plan.LinkPlan.{LinkPlan}
use Rattle.tva_base.specs.Plan.{AreLinkLimits, IsRouterPlan, IsHostPlan, links_of}
use Rattle.tva_plan.specs.declared.config.NodePlan.{NodePlan}
use Rattle.tva_plan.specs.declared.config.NodePlan.TheVariants.{Router, Host}

-- a node: its number, its plan, and the links out of it by their numbers
pub record Site : Type 0 where
  pub number : ℕ
  pub plan : NodePlan
  pub links : List (ℕ × LinkPlan)

abbrev pub site_of : ℕ → NodePlan → List (ℕ × LinkPlan) → Site
site_of number plan links = record { number = number; plan = plan; links = links }

-- the link out of that number
abbrev pub link_out : Site → ℕ → Option (ℕ × LinkPlan)
link_out site link = find (λ o. o.0 == link) site.links

-- its number and its limits
abbrev pub limits_out : Site → ℕ → Option (ℕ × LinkLimits)
limits_out site link = option_map (λ o. (o.0, o.1.limits)) (link_out site link)

-- the numbers rise
abbrev pub AreRising : List ℕ → Type 0
AreRising [] = Unit {0}
AreRising (n ∷ ns) = All (λ m. n < m) ns × AreRising ns

-- a link out of that node: its delay is 1 to 10^12 ns, and its limits are valid
pub record IsLinkOut (number : ℕ) (o : ℕ × LinkPlan) : Type 0 where
  pub from : o.1.from ≡ number
  pub delay : (1 ≤ o.1.delay) × (o.1.delay ≤ 1000000000000)
  pub limits : AreLinkLimits o.1.limits

-- a router's plan is valid and has just these links out; a host's is valid and has its one link
abbrev pub IsPlanned : NodePlan → List (ℕ × LinkPlan) → Type 0
IsPlanned (Router plan) links = IsRouterPlan plan × (plan.outgoing ≡ map (λ o. (o.0, o.1.limits)) links)
IsPlanned (Host plan) links = IsHostPlan plan × (links_of links ≡ plan.uplink ∷ [])

-- a node that there may be: its links out are valid, by rising numbers, and they are its plan's
pub record IsSite (site : Site) : Type 0 where
  pub number : site.number < 65536
  pub planned : IsPlanned site.plan site.links
  pub links : All (IsLinkOut site.number) site.links
  pub rising : AreRising (links_of site.links)
