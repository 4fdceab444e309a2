-- Kit: what each step of a node's work owes.
use Rattle.std.specs.Prelude.{◌≡◌, ℕ, ◌+◌, ◌<◌, ◌≤◌, List, [], ◌∷◌, ◌++◌, All, map, Option, Some}
use Rattle.std.specs.Option.{option_map}
use Rattle.std.specs.List.{AllByRecursion}
use Rattle.tva_base.specs.declared.event.Happened.{Happened}
use Rattle.tva_base.specs.declared.limits.LinkLimits.{LinkLimits}
use Rattle.tva_base.specs.declared.packet.Outcome.{Outcome}
use Rattle.tva_base.specs.declared.plan.RouterPlan.{RouterPlan}
use Rattle.tva_base.specs.declared.plan.HostPlan.{HostPlan}
use Rattle.tva_shim.specs.Packets.{PacketData, class_by_shim}
use Rattle.tva_port.specs.Log as port_log
use Rattle.tva_port.specs.declared.decision.Decision.{Decision}
use Rattle.tva_port.specs.declared.decision.Decision.TheVariants.{Start, WaitUntil, Idle}
use Rattle.tva_port.specs.Decide.{decision}
use Rattle.tva_router.specs.Handling.{offered, outcome_of}
use Rattle.tva_router.specs.Stands as router
use Rattle.tva_host.specs.declared.made.Made.{Made}
use Rattle.tva_run.specs.declared.kinds.Input.{Input}
use Rattle.tva_run.specs.Sites.{Site, IsSite}
use Rattle.tva_run.specs.Entries.{Content, Entry, Took, Started, input_time}
use Rattle.tva_run.specs.Parts.{port_logs}
use Rattle.tva_run.specs.Contents.{content, routed, hosted}
use Rattle.tva_run.specs.Told.{events, sendings, content_told}
use Rattle.tva_run.specs.AtTime.{IsAt}
use Rattle.tva_node.specs.declared.role.Role.{Role}
use Rattle.tva_node.specs.declared.role.Role.TheVariants as roles
use Rattle.tva_node.specs.declared.role.Routed.{Routed}
use Rattle.tva_node.specs.declared.role.Hosted.{Hosted}
use Rattle.tva_node.specs.Pairs.{link_pair}
use Rattle.tva_node.specs.Besides.{StandsAsRouter, StandsAsHost, RoleStands, IsBy}
use Rattle.tva_node.specs.States.{AreLeft, role_plan}
use Rattle.tva_node.specs.Besides.{KnowsNext}
use Rattle.tva_node.specs.States.{Fits, NodeState}

-- when a link out is free
abbrev pub role_free : Role → ℕ → ℕ
role_free (roles.Router r) link = router.free_of r.router link
role_free (roles.Host h) link = h.port.free_at

-- ## one step

-- an input is taken: this is told of it, and that becomes of the router or host
abbrev pub Takes : Site → List Entry → Input → Happened → Role → Type 0
Takes site log input told new =
    (made : Content) × (content site log input ≡ Some made) × (told ≡ content_told made)
    × RoleStands site new (log ++ Took input made ∷ [])

-- the same of a router
abbrev pub RouterTook : ℕ → RouterPlan → List Entry → Input → Happened → Routed → Type 0
RouterTook number plan log input told new =
    (made : Content) × (routed number plan log input ≡ Some made) × (told ≡ content_told made)
    × StandsAsRouter new (log ++ Took input made ∷ [])

-- and of a host
abbrev pub HostTook : Site → HostPlan → List Entry → Input → Happened → Hosted → Type 0
HostTook site plan log input told new =
    (told ≡ content_told (hosted site plan log input))
    × StandsAsHost site new (log ++ Took input (hosted site plan log input) ∷ [])

-- where a packet ends up that a host offers to the port of its link
abbrev pub went_out : ℕ → LinkLimits → List port_log.Entry → PacketData → Outcome
went_out uplink limits log packet = outcome_of uplink (offered limits log (class_by_shim packet.carried) packet)

-- where a reply ends up
abbrev pub reply_went : ℕ → LinkLimits → List port_log.Entry → Option Made → Option Outcome
reply_went uplink limits log reply = option_map (λ made. went_out uplink limits log made.packet) reply

-- what a decision adds to the log
abbrev pub started_by : ℕ → ℕ → Decision → List Entry
started_by link now (Start class packet) = Started now link class packet ∷ []
started_by link now (WaitUntil time) = []
started_by link now Idle = []

-- a link with these limits decides: that is what it decides, and that becomes of the router or host
abbrev pub Decides : Site → List Entry → ℕ → ℕ → LinkLimits → Decision → Role → Type 0
Decides site log link now limits d new =
    (d ≡ decision limits (port_logs log link) now) × RoleStands site new (log ++ started_by link now d)

-- ## within a time

-- within a time: these inputs are taken, and the links below that number have decided
pub record StandsAt (v : NodeState) (now rank : ℕ) (taken : List Input) (log : List Entry) : Type 0 where
  pub site : IsSite v.site
  pub plan : v.site.plan ≡ role_plan v.role
  pub out : v.site.links ≡ map link_pair v.links
  pub horizon : (v.horizon ≤ 1000000000000000) × (now ≤ v.horizon)
  pub worked : IsAt v.site now rank taken log
  pub events : v.events ≡ events v.site log
  pub sendings : v.sendings ≡ sendings v.site log
  pub role : RoleStands v.site v.role log
  pub past : IsBy now v.role
  pub links : All (λ l. l.number < rank → KnowsNext v.site log (now + 1) l) v.links
  pub fits : All (λ i. (input_time i ≤ v.horizon) × Fits v.site.plan i) v.inbox
  pub early : AllByRecursion (λ i. input_time i ≤ now) taken
  pub late : AllByRecursion (λ i. now ≤ input_time i) v.waiting
  pub left : AreLeft v.inbox taken v.waiting
