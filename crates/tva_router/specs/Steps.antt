-- Kit: the parts of a router by its plan, and what they owe.
use Rattle.std.specs.Prelude.{◌≡◌, ℕ, ◌≤◌, List, [], ◌∷◌, ◌++◌, slice_index_or, Option, Some, None, MatchOption, Ok, Err}
use Rattle.tva_base.specs.Plan.{IsRouterPlan}
use Rattle.tva_base.specs.Changes.{changed_plan}
use Rattle.tva_base.specs.declared.limits.LinkLimits.{LinkLimits}
use Rattle.tva_base.specs.declared.packet.Cause.{Cause}
use Rattle.tva_base.specs.declared.packet.Class.{Class}
use Rattle.tva_base.specs.declared.packet.Grant.{Grant}
use Rattle.tva_base.specs.declared.plan.RouterPlan.{RouterPlan}
use Rattle.tva_shim.specs.declared.packets.Carried.{Carried}
use Rattle.tva_caps.specs.Known.{is_good}
use Rattle.tva_caps.specs.declared.known.Good.{Good}
use Rattle.tva_flow.specs.Charges.{Charge}
use Rattle.tva_flow.specs.Budget.{AreTimely}
use Rattle.tva_flow.specs.declared.kept.Entry.{Entry}
use Rattle.tva_flow.specs.Places.{AreShown}
use Rattle.tva_flow.specs.Stands as flows
use Rattle.tva_port.specs.Stands as port
use Rattle.tva_router.specs.declared.judged.Arrival.{Arrival}
use Rattle.tva_router.specs.declared.judged.Judged.{Judged}
use Rattle.tva_router.specs.declared.judged.Judgement.{Judgement}
use Rattle.tva_router.specs.declared.guard.Guard.{Guard}
use Rattle.tva_router.specs.declared.finding.Ways.{Ways}
use Rattle.tva_router.specs.Key.{flow_key}
use Rattle.tva_router.specs.Tables.{ArePlaces, AreWays}
use Rattle.tva_router.specs.Judging.{Answer, judged}
use Rattle.tva_router.specs.Handling.{charged_by}

-- the minter and the cache are the plan's, and were called no later than that, each entry of the cache has the
-- capability that is good for its grant under the plan's master, and the places are those of its incoming links
pub record IsGuard (plan : RouterPlan) (last : ℕ) (g : Guard) : Type 0 where
  pub master : g.minter.master ≡ plan.master
  pub clock : g.minter.clock_offset ≡ plan.clock_offset
  pub key : g.cache.key ≡ flow_key plan.master
  pub slots : g.cache.slots ≡ plan.slots
  pub offset : g.cache.offset ≡ plan.clock_offset
  pub minted : g.minter.last ≤ last
  pub charged : g.cache.last ≤ last
  pub known : AreShown (is_good plan.master) g.cache.entries
  pub incoming : ArePlaces plan.incoming g.incoming

-- what is known at that place: the grant of the entry there, with its capability; nothing where there is no place
abbrev pub IsKnownAt : List Entry → Option ℕ → Option Good → Type 0
IsKnownAt entries at known = MatchOption at (known ≡ None) (λ i.
    (e : Entry) → e ≡ slice_index_or entries i e → known ≡ Some (record { grant = e.grant; cap = e.cap }))

-- a guard of the plan may judge such an arrival
pub record MayJudge (plan : RouterPlan) (g : Guard) (a : Arrival) : Type 0 where
  pub guard : IsGuard plan a.time.0 g
  pub horizon : a.time.0 ≤ 1000000000000000
  pub sized : (20 ≤ a.bytes) × (a.bytes ≤ 2048)

abbrev pub judgement : Class → Option Cause → Option Grant → Judgement
judgement class cause charge = record { class = class; cause = cause; charge = charge }

-- what a router makes of an arrival, by its judgement and what the packet then carries
abbrev pub judged_with : Judgement → Carried → Judged
judged_with j carries = judged j.class j.cause j.charge carries

-- the grant of an answer
abbrev pub grant_in : Answer → Option Grant
grant_in (Ok grant) = Some grant
grant_in (Err cause) = None

-- for all charges for which the cache stood, it then stands for them with what was charged, and they are
-- timely as before
pub record Keeps (plan : RouterPlan) (a : Arrival) (charge : Option Grant) (nonce : ℕ) (old new : flows.Cache) : Type 0 where
  pub stands : (h : List Charge) → flows.StandsFor old h → flows.StandsFor new (h ++ charged_by charge a.time.0 nonce a.bytes)
  pub timely : (h : List Charge) → flows.StandsFor old h → AreTimely plan.clock_offset h
      → AreTimely plan.clock_offset (h ++ charged_by charge a.time.0 nonce a.bytes)

-- each port has its link's limits, and was called no later than that
abbrev pub ArePorts : List (ℕ × LinkLimits) → ℕ → List port.PortData → Type 0
ArePorts [] last [] = Unit {0}
ArePorts [] last (p ∷ ps) = ⊥
ArePorts (o ∷ os) last [] = ⊥
ArePorts (o ∷ os) last (p ∷ ps) = (p.limits ≡ o.1) × (p.last ≤ last) × ArePorts os last ps

-- a router by its plan in force, which is the one by which it was built but for its master and its routes, and whose
-- parts were called no later than that
pub record IsSound (built plan : RouterPlan) (last : ℕ) (g : Guard) (w : Ways) (ps : List port.PortData) : Type 0 where
  pub valid : IsRouterPlan plan
  pub in_force : plan ≡ changed_plan plan.master plan.routes built
  pub guard : IsGuard plan last g
  pub ways : AreWays plan w
  pub ports : ArePorts plan.outgoing last ps
