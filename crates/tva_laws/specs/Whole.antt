-- Crate: when the whole flow keeps to a path: each packet was prepared by the host and came in time; those that show a grant
-- came in order; the ask of each grant came before what was prepared behind it; what shows the packet's own grant was
-- charged; and the router didn't restart since the first of those asks came.
use Rattle.std.specs.Prelude.{◌≡◌, ℕ, ◌<◌, ◌≤◌, false, List, [], ◌∷◌, ◌++◌, filter, map, IsSomeAnd}
use Rattle.std.specs.List.{AllByRecursion}
use Rattle.tva_base.specs.declared.packet.Rights.{Rights}
use Rattle.tva_base.specs.declared.plan.HostPlan.{HostPlan}
use Rattle.tva_base.specs.declared.plan.RouterPlan.{RouterPlan}
use Rattle.tva_base.specs.Changes.{boot_at, in_force}
use Rattle.tva_flow.specs.Charges.{Charge, lives, living_count}
use Rattle.tva_port.specs.Keeps.{AreRising}
use Rattle.tva_plan.specs.declared.config.Config.{Config}
use Rattle.tva_run.specs.Reaching.{Logs}
use Rattle.tva_laws.specs.Deals.{Deal, Granted, Coming}
use Rattle.tva_laws.specs.Paths.{ask_coming, IsNoGrant, shows, ShowsMinted, ComesInTime, WasCharged}
use Rattle.tva_laws.specs.Narrow.{since_granted, AreSteady}

-- A grant was taken before those deals, and its last ask came to the router: before all that came of what was prepared
-- behind the taking, and in the boot that the time is in. What was prepared before the next taking came with the pointer at
-- the capability that was minted for the ask.
pub record IsBegun (host : HostPlan) (router : RouterPlan) (delay : ℕ) (rest : List Deal) (met : List Coming) (now : ℕ)
    (ask : Coming) : Type 0 where
  pub behind : AllByRecursion (λ y. ComesInTime host delay rest y → ask.time ≤ y.time) met
  pub minted : AllByRecursion (λ y. (it : ComesInTime host delay rest y) → AllByRecursion IsNoGrant it.before
      → ShowsMinted (in_force router ask.time) y.packet y.packet.carried ask.time) met
  pub boot : boot_at router ask.time ≡ boot_at router now

-- The whole flow keeps to the path up to a packet: all its unmarked packets that came up to it were prepared by the host and came
-- in time, and those that show a grant in the order in which the host numbered them, so each once. Each grant that was
-- taken before the packet was prepared has begun. All that was prepared before it under its own grant, and shows that, was
-- charged. And where the flow doesn't live, by the charges of the boot, the cache has room.
pub record IsWholePath (host : HostPlan) (router : RouterPlan) (delay : ℕ) (own : List Deal) (seen : List Coming)
    (charged : List Charge) (x : Coming) : Type 0 where
  pub each : AllByRecursion (ComesInTime host delay own) seen
  pub last : ComesInTime host delay own x
  pub order : AreRising (map (λ y. y.packet.id.ordinal) (filter (λ y. shows y.packet.carried) (seen ++ x ∷ [])))
  pub begun : (first : List Deal) (rights : Rights) (caps : List ℕ) (rest : List Deal)
      → own ≡ first ++ Granted rights caps ∷ rest → ComesInTime host delay rest x
      → IsSomeAnd (ask_coming seen first) (IsBegun host router delay rest (seen ++ x ∷ []) x.time)
  pub paid : AllByRecursion (WasCharged seen) (since_granted [] last.before)
  pub room : lives charged x.packet.flow x.time ≡ false → living_count charged x.time < router.slots

-- each such path is steady
abbrev pub AreWholeSteady : Config → Logs → Type 0
AreWholeSteady config logs = AreSteady IsWholePath config logs
