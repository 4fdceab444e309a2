-- Crate: the narrower words in which a path is steady, those of all that host and router had to do with one another: a
-- changed route ends all paths there for good, and a lost packet those of its grant.
use Rattle.std.specs.Prelude.{◌≡◌, ℕ, ◌<◌, ◌≤◌, true, false, List, [], ◌∷◌, ◌++◌, filter, map, is_some, Option, Some, None, IfSome}
use Rattle.std.specs.Prelude.{IsSomeAnd}
use Rattle.std.specs.Option.{option_or, option_map}
use Rattle.std.specs.List.{AllByRecursion}
use Rattle.tva_base.specs.declared.packet.Fate.{Fate}
use Rattle.tva_base.specs.declared.packet.Rights.{Rights}
use Rattle.tva_base.specs.declared.plan.HostPlan.{HostPlan}
use Rattle.tva_base.specs.declared.plan.RouterPlan.{RouterPlan}
use Rattle.tva_base.specs.Changes.{in_force}
use Rattle.tva_shim.specs.Packets.{PacketData}
use Rattle.tva_flow.specs.Charges.{Charge, lives, living_count}
use Rattle.tva_port.specs.Keeps.{AreRising}
use Rattle.tva_router.specs.Boots.{charges_at}
use Rattle.tva_router.specs.Marks.{is_marked}
use Rattle.tva_plan.specs.declared.config.Config.{Config}
use Rattle.tva_plan.specs.declared.config.NodePlan.TheVariants.{Router, Host}
use Rattle.tva_run.specs.declared.kinds.Input.{Input}
use Rattle.tva_run.specs.Sites.{Site}
use Rattle.tva_run.specs.Entries.{Entry, Arrived, Took, input_time}
use Rattle.tva_run.specs.Parts.{charges}
use Rattle.tva_run.specs.Reaching.{Logs, log_at, site_at}
use Rattle.tva_laws.specs.Deals.{Deal, Prepared, Granted, Noticed, Coming, coming, deals, comings}
use Rattle.tva_laws.specs.Paths.{ask_coming, shows, ShowsMinted, ComesInTime, comings_at, WasCharged, IsSteadyPath}

-- when the last ask among these deals came to the router
abbrev pub ask_came : List Coming → List Deal → Option ℕ
ask_came seen before = option_map (λ x. x.time) (ask_coming seen before)

abbrev pub granted_by : List Coming → List Deal → Deal → Option ℕ
granted_by seen before (Granted rights caps) = ask_came seen before
granted_by seen before _ = None

-- when the last ask before the last grant did; the deals before those are the first
abbrev pub grant_came : List Coming → List Deal → List Deal → Option ℕ
grant_came seen before [] = None
grant_came seen before (d ∷ ds) = option_or (grant_came seen (before ++ d ∷ []) ds) (granted_by seen before d)

-- the deals since the last grant, of which those are the first
abbrev pub since_granted : List Deal → List Deal → List Deal
since_granted own [] = own
since_granted own (Prepared time packet ∷ ds) = since_granted (own ++ Prepared time packet ∷ []) ds
since_granted own (Granted rights caps ∷ ds) = since_granted [] ds
since_granted own (Noticed ∷ ds) = since_granted (own ++ Noticed ∷ []) ds

-- a packet that shows a grant came in time, behind the last ask before the last grant, and a capability that it points at
-- is the one minted for that ask with the master that is in force as it comes
pub record ComesSteadily (host : HostPlan) (router : RouterPlan) (delay : ℕ) (own : List Deal) (seen : List Coming)
    (x : Coming) : Type 0 where
  pub in_time : ComesInTime host delay own x
  pub behind : IfSome (grant_came seen [] in_time.before) (λ came. came ≤ x.time)
  pub minted : IfSome (grant_came seen [] in_time.before)
      (λ came. ShowsMinted (in_force router x.time) x.packet x.packet.carried came)

-- those that were charged
abbrev pub those_charged : List Coming → List Coming
those_charged seen = filter (λ x. is_some x.charge) seen

-- The path is steady in narrower words, those of all that host and router had to do with one another. The packet comes
-- steadily, and so did all packets of its flow that were charged in its boot, in the order in which the host numbered
-- them. Of each grant that was taken before it was prepared the last ask came in time, in whatever boot. All packets
-- that were prepared before it under its grant and show it were charged in its boot. And where the flow doesn't live,
-- by the charges of the boot, the cache has room.
pub record IsNarrowPath (host : HostPlan) (router : RouterPlan) (delay : ℕ) (own : List Deal) (seen : List Coming)
    (charged : List Charge) (x : Coming) : Type 0 where
  pub each : AllByRecursion (ComesSteadily host router delay own seen) (those_charged (comings_at router x.time seen))
  pub last : ComesSteadily host router delay own seen x
  pub order : AreRising (map (λ y. y.packet.id.ordinal) (those_charged (comings_at router x.time seen) ++ x ∷ []))
  pub asked : (before : List Deal) (rights : Rights) (caps : List ℕ) (after : List Deal)
      → last.in_time.before ≡ before ++ Granted rights caps ∷ after
      → IsSomeAnd (ask_coming seen before) (ComesInTime host delay own)
  pub paid : AllByRecursion (WasCharged (comings_at router x.time seen)) (since_granted [] last.in_time.before)
  pub room : lives charged x.packet.flow x.time ≡ false → living_count charged x.time < router.slots

-- in a run each path is steady that is of a kind
abbrev pub AreSteady : (HostPlan → RouterPlan → ℕ → List Deal → List Coming → List Charge → Coming → Type 0) → Config → Logs → Type 0
AreSteady IsPath config logs =
    (sender node : ℕ) (from to : Site) (host : HostPlan) (router : RouterPlan)
    → site_at config sender ≡ Some from → from.plan ≡ Host host
    → site_at config node ≡ Some to → to.plan ≡ Router router
    → (before : List Entry) (input : Input) (on : Option ℕ) (packet : PacketData) (fate : Fate) (onward : PacketData)
    (rest : List Entry)
    → log_at logs node ≡ before ++ Took input (Arrived on packet fate onward) ∷ rest
    → is_marked packet.carried ≡ false → packet.hops < 32 → shows packet.carried ≡ true
    → (delay : ℕ)
    → IsPath host router delay (deals packet.flow.dst (log_at logs sender)) (comings packet.flow before)
    (charges_at router (input_time input) (charges before)) (coming input packet fate)
    → IsSteadyPath host router delay (deals packet.flow.dst (log_at logs sender)) (comings packet.flow before)
    (charges_at router (input_time input) (charges before)) (coming input packet fate)

-- what the narrower words call steady is steady
abbrev pub AreNarrowSteady : Config → Logs → Type 0
AreNarrowSteady config logs = AreSteady IsNarrowPath config logs
