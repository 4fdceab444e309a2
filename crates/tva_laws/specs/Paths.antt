-- Product: when the path of a host's packets to a peer is steady at a router up to one of them, by the logs of host
-- and router.
use Rattle.std.specs.Prelude.{◌≡◌, ℕ, ◌+◌, ◌<◌, ◌≤◌, nat_le, ◌==◌, Bool, true, false, ◌&&◌, if◌then◌else◌, List, [], ◌∷◌, ◌++◌}
use Rattle.std.specs.Prelude.{filter, map, slice_get, is_some, unwrap_or, Option, Some, None, IfSome, IsSomeAnd}
use Rattle.std.specs.Option.{option_or, option_map_or, option_and_then}
use Rattle.std.specs.List.{AllByRecursion, find}
use Rattle.tva_base.specs.declared.packet.Class.TheVariants.{Regular}
use Rattle.tva_base.specs.declared.packet.Fate.{Fate}
use Rattle.tva_base.specs.declared.packet.Grant.{Grant}
use Rattle.tva_base.specs.declared.packet.PacketId.{PacketId}
use Rattle.tva_base.specs.declared.packet.Rights.{Rights}
use Rattle.tva_base.specs.declared.plan.HostPlan.{HostPlan}
use Rattle.tva_base.specs.declared.plan.RouterPlan.{RouterPlan}
use Rattle.tva_base.specs.Changes.{boot_at, in_force}
use Rattle.tva_base.specs.Clock.{router_second}
use Rattle.tva_shim.specs.declared.kinds.Shown.{Shown}
use Rattle.tva_shim.specs.declared.kinds.Kind.{Kind}
use Rattle.tva_shim.specs.declared.kinds.Kind.TheVariants as kinds
use Rattle.tva_shim.specs.declared.packets.Carried.{Carried}
use Rattle.tva_shim.specs.declared.packets.Carried.TheVariants as carried
use Rattle.tva_shim.specs.Packets.{PacketData}
use Rattle.tva_caps.specs.Formula.{precap_of, capability_of}
use Rattle.tva_flow.specs.Charges.{Charge, holder, lives, living_count}
use Rattle.tva_port.specs.Keeps.{AreRising}
use Rattle.tva_router.specs.Boots.{charges_at}
use Rattle.tva_router.specs.Marks.{is_marked}
use Rattle.tva_host.specs.Receiving.{shows_grant}
use Rattle.tva_plan.specs.declared.config.Config.{Config}
use Rattle.tva_plan.specs.declared.config.NodePlan.TheVariants.{Router, Host}
use Rattle.tva_run.specs.declared.kinds.Input.{Input}
use Rattle.tva_run.specs.Sites.{Site}
use Rattle.tva_run.specs.Entries.{Entry, Arrived, Took, input_time}
use Rattle.tva_run.specs.Parts.{charges}
use Rattle.tva_run.specs.Reaching.{Logs, log_at, site_at}
use Rattle.tva_laws.specs.Deals.{Deal, Prepared, Granted, Noticed, Coming, coming, deals, comings}

-- ## asks and grants

-- a request or a renewal asks
abbrev pub asks_kind : Kind → Bool
asks_kind (kinds.Request entries) = true
asks_kind (kinds.Renewal shown) = true
asks_kind _ = false

-- where it isn't marked
abbrev pub asks_in : Carried → Bool
asks_in (carried.Shim shim) = if shim.demoted then false else asks_kind shim.kind
asks_in _ = false

-- the identity of an ask, and that of the last one among these deals
abbrev pub ask_id : Deal → Option PacketId
ask_id (Prepared time packet) = if asks_in packet.carried then Some packet.id else None
ask_id _ = None

abbrev pub last_ask_id : List Deal → Option PacketId
last_ask_id [] = None
last_ask_id (d ∷ ds) = option_or (last_ask_id ds) (ask_id d)

abbrev pub same_id : PacketId → PacketId → Bool
same_id a b = (a.node == b.node) && (a.ordinal == b.ordinal)

-- what came with that identity
abbrev pub come_as : List Coming → PacketId → Option Coming
come_as seen id = find (λ x. same_id x.packet.id id) seen

-- how the last ask among these deals came to the router
abbrev pub ask_coming : List Coming → List Deal → Option Coming
ask_coming seen before = option_and_then (come_as seen) (last_ask_id before)

-- the deals behind the first notice among these, and those that count for the life of a grant: all, or those since a
-- notice
abbrev pub after_noticed : List Deal → Option (List Deal)
after_noticed [] = None
after_noticed (Noticed ∷ ds) = Some ds
after_noticed (_ ∷ ds) = after_noticed ds

abbrev pub since_noticed : List Deal → List Deal
since_noticed ds = unwrap_or (after_noticed ds) ds

-- no grant was taken
abbrev pub IsNoGrant : Deal → Type 0
IsNoGrant (Granted rights caps) = ⊥
IsNoGrant _ = Unit {0}

-- ## what comes

-- a list, a nonce alone or a renewal
abbrev pub shows : Carried → Bool
shows (carried.Shim shim) = shows_grant shim.kind
shows _ = false

-- a nonce alone
abbrev pub is_nonce : Kind → Bool
is_nonce (kinds.Nonce nonce) = true
is_nonce _ = false

abbrev pub shows_nonce : Carried → Bool
shows_nonce (carried.Shim shim) = is_nonce shim.kind
shows_nonce _ = false

-- the capability at the pointer is that of the pre-capability that the router minted at a time
abbrev pub IsMinted : RouterPlan → PacketData → Shown → ℕ → Type 0
IsMinted router packet shown came = slice_get shown.caps shown.pointer ≡
    Some (capability_of (precap_of router.master packet.flow (router_second router.clock_offset came)) shown.rights)

-- where capabilities are shown
abbrev pub ShowsMintedKind : RouterPlan → PacketData → Kind → ℕ → Type 0
ShowsMintedKind router packet (kinds.List shown) came = IsMinted router packet shown came
ShowsMintedKind router packet (kinds.Renewal shown) came = IsMinted router packet shown came
ShowsMintedKind router packet _ came = Unit {0}

abbrev pub ShowsMinted : RouterPlan → PacketData → Carried → ℕ → Type 0
ShowsMinted router packet (carried.Shim shim) came = ShowsMintedKind router packet shim.kind came
ShowsMinted router packet _ came = Unit {0}

-- a packet that came was prepared at a place of these deals, by its identity, and came by the delay later, or up to the
-- margin after that
pub record ComesInTime (host : HostPlan) (delay : ℕ) (own : List Deal) (x : Coming) : Type 0 where
  pub before : List Deal
  pub sent : ℕ
  pub packet : PacketData
  pub after : List Deal
  pub place : own ≡ before ++ Prepared sent packet ∷ after
  pub same : packet.id ≡ x.packet.id
  pub from : sent + delay ≤ x.time
  pub until : x.time ≤ sent + delay + host.margin

-- those that came in the boot of the router that a time is in
abbrev pub comings_at : RouterPlan → ℕ → List Coming → List Coming
comings_at router now seen = filter (λ x. boot_at router x.time == boot_at router now) seen

-- those that were charged to grants of no earlier second
abbrev pub is_charged_since : ℕ → Option Grant → Bool
is_charged_since second charge = option_map_or (λ g. nat_le second g.second) charge false

abbrev pub charged_since : ℕ → List Coming → List Coming
charged_since second seen = filter (λ x. is_charged_since second x.charge) seen

-- a packet that shows a grant was charged
abbrev pub WasCharged : List Coming → Deal → Type 0
WasCharged seen (Prepared time packet) =
    shows packet.carried ≡ true → is_some (option_and_then (λ x. x.charge) (come_as seen packet.id)) ≡ true
WasCharged seen _ = Unit {0}

-- what came was prepared among these deals, under a grant, and came in time, behind the ask of the grant, which came to
-- the router at a time; a capability that it points at is the one minted for that ask
pub record ComesUnder (host : HostPlan) (router : RouterPlan) (delay : ℕ) (under : List Deal) (came : ℕ) (x : Coming)
    : Type 0 where
  pub in_time : ComesInTime host delay under x
  pub behind : came ≤ x.time
  pub minted : ShowsMinted (in_force router x.time) x.packet x.packet.carried came

-- a nonce alone is known: what counts for the life of its grant and shows it was charged, to grants of no earlier
-- second, and so was what was charged last
pub record IsKnown (second : ℕ) (under : List Deal) (met : List Coming) (held : Option Charge) : Type 0 where
  pub paid : AllByRecursion (WasCharged (charged_since second met)) (since_noticed under)
  pub last : IfSome held (λ c. second ≤ c.grant.second)

-- The path is steady up to a packet that shows a grant. It is told by a grant that the host took: the last ask before
-- that came in time, and the packet comes under that grant, the last one that was taken before it was prepared. What its
-- flow was charged in its boot was charged to grants of earlier seconds than the one in which that ask came, or was
-- prepared under the same grant before it and came so too, in the order in which the host numbered it. Where it shows a
-- nonce alone, that is known. And where the flow doesn't live, by the charges of the boot, the cache has room. So what
-- was lost, came late or came another way before the grant was asked for ends no path, and no more does what was lost
-- under it, but for nonces alone.
pub record IsSteadyPath (host : HostPlan) (router : RouterPlan) (delay : ℕ) (own : List Deal) (seen : List Coming)
    (charged : List Charge) (x : Coming) : Type 0 where
  pub first : List Deal
  pub rights : Rights
  pub caps : List ℕ
  pub rest : List Deal
  pub place : own ≡ first ++ Granted rights caps ∷ rest
  pub ask : Coming
  pub came : ask_coming seen first ≡ Some ask
  pub in_time : ComesInTime host delay own ask
  pub last : ComesUnder host router delay rest ask.time x
  pub no_other : AllByRecursion IsNoGrant last.in_time.before
  pub each : AllByRecursion (ComesUnder host router delay last.in_time.before ask.time)
      (charged_since (router_second router.clock_offset ask.time) (comings_at router x.time seen))
  pub order : AreRising (map (λ y. y.packet.id.ordinal)
      (charged_since (router_second router.clock_offset ask.time) (comings_at router x.time seen) ++ x ∷ []))
  pub known : shows_nonce x.packet.carried ≡ true
      → IsKnown (router_second router.clock_offset ask.time) last.in_time.before (comings_at router x.time seen)
      (holder charged x.packet.flow)
  pub room : lives charged x.packet.flow x.time ≡ false → living_count charged x.time < router.slots

-- of these deals each packet that shows a grant is among those that came, in the boot that the time is in, and was
-- charged there
abbrev pub LieInBoot : RouterPlan → List Coming → ℕ → List Deal → Type 0
LieInBoot router met now own = (before : List Deal) (sent : ℕ) (packet : PacketData) (after : List Deal)
    → own ≡ before ++ Prepared sent packet ∷ after → shows packet.carried ≡ true
    → IsSomeAnd (come_as met packet.id) (λ y. (boot_at router y.time ≡ boot_at router now) × (is_some y.charge ≡ true))

-- ## in a run

-- Each packet that comes to a router unmarked and below the hop limit, and shows a grant, goes on as regular where the
-- path from its host is steady up to it, and is charged to the grant by which it is: with its rights, and of the router
-- second in which its ask came.
abbrev pub AreHonestRegular : Config → Logs → Type 0
AreHonestRegular config logs =
    (sender node : ℕ) (from to : Site) (host : HostPlan) (router : RouterPlan)
    → site_at config sender ≡ Some from → from.plan ≡ Host host
    → site_at config node ≡ Some to → to.plan ≡ Router router
    → (before : List Entry) (input : Input) (on : Option ℕ) (packet : PacketData) (fate : Fate) (onward : PacketData)
    (rest : List Entry)
    → log_at logs node ≡ before ++ Took input (Arrived on packet fate onward) ∷ rest
    → is_marked packet.carried ≡ false → packet.hops < 32 → shows packet.carried ≡ true
    → (delay : ℕ)
    (steady : IsSteadyPath host router delay (deals packet.flow.dst (log_at logs sender)) (comings packet.flow before)
    (charges_at router (input_time input) (charges before)) (coming input packet fate))
    → (fate.charge ≡ Some (record {
      flow = packet.flow;
      rights = steady.rights;
      second = router_second router.clock_offset steady.ask.time;
    })) × (fate.class ≡ Regular)
