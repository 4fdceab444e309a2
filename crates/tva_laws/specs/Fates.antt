-- Product: why a router refuses what an arrival claims, and which arrivals no row refuses.
use Rattle.std.specs.Prelude.{◌≡◌, ◌↔◌, ℕ, ◌+◌, ◌*◌, ◌<◌, ◌≤◌, nat_le, ◌==◌, ◌||◌, true, false}
use Rattle.std.specs.Prelude.{if◌then◌else◌, List, length}
use Rattle.std.specs.Prelude.{slice_get, is_some, Option, Some, None}
use Rattle.std.specs.Result.{result_err}
use Rattle.tva_base.specs.declared.packet.Grant.{Grant}
use Rattle.tva_base.specs.declared.packet.Class.TheVariants as class
use Rattle.tva_base.specs.declared.packet.Cause.{Cause}
use Rattle.tva_base.specs.declared.packet.Cause.TheVariants as cause
use Rattle.tva_base.specs.declared.packet.Fate.{Fate}
use Rattle.tva_base.specs.declared.packet.Outcome.TheVariants.{Dropped}
use Rattle.tva_base.specs.declared.packet.DropCause.TheVariants.{HopLimit}
use Rattle.tva_base.specs.declared.plan.RouterPlan.{RouterPlan}
use Rattle.tva_shim.specs.declared.kinds.Shown.{Shown}
use Rattle.tva_shim.specs.declared.kinds.Kind.{Kind}
use Rattle.tva_shim.specs.declared.kinds.Kind.TheVariants as kinds
use Rattle.tva_shim.specs.declared.packets.Carried.{Carried}
use Rattle.tva_shim.specs.declared.packets.Carried.TheVariants as carried
use Rattle.tva_shim.specs.Packets.{PacketData}
use Rattle.tva_caps.specs.Check.{check_of}
use Rattle.tva_caps.specs.declared.minters.Checked.TheVariants.{Valid}
use Rattle.tva_flow.specs.Charges.{Charge, lives, holder, used, living_count}
use Rattle.tva_flow.specs.Verdicts.{supersedes}
use Rattle.tva_router.specs.declared.judged.Arrival.{Arrival}
use Rattle.tva_router.specs.Judging.{second_of, answer_to_shown, answer_to_nonce}
use Rattle.tva_router.specs.Handling.{PortLogs, arrival, sent, way_to}
use Rattle.tva_router.specs.Marks.{is_marked, calls_for_mark}

-- ## causes

-- an unmarked shim, by its kind: a request without room for an entry, or the first row that refuses what is shown
abbrev pub cause_of_kind : RouterPlan → List Charge → Arrival → Kind → Option Cause
cause_of_kind plan h a (kinds.Request entries) = if length entries == 16 then Some cause.PathFull else None
cause_of_kind plan h a (kinds.List shown) = result_err (answer_to_shown plan h a shown)
cause_of_kind plan h a (kinds.Nonce nonce) = result_err (answer_to_nonce plan h a nonce)
cause_of_kind plan h a (kinds.Renewal shown) = result_err (answer_to_shown plan h a shown)

-- a packet without a shim or with a marked one has no cause
abbrev pub cause_in : RouterPlan → List Charge → Arrival → Carried → Option Cause
cause_in plan h a carried.Nothing = None
cause_in plan h a (carried.Shim shim) = if shim.demoted then None else cause_of_kind plan h a shim.kind
cause_in plan h a (carried.Malformed size) = Some cause.Malformed

-- nor has one at the hop limit
abbrev pub cause_of : RouterPlan → List Charge → Arrival → PacketData → Option Cause
cause_of plan h a p = if nat_le 32 p.hops then None else cause_in plan h a p.carried

-- ## rows

-- no row refuses a packet that shows capabilities: the one at the pointer is valid for the grant, no other
-- grant of a living flow supersedes it, its bytes are left, and its flow lives or has room
pub record NoRowRefusesShown (plan : RouterPlan) (h : List Charge) (a : Arrival) (shown : Shown) (grant : Grant)
    : Type 0 where
  pub cap : ℕ
  pub shows : slice_get shown.caps shown.pointer ≡ Some cap
  pub valid : check_of plan.master (second_of plan a) a.flow cap shown.rights ≡ Valid grant
  pub current : lives h grant.flow a.time.0 ≡ true → supersedes (holder h grant.flow) grant ≡ false
  pub left : used h grant a.time.0 + a.bytes ≤ 1024 * grant.rights.n
  pub room : lives h grant.flow a.time.0 ≡ false → living_count h a.time.0 < plan.slots

-- no row refuses a packet that shows a nonce alone: its flow lives and the nonce is its holder's, whose grant
-- has seconds and bytes left
pub record NoRowRefusesNonce (plan : RouterPlan) (h : List Charge) (a : Arrival) (nonce : ℕ) (grant : Grant)
    : Type 0 where
  pub charge : Charge
  pub held : holder h a.flow ≡ Some charge
  pub grant_is : charge.grant ≡ grant
  pub nonce_is : charge.nonce ≡ nonce
  pub living : lives h a.flow a.time.0 ≡ true
  pub until : second_of plan a < grant.second + grant.rights.t
  pub left : used h grant a.time.0 + a.bytes ≤ 1024 * grant.rights.n

abbrev pub NoRowRefusesKind : RouterPlan → List Charge → Arrival → Kind → Grant → Type 0
NoRowRefusesKind plan h a (kinds.Request entries) grant = ⊥
NoRowRefusesKind plan h a (kinds.List shown) grant = NoRowRefusesShown plan h a shown grant
NoRowRefusesKind plan h a (kinds.Nonce nonce) grant = NoRowRefusesNonce plan h a nonce grant
NoRowRefusesKind plan h a (kinds.Renewal shown) grant = NoRowRefusesShown plan h a shown grant

-- no row refuses an unmarked packet that shows a grant
abbrev pub NoRowRefuses : RouterPlan → List Charge → Arrival → Carried → Grant → Type 0
NoRowRefuses plan h a (carried.Shim shim) grant = (shim.demoted ≡ false) × NoRowRefusesKind plan h a shim.kind grant
NoRowRefuses plan h a _ grant = ⊥

-- ## fates

-- The fate of a packet that comes in, over the charges and the logs of links before it. It has a cause exactly
-- where one is named, and that one. At the hop limit it has none, isn't charged, and is dropped. Below it, it is
-- dropped or queued as its way and its link's port give; it is charged to a grant exactly where no row refuses it, and
-- regular exactly where it is charged. It goes on with the mark exactly where it had it, or has a cause other than a
-- malformed shim.
pub record IsFate (plan : RouterPlan) (h : List Charge) (logs : PortLogs) (now : ℕ) (from : Option ℕ) (p : PacketData)
    (fate : Fate) (onward : PacketData) : Type 0 where
  pub named : fate.cause ≡ cause_of plan h (arrival now from p) p
  pub stopped : 32 ≤ p.hops → (fate.cause ≡ None) × (fate.charge ≡ None) × (fate.outcome ≡ Dropped HopLimit)
  pub way : p.hops < 32 → fate.outcome ≡ sent logs fate.class onward (way_to plan p.flow.dst)
  pub charged : (grant : Grant)
      → (fate.charge ≡ Some grant) ↔ ((p.hops < 32) × NoRowRefuses plan h (arrival now from p) p.carried grant)
  pub regular : p.hops < 32 → (fate.class ≡ class.Regular) ↔ (is_some fate.charge ≡ true)
  pub mark : is_marked onward.carried ≡ (is_marked p.carried || calls_for_mark fate.cause)
