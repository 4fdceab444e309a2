-- On a steady path a router charges what shows a grant to the grant that was taken last, and takes it as regular.
use Rattle.tva_laws.proofs.Common.{◌≡◌, ℕ, ◌<◌, false, List, Option, Some, Ok, IsSomeAnd, IfSome, cond-false, lt-leb, Class, Flow, Grant, Rights, RouterPlan, router_second, Shown, Kind, Carried, ShimData, PacketData, packet_length, precap_of, capability_of, Charge, Held, Shape, Mile, last_came, last_got, Way, grant_at, IsListTaken, IsNonceTaken, IsTaken, Judged, Answer, answer_to_shown, answer_to_nonce, judged_by, judged_kind, judged_shim, judge, PortLogs, handle, arith, nat_tests}
use Rattle.std.proofs.Common.{slice_get}
use Rattle.tva_base.specs.declared.packet.Class.TheVariants as class
use Rattle.tva_shim.specs.declared.kinds.Kind.TheVariants as kinds
use Rattle.tva_shim.specs.declared.packets.Carried.TheVariants as carried
use Rattle.tva_sender.specs.declared.shape.Shape.TheVariants as shape
use Rattle.tva_router.specs.declared.judged.Arrival.{Arrival}

-- ## what comes to a router as it was prepared

-- the way of a flow leads to that router
pub record LeadsTo (plan : RouterPlan) (flow : Flow) (w : Way) : Type 0 where
  pub flow_is : w.flow ≡ flow
  pub master_is : w.master ≡ plan.master
  pub offset_is : w.offset ≡ plan.clock_offset
  pub slots_are : w.slots ≡ plan.slots

-- with the rights of the grant that is held, the capability at the pointer is that of the pre-capability which the
-- last ask got at the router
pub record ShowsLast (w : Way) (miles : List Mile) (held : Held) (shown : Shown) : Type 0 where
  pub rights_are : shown.rights ≡ held.rights
  pub cap_is : IfSome (last_came miles) (λ came. slice_get shown.caps shown.pointer
      ≡ Some (capability_of (precap_of w.master w.flow (router_second w.offset came)) held.rights))

-- a kind shows a grant as it was prepared in that shape
abbrev pub ShowsShape : Way → List Mile → Shape → Kind → Type 0
ShowsShape w miles shape.Request kind = ⊥
ShowsShape w miles (shape.List held) kind =
    (shown : Shown) × (kind ≡ kinds.List shown) × ShowsLast w miles held shown
ShowsShape w miles (shape.NonceOnly nonce) kind = kind ≡ kinds.Nonce nonce
ShowsShape w miles (shape.Renewal held) kind =
    (shown : Shown) × (kind ≡ kinds.Renewal shown) × ShowsLast w miles held shown
ShowsShape w miles shape.Legacy kind = ⊥

-- an unmarked packet does
abbrev pub ShowsGrant : Way → List Mile → Shape → Carried → Type 0
ShowsGrant w miles s carried.Nothing = ⊥
ShowsGrant w miles s (carried.Shim shim) = (shim.demoted ≡ false) × ShowsShape w miles s shim.kind
ShowsGrant w miles s (carried.Malformed size) = ⊥

-- ## what the router makes of it

-- the grant that was taken last, as its ask came to the router
pub record IsLast (w : Way) (miles : List Mile) (g : Grant) : Type 0 where
  pub rights : Rights
  pub came : ℕ
  pub rights_are : last_got miles ≡ Some rights
  pub came_is : last_came miles ≡ Some came
  pub is : grant_at w rights came ≡ g

-- an answer authorises by it
record Passes (w : Way) (miles : List Mile) (o : Answer) : Type 0 where
  grant : Grant
  last : IsLast w miles grant
  answer : o ≡ Ok grant

list_passes : (plan : RouterPlan) (h : List Charge) (a : Arrival) (w : Way) (miles : List Mile) (held : Held) (shown : Shown) (o : Option ℕ) → last_came miles ≡ o → LeadsTo plan a.flow w → shown.rights ≡ held.rights
    → IfSome o (λ came. slice_get shown.caps shown.pointer ≡ Some (capability_of (precap_of w.master w.flow (router_second w.offset came)) held.rights))
    → IsSomeAnd o (λ came. IsListTaken w h miles held.rights came a.bytes a.time.0) → Passes w miles (answer_to_shown plan h a shown)
unfolding answer_to_shown
list_passes plan h a w miles held shown o e leads rights cap t = grind (arith, nat_tests)

nonce_passes : (plan : RouterPlan) (h : List Charge) (a : Arrival) (w : Way) (miles : List Mile) (nonce : ℕ) (o : Option ℕ) → last_came miles ≡ o → LeadsTo plan a.flow w → IsSomeAnd o (λ came. IsNonceTaken w h miles nonce came a.bytes a.time.0)
    → Passes w miles (answer_to_nonce plan h a nonce)
unfolding answer_to_nonce
nonce_passes plan h a w miles nonce o e leads t = grind (arith, nat_tests)

-- a packet is charged to it and regular
pub record IsRegularBy (w : Way) (miles : List Mile) (charge : Option Grant) (kind : Class) : Type 0 where
  pub grant : Grant
  pub last : IsLast w miles grant
  pub charge_is : charge ≡ Some grant
  pub class_is : kind ≡ class.Regular

abbrev IsJudgedBy : Way → List Mile → Judged → Type 0
IsJudgedBy w miles j = IsRegularBy w miles j.charge j.class

answer_regular : (w : Way) (miles : List Mile) (shim changed : ShimData) (o : Answer) → Passes w miles o → IsJudgedBy w miles (judged_by shim changed o)
answer_regular w miles shim changed o p = grind (arith, nat_tests)

kind_regular : (plan : RouterPlan) (h : List Charge) (a : Arrival) (shim : ShimData) (w : Way) (miles : List Mile) (s : Shape) → LeadsTo plan a.flow w → IsTaken w h miles s a.bytes a.time.0 → ShowsShape w miles s shim.kind
    → IsJudgedBy w miles (judged_kind plan h a shim shim.kind)
kind_regular plan h a shim w miles s leads t k = grind (arith, nat_tests, list_passes, answer_regular, nonce_passes)

shim_regular : (plan : RouterPlan) (h : List Charge) (a : Arrival) (shim : ShimData) (w : Way) (miles : List Mile) (s : Shape) → LeadsTo plan a.flow w → IsTaken w h miles s a.bytes a.time.0 → shim.demoted ≡ false → ShowsShape w miles s shim.kind
    → IsJudgedBy w miles (judged_shim plan h a shim)
unfolding judged_shim
shim_regular plan h a shim w miles s leads t d k = grind (arith, nat_tests, cond-false, kind_regular)

judge_regular : (plan : RouterPlan) (h : List Charge) (a : Arrival) (c : Carried) (w : Way) (miles : List Mile) (s : Shape) → LeadsTo plan a.flow w → IsTaken w h miles s a.bytes a.time.0 → ShowsGrant w miles s c → IsJudgedBy w miles (judge plan h a c)
judge_regular plan h a c w miles s leads t k = grind (arith, nat_tests, shim_regular)

pub steady_regular : (plan : RouterPlan) (h : List Charge) (logs : PortLogs) (now : ℕ) (from : Option ℕ) (p : PacketData) (w : Way) (miles : List Mile) (s : Shape) → p.hops < 32 → LeadsTo plan p.flow w → IsTaken w h miles s (packet_length p) now
    → ShowsGrant w miles s p.carried → IsRegularBy w miles (handle plan h logs now from p).fate.charge (handle plan h logs now from p).fate.class
unfolding handle
steady_regular plan h logs now from p w miles s below leads taken k = search (arith, nat_tests, lt-leb, judge_regular)
