-- A packet that shows a grant, as it comes unmarked to a router, shows what it was prepared with.
use Rattle.tva_laws.proofs.Common.{◌≡◌, ℕ, Bool, true, false, cond, List, Option, Some, ap, ◌∙◌, arith, option_map, IfSome, Grant, RouterPlan, Carried, ShimData, PacketData, packet_length, nonce_in, Charge, last_charge, holder, arrival, is_marked, shows_grant, NoRowRefusesNonce, NoRowRefuses, KeepsShim, KeepsCarried, Keeps, Mile, charges_in, last_came, Way, OfNonce, shows, shows_nonce, ShowsMinted, nat_tests}
use Rattle.tva_shim.specs.declared.packets.Carried.TheVariants as carried
use Rattle.tva_shim.proofs.Sizes.{length-layout}
use Rattle.tva_sender.specs.declared.shape.Shape.TheVariants as shapes
use Rattle.tva_laws.specs.SteadyMiles.{IsShown}
use Rattle.tva_laws.proofs.Regular.{ShowsGrant}
use Rattle.tva_laws.proofs.Dealt.{shape_of_kind, shape_in, counted}

-- both carry unmarked shims, and that which came shows a grant
pub record AreShims (a b : Carried) : Type 0 where
  pub made : ShimData
  pub came : ShimData
  pub made_is : a ≡ carried.Shim made
  pub came_is : b ≡ carried.Shim came
  pub plain : made.demoted ≡ false
  pub unmarked : came.demoted ≡ false
  pub keeps : KeepsShim made came
  pub shown : shows_grant came.kind ≡ true

pub are_shims : (a b : Carried) → KeepsCarried a b → is_marked b ≡ false → shows b ≡ true → AreShims a b
are_shims a b k u s = grind (arith, nat_tests)

pub shape_is : (a b : Carried) (v : AreShims a b) → shape_in a ≡ shape_of_kind v.made.kind
shape_is a b v = ap shape_in v.made_is ∙ ap (λ (c : Bool). cond c shapes.Legacy (shape_of_kind v.made.kind)) v.plain

-- ## its length

pub same_length : (p q : PacketData) → Keeps p q → (v : AreShims p.carried q.carried) → packet_length q ≡ counted p
same_length p q k v = grind (arith, nat_tests, counted, shape_is, length-layout)

-- ## what it shows

-- at a router, over what it charged before to grants that are kept, with the time at which the ask of the grant came
pub record At (w : Way) (router : RouterPlan) (q : PacketData) (ms : List Mile) (h : List Charge) (now : ℕ) : Type 0 where
  pub flow_is : w.flow ≡ q.flow
  pub master_is : w.master ≡ router.master
  pub offset_is : w.offset ≡ router.clock_offset
  pub keeps : Grant → Bool
  pub charges_are : (d : Charge) → holder h q.flow ≡ Some d → keeps d.grant ≡ true → last_charge (charges_in ms) ≡ Some d

abbrev pub at_router : (w : Way) (router : RouterPlan) (q : PacketData) (ms : List Mile) (h : List Charge) (now : ℕ) → w.flow ≡ q.flow
    → w.master ≡ router.master → w.offset ≡ router.clock_offset → (keeps : Grant → Bool)
    → ((d : Charge) → holder h q.flow ≡ Some d → keeps d.grant ≡ true → last_charge (charges_in ms) ≡ Some d) → At w router q ms h now
at_router w router q ms h now f m o keeps c = record { flow_is = f; master_is = m; offset_is = o; keeps = keeps; charges_are = c }

held_by : (w : Way) (router : RouterPlan) (q : PacketData) (ms : List Mile) (h : List Charge) (now : ℕ) (a : At w router q ms h now)
    (on : Option ℕ) (nonce : ℕ) (g : Grant) → a.keeps g ≡ true → NoRowRefusesNonce router h (arrival now on q) nonce g
    → option_map (λ (d : Charge). d.grant) (last_charge (charges_in ms)) ≡ Some g
held_by w router q ms h now a on nonce g kept r = grind (arith, nat_tests)

-- a packet that was charged shows its grant as it was prepared
pub shown_as_made : (w : Way) (router : RouterPlan) (p q : PacketData) (ms : List Mile) (h : List Charge) (now : ℕ)
    (a : At w router q ms h now) (on : Option ℕ) (c : Charge) (v : AreShims p.carried q.carried)
    → c.time ≡ now → c.nonce ≡ nonce_in q.carried → a.keeps c.grant ≡ true → NoRowRefuses router h (arrival now on q) q.carried c.grant → IfSome (last_came ms)
    (λ t. ShowsMinted router q q.carried t) → IsShown w ms (shape_in p.carried) c
shown_as_made w router p q ms h now a on c v t n kept r m = grind (arith, nat_tests, shape_is)

-- ## what the last packet shows

pub shows_as_made : (w : Way) (router : RouterPlan) (p q : PacketData) (ms : List Mile) (h : List Charge) (now : ℕ)
    (a : At w router q ms h now) (v : AreShims p.carried q.carried)
    → IfSome (last_came ms) (λ t. ShowsMinted router q q.carried t) → ShowsGrant w ms (shape_in p.carried) q.carried
shows_as_made w router p q ms h now a v m = grind (arith, nat_tests, shape_of_kind, shape_is)

pub of_nonce : (a b : Carried) (v : AreShims a b) (P : Type 0) → (shows_nonce b ≡ true → P) → OfNonce (shape_in a) P
of_nonce a b v P k = grind (arith, nat_tests, shape_is a b v)

-- ## what is minted

pub minted_with : (a b : RouterPlan) (p : PacketData) (t : ℕ) → a.master ≡ b.master → a.clock_offset ≡ b.clock_offset → (c : Carried)
    → ShowsMinted a p c t → ShowsMinted b p c t
minted_with a b p t e o c k = grind (arith, nat_tests)
