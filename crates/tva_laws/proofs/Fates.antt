-- The fate of every arrival is by the router's tables.
use Rattle.tva_laws.proofs.Common.{◌≡◌, ℕ, ◌+◌, ◌*◌, ◌≤◌, ◌<◌, Bool, true, false, not, ◌&&◌, ◌||◌, ◌↔◌, cond, eqb, leb, List, is_some, Option, Some, None, Ok, refl, ap, ◌∙◌, le-ltb, inl, inr, cases_lt, cond-false, lt-leb, Grant, Fate, Dropped, RouterPlan, Shown, Kind, Carried, ShimData, PacketData, Charge, lives, holder, used, living_count, supersedes, list_verdict, nonce_verdict, Judged, Answer, answer_of, answer_to_shown, answer_to_nonce, judged_by, judged_request, judged_kind, judged_shim, judge, PortLogs, arrival, sent, way_to, handle, cause_of_kind, cause_in, cause_of, NoRowRefusesShown, NoRowRefusesNonce, NoRowRefusesKind, NoRowRefuses, IsFate, arith, nat_tests}
use Rattle.std.proofs.Common.{le-leb, eq-eqb}
use Rattle.tva_base.specs.declared.packet.Class.TheVariants as class
use Rattle.tva_base.specs.declared.packet.Cause.{Cause}
use Rattle.tva_base.specs.declared.packet.Cause.TheVariants as cause
use Rattle.tva_base.specs.declared.packet.DropCause.TheVariants.{HopLimit}
use Rattle.tva_shim.specs.declared.packets.Carried.TheVariants as carried
use Rattle.tva_flow.specs.declared.verdicts.Verdict.TheVariants as verdict
use Rattle.tva_router.specs.declared.judged.Arrival.{Arrival}
use Rattle.tva_router.proofs.Fates.{mark_told}
use Rattle.tva_laws.proofs.Only.{charged_only}

-- ## causes

-- what a request without room has
abbrev full : ℕ → Option Cause
full n = cond (eqb n 16) (Some cause.PathFull) None

shim_cause : (plan : RouterPlan) (h : List Charge) (a : Arrival) (shim : ShimData) → (judged_shim plan h a shim).cause ≡ cond shim.demoted None (cause_of_kind plan h a shim.kind)
unfolding judged_shim
shim_cause plan h a shim = grind (arith, nat_tests)

named : (plan : RouterPlan) (h : List Charge) (logs : PortLogs) (now : ℕ) (from : Option ℕ) (p : PacketData) → (handle plan h logs now from p).fate.cause ≡ cause_of plan h (arrival now from p) p
unfolding handle
named plan h logs now from p = grind (arith, nat_tests, shim_cause)

-- ## the hop limit, and the way

pub at_limit : (plan : RouterPlan) (h : List Charge) (logs : PortLogs) (now : ℕ) (from : Option ℕ) (p : PacketData) → 32 ≤ p.hops
    → ((handle plan h logs now from p).fate.cause ≡ None) × ((handle plan h logs now from p).fate.charge ≡ None) × ((handle plan h logs now from p).fate.outcome ≡ Dropped HopLimit)
unfolding handle
at_limit plan h logs now from p l = rw (le-leb 32 p.hops l) (refl, refl, refl)

pub on_way : (plan : RouterPlan) (h : List Charge) (logs : PortLogs) (now : ℕ) (from : Option ℕ) (p : PacketData) → p.hops < 32
    → (handle plan h logs now from p).fate.outcome ≡ sent logs (handle plan h logs now from p).fate.class (handle plan h logs now from p).onward (way_to plan p.flow.dst)
unfolding handle
on_way plan h logs now from p l = rw (lt-leb 32 p.hops l) refl

-- ## rows

has_room : (a : Bool) (slots count : ℕ) → (a ≡ false → count < slots) → (not a && leb slots count) ≡ false
has_room a slots count h = grind (arith, nat_tests, lt-leb)

both : (a b : Bool) → a ≡ true → b ≡ true → (not a || not b) ≡ false
both a b e f = search

no_row : (b c d : Bool) (g : Grant) → b ≡ false → c ≡ false → d ≡ false → cond b verdict.Superseded (cond c verdict.OverN (cond d verdict.CacheFull (verdict.Authorised g))) ≡ verdict.Authorised g
no_row b c d g e f i = search

list_taken : (slots : ℕ) (h : List Charge) (now : ℕ) (g : Grant) (bytes : ℕ) → (lives h g.flow now ≡ true → supersedes (holder h g.flow) g ≡ false) → used h g now + bytes ≤ 1024 * g.rights.n → (lives h g.flow now ≡ false → living_count h now < slots)
    → list_verdict slots h now g bytes ≡ verdict.Authorised g
unfolding list_verdict
list_taken slots h now g bytes current left room = grind (arith, nat_tests, le-ltb, has_room)

shown_taken : (plan : RouterPlan) (h : List Charge) (a : Arrival) (shown : Shown) (g : Grant) → NoRowRefusesShown plan h a shown g → answer_to_shown plan h a shown ≡ Ok g
unfolding answer_to_shown
shown_taken plan h a shown g n = grind (arith, nat_tests, list_taken)

nonce_taken : (plan : RouterPlan) (h : List Charge) (a : Arrival) (nonce : ℕ) (g : Grant) → NoRowRefusesNonce plan h a nonce g → nonce_verdict plan.clock_offset h a.time.0 a.flow nonce a.bytes ≡ verdict.Authorised g
unfolding nonce_verdict
nonce_taken plan h a nonce g n = grind (arith, nat_tests, both, eq-eqb, lt-leb, le-ltb)

bare_taken : (plan : RouterPlan) (h : List Charge) (a : Arrival) (nonce : ℕ) (g : Grant) → NoRowRefusesNonce plan h a nonce g → answer_to_nonce plan h a nonce ≡ Ok g
unfolding answer_to_nonce
bare_taken plan h a nonce g n = ap answer_of (nonce_taken plan h a nonce g n)

-- a packet is charged to a grant
abbrev IsTaken : Grant → Judged → Type 0
IsTaken g j = j.charge ≡ Some g

shim_taken : (plan : RouterPlan) (h : List Charge) (a : Arrival) (shim : ShimData) (g : Grant) → shim.demoted ≡ false → NoRowRefusesKind plan h a shim.kind g → IsTaken g (judged_shim plan h a shim)
unfolding judged_shim
shim_taken plan h a shim g d n = grind (arith, nat_tests, cond-false, shown_taken, bare_taken)

judge_taken : (plan : RouterPlan) (h : List Charge) (a : Arrival) (c : Carried) (g : Grant) → NoRowRefuses plan h a c g → IsTaken g (judge plan h a c)
judge_taken plan h a c g n = grind (arith, nat_tests, shim_taken)

taken : (plan : RouterPlan) (h : List Charge) (logs : PortLogs) (now : ℕ) (from : Option ℕ) (p : PacketData) (g : Grant) → p.hops < 32 → NoRowRefuses plan h (arrival now from p) p.carried g
    → (handle plan h logs now from p).fate.charge ≡ Some g
unfolding handle
taken plan h logs now from p g l n = rw (lt-leb 32 p.hops l) (judge_taken plan h (arrival now from p) p.carried g n)

-- ## the class

-- regular exactly where it is charged
abbrev IsRegularWhereCharged : Judged → Type 0
IsRegularWhereCharged j = (j.class ≡ class.Regular) ↔ (is_some j.charge ≡ true)

answer_regular : (shim changed : ShimData) (o : Answer) → IsRegularWhereCharged (judged_by shim changed o)
answer_regular shim changed o = grind (arith, nat_tests)

request_regular : (plan : RouterPlan) (a : Arrival) (shim : ShimData) → IsRegularWhereCharged (judged_request plan a shim)
request_regular plan a shim = grind (arith, nat_tests)

kind_regular : (plan : RouterPlan) (h : List Charge) (a : Arrival) (shim : ShimData) (kind : Kind) → IsRegularWhereCharged (judged_kind plan h a shim kind)
kind_regular plan h a shim kind = grind (arith, nat_tests, request_regular plan a shim)

shim_regular : (plan : RouterPlan) (h : List Charge) (a : Arrival) (shim : ShimData) → IsRegularWhereCharged (judged_shim plan h a shim)
unfolding judged_shim
shim_regular plan h a shim = grind (arith, nat_tests, kind_regular)

judge_regular : (plan : RouterPlan) (h : List Charge) (a : Arrival) (c : Carried) → IsRegularWhereCharged (judge plan h a c)
judge_regular plan h a c = grind (arith, nat_tests, shim_regular)

regular : (plan : RouterPlan) (h : List Charge) (logs : PortLogs) (now : ℕ) (from : Option ℕ) (p : PacketData) → p.hops < 32
    → ((handle plan h logs now from p).fate.class ≡ class.Regular) ↔ (is_some (handle plan h logs now from p).fate.charge ≡ true)
unfolding handle
regular plan h logs now from p l = rw (lt-leb 32 p.hops l) (judge_regular plan h (arrival now from p) p.carried)

-- ## fates

pub is_fate : (plan : RouterPlan) (h : List Charge) (logs : PortLogs) (now : ℕ) (from : Option ℕ) (p : PacketData) → IsFate plan h logs now from p (handle plan h logs now from p).fate (handle plan h logs now from p).onward
is_fate plan h logs now from p = grind (arith, nat_tests, named, at_limit, on_way, charged_only, taken, regular, mark_told)

-- ## what is refused

passes : (plan : RouterPlan) (h : List Charge) (a : Arrival) (c : Carried) (g : Grant) → NoRowRefuses plan h a c g → cause_in plan h a c ≡ None
passes plan h a c g n = grind (arith, nat_tests, cond-false, shown_taken, bare_taken)

no_cause : (c : Cause) (o : Option Cause) → o ≡ Some c → o ≡ None → ⊥
no_cause c o e k = cc

uncharged : (o : Option Grant) → ((g : Grant) → o ≡ Some g → ⊥) → is_some o ≡ true → ⊥
uncharged o k e = grind (arith, nat_tests)

-- what has a cause isn't regular
pub refused : (plan : RouterPlan) (h : List Charge) (logs : PortLogs) (now : ℕ) (from : Option ℕ) (p : PacketData) (fate : Fate) (onward : PacketData) (c : Cause) → IsFate plan h logs now from p fate onward → fate.cause ≡ Some c → fate.class ≡ class.Regular → ⊥
refused plan h logs now from p fate onward c f is e =
    let a : Arrival = arrival now from p in
    elim (cases_lt p.hops 32) [
      | inl below ↦ uncharged fate.charge
          (λ g k. no_cause c fate.cause is (f.named ∙ (ap (λ (b : Bool). cond b None (cause_in plan h a p.carried)) (lt-leb 32 p.hops below) ∙ passes plan h a p.carried g ((f.charged g).0 k).1)))
          ((f.regular below).0 e)
      | inr limit ↦ no_cause c fate.cause is (f.stopped limit).0
    ]
