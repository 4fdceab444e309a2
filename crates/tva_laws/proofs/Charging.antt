-- What a router charges comes in its grant's seconds, and is the next charge after those before it.
use Rattle.tva_laws.proofs.Common.{◌≡◌, ℕ, ◌-◌, ◌≤◌, ◌<◌, true, false, cond, ltb, leb, List, [], Option, Some, None, Ok, arith, nat_tests, Flow, Rights, Grant, RouterPlan, Shown, Kind, Carried, ShimData, with_next_pointer, PacketData, kind_nonce, nonce_in, check_of, checked_at, IsSecondOf, Checked, Verdict, Charge, charge, nonce_verdict, NoChargeLater, IsNext, AreNext, IsWithinSeconds, AreTimely, flow_is, each-filter, each-passes, Answer, second_of, answer_of, answer_to_checked, answer_to_cap, answer_to_shown, answer_to_nonce, judged, judged_by, judged_request, judged_kind, judged_shim, judge, PortLogs, arrival, stopped, forwarded, handle}
use Rattle.std.proofs.Common.{slice_get}
use Rattle.tva_base.specs.declared.packet.Class.TheVariants as class
use Rattle.tva_shim.specs.declared.entries.Entry as entries
use Rattle.tva_shim.specs.declared.kinds.Kind.TheVariants as kinds
use Rattle.tva_shim.specs.declared.packets.Carried.TheVariants as carried
use Rattle.tva_caps.specs.declared.minters.Checked.TheVariants as checks
use Rattle.tva_flow.specs.declared.verdicts.Verdict.TheVariants as verdict
use Rattle.tva_flow.proofs.Rows.{list_rows, held}
use Rattle.tva_flow.proofs.Timely.{held-timely}
use Rattle.tva_router.specs.declared.judged.Arrival.{Arrival}
use Rattle.tva_laws.proofs.Charges.{last-of}

-- ## a valid capability

pub before_end : (a b : ℕ) → leb a b ≡ false → b < a
before_end a b h = grind (arith, nat_tests)

pub no_sooner : (a b : ℕ) → ltb a b ≡ false → b ≤ a
no_sooner a b h = grind (arith, nat_tests)

-- it is shown in one of its grant's seconds, of which there is one
valid_seconds : (master : List ℕ) (second : ℕ) (flow : Flow) (shown : ℕ) (rights : Rights) (g : Grant) → check_of master second flow shown rights ≡ checks.Valid g → IsSecondOf g second × (1 ≤ g.rights.t)
unfolding check_of checked_at
valid_seconds master second flow shown rights g e = grind (arith, nat_tests, before_end, no_sooner)

-- ## charges before

-- ## answers

-- a router with charges that a cache can have and that are timely, at a time up to the horizon that is no earlier
pub record IsReady (plan : RouterPlan) (h : List Charge) (a : Arrival) : Type 0 where
  pub clock : plan.clock_offset ≤ 1000000000000000
  pub time : a.time.0 ≤ 1000000000000000
  pub past : NoChargeLater a.time.0 h
  pub legal : AreNext plan.slots plan.clock_offset [] h
  pub timely : AreTimely plan.clock_offset h
  pub sized : (20 ≤ a.bytes) × (a.bytes ≤ 2048)

-- the charge to a grant is the next one, in one of the grant's seconds
pub record IsCharged (plan : RouterPlan) (h : List Charge) (a : Arrival) (nonce : ℕ) (g : Grant) : Type 0 where
  pub next : IsNext plan.slots plan.clock_offset h (charge a.time.0 g nonce a.bytes)
  pub seconds : IsWithinSeconds plan.clock_offset a.time.0 g

pub authorised_by : (v : Verdict) (g : Grant) → answer_of v ≡ Ok g → v ≡ verdict.Authorised g
authorised_by v g e = grind (arith, nat_tests)

by_checked : (plan : RouterPlan) (h : List Charge) (a : Arrival) (nonce : ℕ) (c : Checked) (g : Grant) → IsReady plan h a → ((k : Grant) → c ≡ checks.Valid k → IsSecondOf k (second_of plan a) × (1 ≤ k.rights.t)) → answer_to_checked plan h a c ≡ Ok g → IsCharged plan h a nonce g
by_checked plan h a nonce c g r s e = grind (arith, nat_tests, authorised_by, list_rows)

by_cap : (plan : RouterPlan) (h : List Charge) (a : Arrival) (nonce : ℕ) (rights : Rights) (o : Option ℕ) (g : Grant) → IsReady plan h a → answer_to_cap plan h a rights o ≡ Ok g → IsCharged plan h a nonce g
by_cap plan h a nonce rights None g r e = absurd (cc)
by_cap plan h a nonce rights (Some cap) g r e =
    by_checked plan h a nonce (check_of plan.master (second_of plan a) a.flow cap rights) g r (λ k q. valid_seconds plan.master (second_of plan a) a.flow cap rights k q) e

by_shown : (plan : RouterPlan) (h : List Charge) (a : Arrival) (shown : Shown) (g : Grant) → IsReady plan h a → answer_to_shown plan h a shown ≡ Ok g → IsCharged plan h a shown.nonce g
unfolding answer_to_shown
by_shown plan h a shown g r e = by_cap plan h a shown.nonce shown.rights (slice_get shown.caps shown.pointer) g r e

by_nonce : (plan : RouterPlan) (h : List Charge) (a : Arrival) (nonce : ℕ) (g : Grant) → IsReady plan h a → answer_to_nonce plan h a nonce ≡ Ok g → IsCharged plan h a nonce g
unfolding answer_to_nonce
by_nonce plan h a nonce g r e =
    let t = authorised_by (nonce_verdict plan.clock_offset h a.time.0 a.flow nonce a.bytes) g e in
    let w = held plan.clock_offset h a.time.0 a.flow nonce a.bytes g t in
    grind (arith, nat_tests, last-of, each-passes, flow_is, each-filter, held-timely)

-- ## judgements

pub by_answer : (shim changed : ShimData) (o : Answer) (g : Grant) → (judged_by shim changed o).charge ≡ Some g → o ≡ Ok g
by_answer shim changed o g e = grind (arith, nat_tests)

pub no_request : (plan : RouterPlan) (a : Arrival) (shim : ShimData) (g : Grant) → (judged_request plan a shim).charge ≡ Some g → ⊥
no_request plan a shim g e = grind (arith, nat_tests)

by_kind : (plan : RouterPlan) (h : List Charge) (a : Arrival) (shim : ShimData) (kind : Kind) (g : Grant) → IsReady plan h a → (judged_kind plan h a shim kind).charge ≡ Some g → IsCharged plan h a (kind_nonce kind) g
by_kind plan h a shim (kinds.Request entries) g r e = absurd (no_request plan a shim g e)
by_kind plan h a shim (kinds.List shown) g r e = by_shown plan h a shown g r (by_answer shim (with_next_pointer shim) (answer_to_shown plan h a shown) g e)
by_kind plan h a shim (kinds.Nonce nonce) g r e = by_nonce plan h a nonce g r (by_answer shim shim (answer_to_nonce plan h a nonce) g e)
by_kind plan h a shim (kinds.Renewal shown) g r e = search (arith, nat_tests, by_shown, by_answer)

by_shim : (plan : RouterPlan) (h : List Charge) (a : Arrival) (shim : ShimData) (g : Grant) → IsReady plan h a → (judged_shim plan h a shim).charge ≡ Some g → IsCharged plan h a (kind_nonce shim.kind) g
unfolding judged_shim
by_shim plan h a shim g r e =
    (elim shim.demoted as (λ b. (cond b (judged class.Legacy None None (carried.Shim shim)) (judged_kind plan h a shim shim.kind)).charge ≡ Some g → IsCharged plan h a (kind_nonce shim.kind) g) [
      | true ↦ λ k. absurd (cc)
      | false ↦ λ k. by_kind plan h a shim shim.kind g r k
    ]) e

by_judge : (plan : RouterPlan) (h : List Charge) (a : Arrival) (c : Carried) (g : Grant) → IsReady plan h a → (judge plan h a c).charge ≡ Some g → IsCharged plan h a (nonce_in c) g
by_judge plan h a carried.Nothing g r e = absurd (cc)
by_judge plan h a (carried.Malformed size) g r e = absurd (cc)
by_judge plan h a (carried.Shim shim) g r e = by_shim plan h a shim g r e

-- what an arrival is charged to
pub charge_next : (plan : RouterPlan) (h : List Charge) (logs : PortLogs) (now : ℕ) (from : Option ℕ) (p : PacketData) (g : Grant) → IsReady plan h (arrival now from p) → (handle plan h logs now from p).fate.charge ≡ Some g → IsCharged plan h (arrival now from p) (nonce_in p.carried) g
unfolding handle
charge_next plan h logs now from p g r e =
    let a : Arrival = arrival now from p in
    (elim (leb 32 p.hops) as (λ b. (cond b (stopped p) (forwarded plan logs now p (judge plan h a p.carried))).fate.charge ≡ Some g → IsCharged plan h a (nonce_in p.carried) g) [
      | true ↦ λ k. absurd (cc)
      | false ↦ λ k. by_judge plan h a p.carried g r k
    ]) e
