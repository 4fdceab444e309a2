-- What is charged, no row refuses.
use Rattle.tva_laws.proofs.Common.{◌≡◌, ℕ, ◌+◌, ◌*◌, ◌≤◌, ◌<◌, Bool, true, false, not, ◌&&◌, ◌||◌, cond, ltb, leb, List, Option, Some, Ok, refl, Grant, RouterPlan, Shown, ShimData, PacketData, Charge, lives, holder, used, living_count, supersedes, list_verdict, nonce_rows, nonce_verdict, and_false, answer_to_cap, answer_to_shown, answer_to_nonce, judged_shim, PortLogs, arrival, handle, NoRowRefusesShown, NoRowRefusesNonce, NoRowRefusesKind, NoRowRefuses, arith, nat_tests}
use Rattle.std.proofs.Common.{slice_get, eqb-true}
use Rattle.tva_shim.specs.declared.packets.Carried.TheVariants as carried
use Rattle.tva_flow.specs.declared.verdicts.Verdict.TheVariants as verdict
use Rattle.tva_router.specs.declared.judged.Arrival.{Arrival}
use Rattle.tva_laws.proofs.Charging.{before_end, no_sooner, authorised_by, by_answer, no_request}

-- ## rows

list_parts : (b c d : Bool) (g k : Grant) → cond b verdict.Superseded (cond c verdict.OverN (cond d verdict.CacheFull (verdict.Authorised g))) ≡ verdict.Authorised k → (b ≡ false) × (c ≡ false) × (d ≡ false) × (g ≡ k)
list_parts b c d g k e = grind (arith, nat_tests)

opens : (b : Bool) (slots count : ℕ) → (not b && leb slots count) ≡ false → b ≡ false → count < slots
opens b slots count h e = grind (arith, nat_tests, before_end)

both : (a b : Bool) → (not a || not b) ≡ false → (a ≡ true) × (b ≡ true)
both a b h = grind (arith, nat_tests)

-- where no row of the list's table holds of a grant
record Passes (slots : ℕ) (h : List Charge) (now : ℕ) (g : Grant) (bytes : ℕ) : Type 0 where
  current : lives h g.flow now ≡ true → supersedes (holder h g.flow) g ≡ false
  left : used h g now + bytes ≤ 1024 * g.rights.n
  room : lives h g.flow now ≡ false → living_count h now < slots

list_passes : (slots : ℕ) (h : List Charge) (now : ℕ) (g k : Grant) (bytes : ℕ) → list_verdict slots h now g bytes ≡ verdict.Authorised k → Passes slots h now g bytes × (g ≡ k)
unfolding list_verdict
list_passes slots h now g k bytes t =
    let r = list_parts (lives h g.flow now && supersedes (holder h g.flow) g) (ltb (1024 * g.rights.n) (used h g now + bytes)) (not (lives h g.flow now) && leb slots (living_count h now)) g k t in
    grind (arith, nat_tests, and_false, no_sooner)

-- ## what is shown

cap_only : (plan : RouterPlan) (h : List Charge) (a : Arrival) (shown : Shown) (o : Option ℕ) (g : Grant) → slice_get shown.caps shown.pointer ≡ o → answer_to_cap plan h a shown.rights o ≡ Ok g → NoRowRefusesShown plan h a shown g
cap_only plan h a shown o g s e = grind (arith, nat_tests, list_passes, authorised_by)

shown_only : (plan : RouterPlan) (h : List Charge) (a : Arrival) (shown : Shown) (g : Grant) → answer_to_shown plan h a shown ≡ Ok g → NoRowRefusesShown plan h a shown g
unfolding answer_to_shown
shown_only plan h a shown g e = cap_only plan h a shown (slice_get shown.caps shown.pointer) g refl e

held_only : (plan : RouterPlan) (h : List Charge) (a : Arrival) (nonce : ℕ) (o : Option Charge) (g : Grant) → holder h a.flow ≡ o → nonce_rows plan.clock_offset h a.time.0 a.flow nonce a.bytes o ≡ verdict.Authorised g → NoRowRefusesNonce plan h a nonce g
held_only plan h a nonce o g s t = grind (arith, nat_tests, both, before_end, no_sooner, eqb-true)

bare_only : (plan : RouterPlan) (h : List Charge) (a : Arrival) (nonce : ℕ) (g : Grant) → nonce_verdict plan.clock_offset h a.time.0 a.flow nonce a.bytes ≡ verdict.Authorised g → NoRowRefusesNonce plan h a nonce g
unfolding nonce_verdict
bare_only plan h a nonce g t = held_only plan h a nonce (holder h a.flow) g refl t

nonce_only : (plan : RouterPlan) (h : List Charge) (a : Arrival) (nonce : ℕ) (g : Grant) → answer_to_nonce plan h a nonce ≡ Ok g → NoRowRefusesNonce plan h a nonce g
unfolding answer_to_nonce
nonce_only plan h a nonce g e = bare_only plan h a nonce g (authorised_by (nonce_verdict plan.clock_offset h a.time.0 a.flow nonce a.bytes) g e)

-- ## judgements

shim_only : (plan : RouterPlan) (h : List Charge) (a : Arrival) (shim : ShimData) (g : Grant) → (judged_shim plan h a shim).charge ≡ Some g → (shim.demoted ≡ false) × NoRowRefusesKind plan h a shim.kind g
unfolding judged_shim
shim_only plan h a shim g e = grind (arith, nat_tests, no_request, shown_only, by_answer, nonce_only)

-- a charged packet is below the hop limit, and no row refuses it
pub charged_only : (plan : RouterPlan) (h : List Charge) (logs : PortLogs) (now : ℕ) (from : Option ℕ) (p : PacketData) (g : Grant) → (handle plan h logs now from p).fate.charge ≡ Some g → (p.hops < 32) × NoRowRefuses plan h (arrival now from p) p.carried g
unfolding handle
charged_only plan h logs now from p g e = grind (arith, nat_tests, before_end, shim_only)
