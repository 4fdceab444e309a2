-- What every fate tells: the mark, the charge, and what was queued.
use Rattle.tva_router.proofs.Common.{◌≡◌, ℕ, Bool, true, false, ◌||◌, cond, eqb, leb, List, [], length, slice_get, Option, Some, None, Ok, Err, refl, sym, LinkLimits, Rights, Class, RouterPlan, Shown, Kind, Carried, ShimData, entries_of, with_entry, with_next_pointer, with_fresh, PacketData, packet_length, check_of, Checked, Offered, Verdict, Charge, list_verdict, nonce_verdict, Entry, queued_by, Arrival, Answer, tag_of, second_of, fresh_for, answer_of, answer_to_checked, answer_to_cap, answer_to_shown, answer_to_nonce, judged, marked, judged_by, judged_request, judged_kind, judged_shim, judge, Judged, key_of, nonce_in, PortLogs, Handled, offered, outcome_of, sent, queued, entered_by, entered, goes_on, charged_by, arrival, way_to, stopped, forwarded, handle, arith, rules, nat_tests, common_steps}
use Rattle.tva_base.specs.declared.packet.Class.TheVariants as class
use Rattle.tva_base.specs.declared.packet.Cause.TheVariants as cause
use Rattle.tva_shim.specs.declared.entries.Entry as entries
use Rattle.tva_shim.specs.declared.kinds.Kind.TheVariants as kinds
use Rattle.tva_shim.specs.declared.packets.Carried.TheVariants as carried
use Rattle.tva_caps.specs.declared.minters.Checked.TheVariants as checks
use Rattle.tva_drr.specs.declared.offered.Offered.TheVariants as offers
use Rattle.tva_flow.specs.declared.verdicts.Verdict.TheVariants as verdict
use Rattle.tva_router.specs.Marks.{is_marked, calls_for_mark}

-- ## the mark

-- the cause of a refusal calls for the mark
abbrev CallsForMark : Answer → Type 0
CallsForMark (Ok grant) = Unit {0}
CallsForMark (Err c) = calls_for_mark (Some c) ≡ true

of_verdict : (v : Verdict) → CallsForMark (answer_of v)
of_verdict v = grind arith

of_checked : (plan : RouterPlan) (h : List Charge) (a : Arrival) (c : Checked) → CallsForMark (answer_to_checked plan h a c)
of_checked plan h a c = grind (arith, of_verdict)

of_cap : (plan : RouterPlan) (h : List Charge) (a : Arrival) (rights : Rights) (cap : Option ℕ) → CallsForMark (answer_to_cap plan h a rights cap)
of_cap plan h a rights None = refl
of_cap plan h a rights (Some cap) = of_checked plan h a (check_of plan.master (second_of plan a) a.flow cap rights)

of_shown : (plan : RouterPlan) (h : List Charge) (a : Arrival) (shown : Shown) → CallsForMark (answer_to_shown plan h a shown)
unfolding answer_to_shown
of_shown plan h a shown = of_cap plan h a shown.rights (slice_get shown.caps shown.pointer)

of_nonce : (plan : RouterPlan) (h : List Charge) (a : Arrival) (nonce : ℕ) → CallsForMark (answer_to_nonce plan h a nonce)
unfolding answer_to_nonce
of_nonce plan h a nonce = of_verdict (nonce_verdict plan.clock_offset h a.time.0 a.flow nonce a.bytes)

by_answer : (shim changed : ShimData) (a : Answer) → changed.demoted ≡ false → CallsForMark a → is_marked (judged_by shim changed a).carried ≡ calls_for_mark (judged_by shim changed a).cause
by_answer shim changed (Ok grant) e k = e
by_answer shim changed (Err c) e k = sym k

by_request : (plan : RouterPlan) (a : Arrival) (shim : ShimData) → shim.demoted ≡ false → is_marked (judged_request plan a shim).carried ≡ calls_for_mark (judged_request plan a shim).cause
by_request plan a shim e = grind arith

by_kind : (plan : RouterPlan) (h : List Charge) (a : Arrival) (shim : ShimData) (kind : Kind) → shim.demoted ≡ false → is_marked (judged_kind plan h a shim kind).carried ≡ calls_for_mark (judged_kind plan h a shim kind).cause
by_kind plan h a shim kind e = grind (arith, by_request, by_answer, of_shown, of_nonce)

by_shim : (plan : RouterPlan) (h : List Charge) (a : Arrival) (shim : ShimData) → is_marked (judged_shim plan h a shim).carried ≡ (shim.demoted || calls_for_mark (judged_shim plan h a shim).cause)
unfolding judged_shim
by_shim plan h a shim = grind (arith, by_kind)

by_judge : (plan : RouterPlan) (h : List Charge) (a : Arrival) (carries : Carried) → is_marked (judge plan h a carries).carried ≡ (is_marked carries || calls_for_mark (judge plan h a carries).cause)
by_judge plan h a carries = grind (arith, by_shim)

or_false : (b : Bool) → b ≡ (b || false)
or_false true = refl
or_false false = refl

pub mark_told : (plan : RouterPlan) (h : List Charge) (logs : PortLogs) (now : ℕ) (from : Option ℕ) (p : PacketData) → is_marked (handle plan h logs now from p).onward.carried ≡ (is_marked p.carried || calls_for_mark (handle plan h logs now from p).fate.cause)
unfolding handle
mark_told plan h logs now from p = grind (arith, or_false, by_judge)

-- ## what an arrival adds

pub charges_told : (plan : RouterPlan) (h : List Charge) (logs : PortLogs) (now : ℕ) (from : Option ℕ) (p : PacketData) → (handle plan h logs now from p).charges ≡ charged_by (handle plan h logs now from p).fate.charge now (nonce_in p.carried) (packet_length p)
unfolding handle
charges_told plan h logs now from p = grind arith

nothing_by : (b : Bool) (xs : List Entry) → cond b xs xs ≡ xs
nothing_by true xs = refl
nothing_by false xs = refl

by_offer : (now : ℕ) (class : Class) (p : PacketData) (k link : ℕ) (o : Offered PacketData) → cond (eqb link k) (queued_by o now class (key_of class p) p) [] ≡ entered_by (outcome_of k o) now class p link
by_offer now class p k link o = grind (arith, nothing_by)

by_way : (logs : PortLogs) (now : ℕ) (class : Class) (p : PacketData) (way : Option (ℕ × LinkLimits)) (link : ℕ) → queued logs now class p way link ≡ entered_by (sent logs class p way) now class p link
by_way logs now class p None link = refl
by_way logs now class p (Some (k, limits)) link = by_offer now class p k link (offered limits (logs k) class p)

pub queued_told : (plan : RouterPlan) (h : List Charge) (logs : PortLogs) (now : ℕ) (from : Option ℕ) (p : PacketData) (link : ℕ) → (handle plan h logs now from p).queued link ≡ entered (handle plan h logs now from p).fate now (handle plan h logs now from p).onward link
unfolding handle
queued_told plan h logs now from p link = grind (arith, by_way)

-- ## logs

module _ {A : Type 0} where
  -- what is the same of packets that went on is the same of all
  pub same_over : (f : Handled → A) (plan : RouterPlan) (h : List Charge) (logs others : PortLogs) (now : ℕ) (from : Option ℕ) (p : PacketData)
      → ((j : Judged) → f (forwarded plan logs now p j) ≡ f (forwarded plan others now p j)) → f (handle plan h logs now from p) ≡ f (handle plan h others now from p)
  unfolding handle
  same_over f plan h logs others now from p e = grind arith
