-- What a router judges depends on no routes.
use Rattle.tva_router.proofs.Common.{◌≡◌, ℕ, true, false, cond, eqb, leb, List, length, slice_get, Option, Some, None, refl, sym, ap, ◌∙◌, Rights, Route, RouterPlan, changed_plan, Shown, Kind, Carried, ShimData, entries_of, with_entry, with_next_pointer, with_fresh, PacketData, check_of, Checked, Charge, Arrival, Judged, Answer, tag_of, second_of, fresh_for, answer_to_checked, answer_to_cap, answer_to_shown, answer_to_nonce, judged, marked, judged_by, judged_request, judged_kind, judged_shim, judge, PortLogs, Handled, arrival, stopped, forwarded, with_routes, handle, RouterData, arith, rules, nat_tests, common_steps}
use Rattle.tva_base.specs.declared.packet.Class.TheVariants as class
use Rattle.tva_base.specs.declared.packet.Cause.TheVariants as cause
use Rattle.tva_shim.specs.declared.kinds.Kind.TheVariants as kinds
use Rattle.tva_shim.specs.declared.packets.Carried.TheVariants as carried
use Rattle.tva_caps.specs.declared.minters.Checked.TheVariants as checks

module _ (plan : RouterPlan) (routes : List Route) (h : List Charge) (a : Arrival) where
  tag_same : (from : Option ℕ) → tag_of (with_routes routes plan) from ≡ tag_of plan from
  tag_same _ = refl

  checked_same : (c : Checked) → answer_to_checked (with_routes routes plan) h a c ≡ answer_to_checked plan h a c
  checked_same _ = refl

  cap_same : (rights : Rights) (cap : Option ℕ) → answer_to_cap (with_routes routes plan) h a rights cap ≡ answer_to_cap plan h a rights cap
  cap_same rights None = refl
  cap_same rights (Some cap) = checked_same (check_of plan.master (second_of plan a) a.flow cap rights)

  shown_same : (shown : Shown) → answer_to_shown (with_routes routes plan) h a shown ≡ answer_to_shown plan h a shown
  unfolding answer_to_shown
  shown_same shown = cap_same shown.rights (slice_get shown.caps shown.pointer)

  nonce_same : (nonce : ℕ) → answer_to_nonce (with_routes routes plan) h a nonce ≡ answer_to_nonce plan h a nonce
  unfolding answer_to_nonce
  nonce_same nonce = refl

  request_same : (shim : ShimData) → judged_request (with_routes routes plan) a shim ≡ judged_request plan a shim
  request_same shim = grind (arith, tag_same)

  kind_same : (shim : ShimData) (kind : Kind) → judged_kind (with_routes routes plan) h a shim kind ≡ judged_kind plan h a shim kind
  kind_same shim kind = grind (arith, request_same, shown_same, nonce_same)

  shim_same : (shim : ShimData) → judged_shim (with_routes routes plan) h a shim ≡ judged_shim plan h a shim
  unfolding judged_shim
  shim_same shim = ap (λ (j : Judged). cond shim.demoted (judged class.Legacy None None (carried.Shim shim)) j) (kind_same shim shim.kind)

  judge_same : (carries : Carried) → judge (with_routes routes plan) h a carries ≡ judge plan h a carries
  judge_same carries = grind (arith, shim_same)

module _ {A : Type 0} where
  -- what is the same of packets that went on is the same of all
  pub same_by_routes : (f : Handled → A) (plan : RouterPlan) (routes : List Route) (h : List Charge) (logs others : PortLogs) (now : ℕ) (from : Option ℕ) (p : PacketData)
      → ((j : Judged) → f (forwarded (with_routes routes plan) logs now p j) ≡ f (forwarded plan others now p j))
      → f (handle (with_routes routes plan) h logs now from p) ≡ f (handle plan h others now from p)
  unfolding handle
  same_by_routes f plan routes h logs others now from p e = grind (arith, judge_same)

  -- two routers of one plan under one master differ by their routes alone
  pub same_by_masters : (f : Handled → A) (v w : RouterData) (h : List Charge) (logs others : PortLogs) (now : ℕ) (from : Option ℕ) (p : PacketData)
      → v.plan ≡ changed_plan v.plan.master v.plan.routes v.built → w.plan ≡ changed_plan w.plan.master w.plan.routes w.built → v.built ≡ w.built → v.plan.master ≡ w.plan.master
      → ((j : Judged) → f (forwarded (with_routes w.plan.routes v.plan) others now p j) ≡ f (forwarded v.plan logs now p j))
      → f (handle w.plan h others now from p) ≡ f (handle v.plan h logs now from p)
  same_by_masters f v w h logs others now from p force forced built master e =
      let same : w.plan ≡ with_routes w.plan.routes v.plan =
      forced
      ∙ ap (λ (m : List ℕ). changed_plan m w.plan.routes w.built) (sym master)
      ∙ ap (λ (z : RouterPlan). changed_plan v.plan.master w.plan.routes z) (sym built)
      ∙ sym (ap (with_routes w.plan.routes) force) in
      ap (λ (z : RouterPlan). f (handle z h others now from p)) same ∙ same_by_routes f v.plan w.plan.routes h others logs now from p e
