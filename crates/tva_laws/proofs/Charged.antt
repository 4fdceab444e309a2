-- What came steadily is charged as the miles of its host have it, and what they take by the last grant is regular.
use Rattle.tva_laws.proofs.Common.{◌≡◌, ℕ, Bool, true, false, leb, List, [], ◌∷◌, ◌++◌, map, Option, Some, refl, ap, sym, subst, ◌∙◌, arith, inl, inr, None, filter, ◌==◌, option_map, AllByRecursion, filter_map, eqb-true, Fate, Flow, Grant, Rights, RouterPlan, boot_at, in_force, router_second, PacketData, packet_length, Charge, same_flow, of_flow, last_charge, holder, flow_is, Shape, Contact, AreRising, charges_of_boot, charges_at, arrival, is_marked, force_clock, force_slots, Input, Arrived, Entry, Took, input_time, charged, charges, port_logs, handled, log_at, at_place, Mile, contacts, charges_in, last_came, IsPaid, IsTaken, Deal, Prepared, Coming, coming, comings, shows, comings_at, is_charged_since, charged_since, IsNoGrant, grant_came, IsPrepared, IsPlayed, Keeps, nat_tests}
use Rattle.tva_base.specs.declared.packet.Class.TheVariants as class
use Rattle.tva_laws.proofs.Entries.{fate_is}
use Rattle.tva_laws.proofs.RisingLists.{rises_from, rises_last}
use Rattle.tva_laws.proofs.Matching.{AreBefore, keys_push, come_key}
use Rattle.tva_laws.proofs.Dealt.{shape_in, counted, contact_of}
use Rattle.tva_laws.proofs.Matching.{come_key}
use Rattle.tva_laws.proofs.Asks.{last_rights, last_rights_are, LastAt, split_last, rights_none}
use Rattle.tva_laws.proofs.Comings.{paid_of, charge_parts, claim, claim_at, flow_charges, since_paid}
use Rattle.tva_laws.proofs.Authorised.{last-passes, front}
use Rattle.tva_laws.proofs.Boots.{one_master, passing_place, boot_charges}
use Rattle.tva_laws.proofs.Regular.{ShowsGrant, steady_regular}
use Rattle.tva_laws.proofs.ShimsKept.{are_shims, same_length, at_router, shown_as_made, AreShims}
use Rattle.tva_laws.proofs.Passage.{Passage, own, seen, last, now, ruling, boot, held, way, InTime, Steadily, keeps, came, kept_at, one_deal, played_to}
use Rattle.tva_laws.proofs.Shown.{allows}
use Rattle.tva_sender.specs.Contacts as contact

-- a packet of a flow is regular, and charged to the last grant among these deals: with its rights, and of the router
-- second in which the last ask before it came
pub record IsTakenByLast (router : RouterPlan) (flow : Flow) (seen : List Coming) (before : List Deal) (fate : Fate)
    : Type 0 where
  pub rights : Rights
  pub came : ℕ
  pub granted : last_rights before ≡ Some rights
  pub asked : grant_came seen [] before ≡ Some came
  pub charge : fate.charge ≡
      Some (record { flow = flow; rights = rights; second = router_second router.clock_offset came })
  pub class : fate.class ≡ class.Regular

nothing : {X Y : Type 0} (f : X → Y) (o : Option X) → option_map f o ≡ None → o ≡ None
nothing f o e = grind (arith, nat_tests)

module _ (m : Passage) where
  open m use {config, rows, until, logs, valid, given, run, sender, node, from, to, host, router, is_from, from_plan, is_to, to_plan}
  open m use {past, input, on, packet, fate, onward, rest, here, unmarked, below, shown, delay}

  -- the charge of what came steadily, to a grant of no earlier second
  pub pays_at : (s : ℕ) (b : List Entry) (i : Input) (o : Option ℕ) (p : PacketData) (ft : Fate) (ow : PacketData) (r : List Entry)
      → log_at logs node ≡ b ++ Took i (Arrived o p ft ow) ∷ r → same_flow p.flow packet.flow ≡ true → is_marked p.carried ≡ false
      → (before : List Deal) (t : ℕ) (q : PacketData) (after : List Deal) → (own m) ≡ before ++ Prepared t q ∷ after → (front : List Coming)
      → filter_map paid_of (charged_since s (comings_at router (now m) (comings packet.flow b))) ≡ filter_map paid_of front
      → q.id ≡ p.id → (Steadily m) (coming i p ft) → boot_at router (input_time i) ≡ boot_at router (now m)
      → (g : Grant) → ft.charge ≡ Some g → leb s g.second ≡ true → (ms : List Mile)
      → last_came ms ≡ grant_came (seen m) [] before → charges_in ms ≡ filter_map paid_of front
      → IsPaid (way m) ms t (shape_in q.carried) (counted q) (charged (input_time i) p g)
  pays_at s b i o p ft ow r h flow plain before t q after place front fr same cs boots g e since ms lc ce =
      let u : ℕ = input_time i in
      let rules : RouterPlan = in_force router u in
      let paid_then : List Charge = charges_at router u (charges b) in
      let k = kept_at m b i o p ft ow r h before t q after place same in
      let cl = claim_at to router to_plan until (log_at logs node) (keeps m) b i o p ft ow r h g e in
      let ic = claim rules paid_then (arrival u o p) p.carried g cl in
      let v = are_shims q.carried p.carried k.carried plain ic.shown in
      let it : (InTime m) (coming i p ft) = cs.in_time in
      let at = one_deal m before t q after it.before it.sent it.packet it.after place it.place (it.same ∙ sym same) in
      let sent : t ≡ it.sent = at.1 in
      let came_eq : last_came ms ≡ grant_came (seen m) [] it.before = lc ∙ ap (grant_came (seen m) []) at.0 in
      let fl : packet.flow ≡ p.flow = sym (flow_is p.flow packet.flow flow) in
      let of_boot : of_flow packet.flow paid_then ≡ filter_map paid_of (comings_at router (now m) (comings packet.flow b)) =
      subst (λ (n : ℕ). of_flow packet.flow (charges_of_boot router n (charges b))
      ≡ filter_map paid_of (comings_at router (now m) (comings packet.flow b))) (sym boots)
      (boot_charges router packet.flow (boot_at router (now m)) b
      (flow_charges to router to_plan until (log_at logs node) (keeps m) packet.flow b (Took i (Arrived o p ft ow) ∷ r) h)) in
      let later : Charge → Bool = λ (c : Charge). leb s c.grant.second in
      let charged_then : filter later (of_flow packet.flow paid_then) ≡ charges_in ms =
      ap (filter later) of_boot ∙ (since_paid s (comings_at router (now m) (comings packet.flow b)) ∙ (fr ∙ sym ce)) in
      let hold : (d : Charge) → holder paid_then p.flow ≡ Some d → leb s d.grant.second ≡ true → last_charge (charges_in ms) ≡ Some d =
      λ d l k. ap last_charge (sym charged_then)
      ∙ last-passes later (of_flow packet.flow paid_then) d (ap (λ (z : Flow). last_charge (of_flow z paid_then)) fl ∙ l) k in
      grind (arith, nat_tests, at_router, way, one_master, now, force_clock, same_length, shown_as_made)

  -- ## the packet

  -- it is as it was prepared, and shows what it showed
  kept_here : (it : InTime m (last m)) → Keeps it.packet packet
  kept_here it = kept_at m past input on packet fate onward rest here it.before it.sent it.packet it.after it.place it.same

  pub shims_here : (it : InTime m (last m)) → AreShims it.packet.carried packet.carried
  shims_here it = are_shims it.packet.carried packet.carried (kept_here it).carried unmarked shown

  pub played_here : (it : InTime m (last m)) (ms : List Mile) → contacts ms ≡ map contact_of it.before
      → IsPlayed host.margin host.retry host.version
      (contacts ms ++ contact.Prepared it.sent (shape_in it.packet.carried) (packet_length packet) ∷ [])
  played_here it ms same = grind (arith, nat_tests, counted it.packet, same_length it.packet packet (kept_here it) (shims_here it), kept_here it, shims_here it, shape_in it.packet.carried, played_to m it.before it.sent it.packet it.after it.place)

  -- and its host had taken a grant
  some_grant : (it : InTime m (last m)) → AllByRecursion IsNoGrant it.before → ⊥
  some_grant it none =
      let cs : List Contact = map contact_of it.before in
      let p : IsPrepared host.margin host.retry host.version cs it.sent (shape_in it.packet.carried) (counted it.packet) =
      (front host.margin host.retry host.version [] cs (contact_of (Prepared it.sent it.packet))
      (played_to m it.before it.sent it.packet it.after it.place)).last in
      grind (arith, nat_tests, shims_here it, shape_in it.packet.carried, last_rights_are [] it.before, rights_none it.before none, allows host.margin host.retry host.version cs it.sent p.body p.offered (shape_in it.packet.carried) p.shape)

  pub own_grant : (it : InTime m (last m)) → LastAt it.before
  own_grant it = elim (split_last it.before) [ inl none ↦ absurd (some_grant it none) | inr l ↦ l ]

  -- what its flow was charged in the boot
  pub boot_flow : of_flow packet.flow (held m) ≡ filter_map paid_of (boot m)
  boot_flow =
      boot_charges router packet.flow (boot_at router (now m)) past
      (flow_charges to router to_plan until (log_at logs node) (keeps m) packet.flow past
      (Took input (Arrived on packet fate onward) ∷ rest) here)

  -- what is taken by the last grant is charged to it and regular
  pub taken_regular : (before : List Deal) (ms : List Mile) → contacts ms ≡ map contact_of before → last_came ms ≡ grant_came (seen m) [] before
      → (s : Shape) → IsTaken (way m) (held m) ms s (packet_length packet) (now m) → ShowsGrant (way m) ms s packet.carried
      → IsTakenByLast router packet.flow (seen m) before fate
  taken_regular before ms same came_is s taken shows =
      let is : fate ≡ (handled router past (now m) on packet).fate =
      fate_is to router past input on packet fate onward to_plan ((keeps m).contents past input (Arrived on packet fate onward) rest here) in
      let r =
      steady_regular (ruling m) (held m) (port_logs past) (now m) on packet (way m) ms s below
      (record { flow_is = refl; master_is = refl; offset_is = sym (force_clock router (now m)); slots_are = sym (force_slots router (now m)) }) taken shows in
      grind (arith, nat_tests, last_rights_are [] before)

  -- what was charged in the boot to grants of no earlier second than one
  module _ (s : ℕ) (each : AllByRecursion (Steadily m) (charged_since s (boot m))) where
    abbrev recent : List Coming
    recent = charged_since s (boot m)

    pub pays_for : (before : List Deal) (t : ℕ) (p : PacketData) (after : List Deal) (front : List Coming) (x : Coming) (back : List Coming)
        → (own m) ≡ before ++ Prepared t p ∷ after → recent ≡ front ++ x ∷ back
        → p.id ≡ x.packet.id → (c : Charge) → paid_of x ≡ Some c → (ms : List Mile) → last_came ms ≡ grant_came (seen m) [] before
        → charges_in ms ≡ filter_map paid_of front
        → IsPaid (way m) ms t (shape_in p.carried) (counted p) c
    pays_for before t p after front x back place picked same c pays ms lc ce =
        let mq = passing_place (λ (y : Coming). is_charged_since s y.charge) (boot m) front x back picked in
        let mp = passing_place (λ (y : Coming). boot_at router y.time == boot_at router (now m)) (seen m) mq.before x mq.after mq.is in
        let ca = came m mp.before x mp.after mp.is in
        let boot_is : boot_at router x.time ≡ boot_at router (now m) = eqb-true (boot_at router x.time) (boot_at router (now m)) mp.passes in
        let cs = at_place (Steadily m) recent front x back picked each in
        let parts = charge_parts x x.charge c refl pays in
        let g : Grant = parts.0 in
        let since : leb s g.second ≡ true = ap (is_charged_since s) (sym parts.1) ∙ mq.passes in
        let fr : filter_map paid_of (charged_since s (comings_at router (now m) (comings packet.flow ca.before))) ≡ filter_map paid_of front =
        ap (λ (ys : List Coming). filter_map paid_of (charged_since s (comings_at router (now m) ys))) ca.front_is
        ∙ (ap (λ (ys : List Coming). filter_map paid_of (charged_since s ys)) mp.front_is
        ∙ ap (filter_map paid_of) mq.front_is) in
        let pay : p.id ≡ x.packet.id → (Steadily m) x → boot_at router x.time ≡ boot_at router (now m) → x.charge ≡ Some g
        → IsPaid (way m) ms t (shape_in p.carried) (counted p) (charged x.time x.packet g) =
        subst (λ (y : Coming). p.id ≡ y.packet.id → (Steadily m) y → boot_at router y.time ≡ boot_at router (now m) → y.charge ≡ Some g
        → IsPaid (way m) ms t (shape_in p.carried) (counted p) (charged y.time y.packet g)) {x = coming ca.input ca.packet ca.fate} ca.is
        (λ k z b e. pays_at s ca.before ca.input ca.from ca.packet ca.fate ca.onward ca.rest ca.here ca.flow ca.unmarked
        before t p after place front fr k z b g e since ms lc ce) in
        subst (IsPaid (way m) ms t (shape_in p.carried) (counted p)) parts.2 (pay same cs boot_is parts.1)

    pub in_order : AreRising (map (λ (y : Coming). y.packet.id.ordinal) (recent ++ (last m) ∷ [])) → AreBefore (last m) (map come_key recent)
    in_order order = grind (arith, nat_tests, rises_last, come_key, last, keys_push, rises_from)
