-- In each run a path that the whole flow keeps to is steady: it is so in the narrower words.
use Rattle.tva_laws.proofs.Common.{◌≡◌, ◌≤◌, ◌<◌, ◌⊎◌, inl, inr, ℕ, Bool, true, List, [], ◌∷◌, ◌++◌, map, is_some, Option, Some, None, refl, ap, sym, subst, ◌∙◌, arith, append_assoc, append-nil, IsSomeAnd, filter, ◌==◌, option_map, option_and_then, IfSome, AllByRecursion, eqb-true, eq-eqb, filter-append, Grant, PacketId, Rights, boot_at, in_force, PacketData, AreRising, charges_at, arrival, force_clock, Config, IsConfig, Row, filter_swap, filter-all, each-filter, Arrived, Took, input_time, charges, Logs, log_at, IsRunTo, at_place, each_front, past_at, Deal, Prepared, Granted, Noticed, Coming, shows, come_as, ask_coming, IsNoGrant, ShowsMinted, ComesInTime, comings_at, WasCharged, grant_came, since_granted, those_charged, IsNarrowPath, IsBegun, IsWholePath, AreWholeSteady, nat_tests}
use Rattle.tva_laws.proofs.Given.{AreGiven}
use Rattle.tva_laws.proofs.Falls.{come_by}
use Rattle.tva_laws.proofs.RisingLists.{each_at, each_kept, Rises, rises_from, rising_from, rises-push, rises_last}
use Rattle.tva_laws.proofs.Matching.{In, in_right, come_key, keys, AreBefore, in_place, in_append, in_front, InAt, in_at, key_kept, keys_passing, rises_passing, keys_push}
use Rattle.tva_laws.proofs.Asks.{behind_last, came-last, come_is, come_id, came-under, LastAt, split_last}
use Rattle.tva_laws.proofs.Comings.{claim, claim_at, find_passing}
use Rattle.tva_laws.proofs.Authorised.{front}
use Rattle.tva_laws.proofs.Boots.{one_master}
use Rattle.tva_run.proofs.Boots.{boots_rise}
use Rattle.tva_laws.proofs.Beside.{since_last}
use Rattle.tva_laws.proofs.ShimsKept.{minted_with}
use Rattle.tva_laws.proofs.Passage.{Passage, passage, later, among, own, seen, last, now, boot, held, InTime, Steadily, rises, keeps, came}
use Rattle.tva_laws.proofs.Narrower.{wider}
use Rattle.tva_laws.proofs.Charged.{own_grant}

-- ## in a run

asked_in : (P : Coming → Type 0) (seen : List Coming) (o : Option PacketId) (y : Coming) → AllByRecursion P seen
    → option_and_then (come_as seen) o ≡ Some y → P y
asked_in P seen o y k e = grind (arith, nat_tests, come_is, seen)

some_of : (o : Option Grant) → is_some o ≡ true → (g : Grant) × (o ≡ Some g)
some_of o e = grind (arith, nat_tests)

module _ (m : Passage) where
  open m use {logs, run, sender, node, is_from, to, host, router, is_to, to_plan, past, input, on, packet, fate, onward, rest, here, unmarked, shown, delay}

  abbrev Shows : Coming → Bool
  Shows y = shows y.packet.carried

  -- what was charged shows a grant
  shows_so : AllByRecursion (λ y. is_some y.charge ≡ true → Shows y ≡ true) (seen m)
  shows_so =
      each_at (λ y. is_some y.charge ≡ true → Shows y ≡ true) [] (seen m)
      (λ front y back e. let ca = came m front y back e in
      subst (λ (z : Coming). is_some z.charge ≡ true → Shows z ≡ true) ca.is
      (λ k. let g = some_of ca.fate.charge k in
      (claim (in_force router (input_time ca.input)) (charges_at router (input_time ca.input) (charges ca.before))
      (arrival (input_time ca.input) ca.from ca.packet) ca.packet.carried g.0
      (claim_at to router to_plan m.until (log_at logs node) (keeps m) ca.before ca.input ca.from ca.packet ca.fate ca.onward ca.rest
      ca.here g.0 g.1)).shown))

  -- and came before the packet
  times : AllByRecursion (λ (y : Coming). y.time ≤ now m) (seen m)
  times =
      come_by packet.flow (now m) past (past_at (log_at logs node) past (Took input (Arrived on packet fate onward)) rest
      (run.each node to is_to).is_log.in_order here)

  -- what is behind a place in the host's order is among the deals behind it
  in_rest : (before : List Deal) (t : ℕ) (q : PacketData) (after : List Deal) (id : PacketId) → own m ≡ before ++ Prepared t q ∷ after
      → In (own m) id → q.id.ordinal < id.ordinal → In after id
  in_rest before t q after id place i less = grind (arith, nat_tests, in_append, in_front, keys, rises)

  module _ (whole : IsWholePath host router delay (own m) (seen m) (held m) (last m)) where
    abbrev goal : InTime m (last m)
    goal = whole.last

    abbrev met : List Coming
    met = seen m ++ last m ∷ []

    -- a grant that was taken before the packet was prepared has begun
    record BegunSo (before : List Deal) (l : LastAt before) (tail : List Deal) : Type 0 where
      ask : Coming
      came : ask_coming (seen m) l.first ≡ Some ask
      begun : IsBegun host router delay (l.under ++ tail) met (now m) ask

    begun_so : (before : List Deal) (l : LastAt before) (tail : List Deal) → own m ≡ before ++ tail
        → ComesInTime host delay (l.under ++ tail) (last m) → BegunSo before l tail
    begun_so before l tail place c = grind (arith, nat_tests, seen, append_assoc)

    record Behind (y : Coming) (it : InTime m y) : Type 0 where
      behind : IfSome (grant_came (seen m) [] it.before) (λ t. t ≤ y.time)
      minted : IfSome (grant_came (seen m) [] it.before) (λ t. ShowsMinted (in_force router y.time) y.packet y.packet.carried t)

    abbrev steadily : (y : Coming) (it : InTime m y) → Behind y it → Steadily m y
    steadily y it b = record { in_time = it; behind = b.behind; minted = b.minted }

    -- what came in the boot, and before the packet in the host's order, came steadily
    is_behind : (front : List Coming) (y : Coming) (back : List Coming) → met ≡ front ++ y ∷ back → (it : InTime m y)
        → boot_at router y.time ≡ boot_at router (now m)
        → ((l : LastAt it.before) → ComesInTime host delay (l.under ++ Prepared it.sent it.packet ∷ it.after) (last m)) → Behind y it
    is_behind front y back e it boots more = by (split_last it.before)
      where
        by : AllByRecursion IsNoGrant it.before ⊎ LastAt it.before → Behind y it
        by (inl none) = grind (arith, nat_tests, seen m, came-under (seen m) [] it.before none)
        by (inr l) =
            let b = begun_so it.before l (Prepared it.sent it.packet ∷ it.after) it.place (more l) in
            let there : ComesInTime host delay (l.under ++ Prepared it.sent it.packet ∷ it.after) y = later m l.under y it in
            let is : grant_came (seen m) [] it.before ≡ Some b.ask.time =
            came-last (seen m) it.before l b.ask.time (ap (option_map (λ (x : Coming). x.time)) b.came) in
            let minted : ShowsMinted (in_force router b.ask.time) y.packet y.packet.carried b.ask.time =
            at_place (λ (z : Coming). (u : ComesInTime host delay (l.under ++ Prepared it.sent it.packet ∷ it.after) z) → AllByRecursion IsNoGrant u.before
            → ShowsMinted (in_force router b.ask.time) z.packet z.packet.carried b.ask.time) met front y back e b.begun.minted there l.none in
            grind (arith, nat_tests, at_place, front, minted_with, one_master, boot, force_clock)

    abbrev last_so : Steadily m (last m)
    last_so =
        steadily (last m) goal (is_behind (seen m) (last m) [] refl goal refl (λ l. later m l.under (last m) goal))

    in_order_so : AreBefore (last m) (map come_key (filter Shows (seen m)))
    in_order_so = grind (arith, nat_tests, rises_last, come_key, seen, last, keys_push, rises_from, filter-append)

    earlier_so : AllByRecursion (λ y. Shows y ≡ true → come_key y < come_key (last m)) (seen m)
    earlier_so = key_kept (λ n. n < come_key (last m)) Shows (seen m) in_order_so.1

    here_so : (front : List Coming) (y : Coming) (back : List Coming) → seen m ≡ front ++ y ∷ back → is_some y.charge ≡ true
        → boot_at router y.time ≡ boot_at router (now m) → Steadily m y
    here_so front y back e charged boots =
        steadily y it (is_behind front y (back ++ last m ∷ [])
        (ap (λ (ys : List Coming). ys ++ last m ∷ []) e ∙ append_assoc front (y ∷ back) (last m ∷ [])) it boots
        (λ l. let i : In (it.after) packet.id =
        in_rest it.before it.sent it.packet it.after packet.id it.place
        (subst (λ (ds : List Deal). In ds packet.id) (sym goal.place) (in_place goal.before goal.sent goal.packet goal.after packet.id goal.same))
        less in
        (among m (l.first ++ Granted l.rights l.caps ∷ []) (l.under ++ Prepared it.sent it.packet ∷ it.after) [] (last m)
        (it.place ∙ (behind_last it.before l (Prepared it.sent it.packet ∷ it.after)
        ∙ ap (λ (ds : List Deal). (l.first ++ Granted l.rights l.caps ∷ []) ++ ds)
        (sym (append-nil (l.under ++ Prepared it.sent it.packet ∷ it.after))))) goal
        (in_at (l.under ++ Prepared it.sent it.packet ∷ it.after) packet.id
        (in_right l.under (Prepared it.sent it.packet ∷ it.after) packet.id (inr i)))).comes))
      where
        it : InTime m y
        it = at_place (InTime m) (seen m) front y back e whole.each

        less : it.packet.id.ordinal < packet.id.ordinal
        less = grind (arith, nat_tests, it, come_key, at_place, last, seen, front, earlier_so, shows_so)

    each_so : AllByRecursion (Steadily m) (those_charged (boot m))
    each_so =
        each_kept (Steadily m) (λ y. is_some y.charge) (boot m)
        (each_kept (λ y. is_some y.charge ≡ true → Steadily m y) (λ y. boot_at router y.time == boot_at router (now m)) (seen m)
        (each_at (λ y. (boot_at router y.time == boot_at router (now m)) ≡ true → is_some y.charge ≡ true → Steadily m y) [] (seen m)
        (λ front y back e boots charged.
        here_so front y back e charged (eqb-true (boot_at router y.time) (boot_at router (now m)) boots))))

    -- what was charged in the boot is among what showed a grant
    charged_shown : those_charged (boot m) ≡ those_charged (comings_at router (now m) (filter Shows (seen m)))
    charged_shown =
        let in_boot : Coming → Bool = λ y. boot_at router y.time == boot_at router (now m) in
        let was : Coming → Bool = λ y. is_some y.charge in
        sym (filter-all Shows (those_charged (boot m))
        (each_kept (λ y. Shows y ≡ true) was (boot m)
        (each-filter (λ y. is_some y.charge ≡ true → Shows y ≡ true) in_boot (seen m) shows_so)))
        ∙ (filter_swap Shows was (boot m) ∙ ap (filter was) (filter_swap Shows in_boot (seen m)))

    order_so : AreRising (map (λ (y : Coming). y.packet.id.ordinal) (those_charged (boot m) ++ last m ∷ []))
    order_so =
        let in_boot : Coming → Bool = λ y. boot_at router y.time == boot_at router (now m) in
        let was : Coming → Bool = λ y. is_some y.charge in
        let ys : List Coming = filter Shows (seen m) in
        let zs : List Coming = filter was (filter in_boot ys) in
        rising_from (map come_key (those_charged (boot m) ++ last m ∷ []))
        (subst Rises (sym (ap (λ (xs : List Coming). map come_key (xs ++ last m ∷ [])) charged_shown ∙ keys_push zs (last m)))
        (rises-push (map come_key zs) (come_key (last m))
        (rises_passing was (filter in_boot ys) (rises_passing in_boot ys in_order_so.0))
        (keys_passing (λ n. n < come_key (last m)) was (filter in_boot ys)
        (keys_passing (λ n. n < come_key (last m)) in_boot ys in_order_so.1))))

    asked_so : (before : List Deal) (rights : Rights) (caps : List ℕ) (after : List Deal)
        → goal.before ≡ before ++ Granted rights caps ∷ after → IsSomeAnd (ask_coming (seen m) before) (InTime m)
    asked_so before rights caps after e = grind (arith, nat_tests, seen, append_assoc, later, last, now, asked_in)

    -- ## its own grant

    abbrev tail : List Deal
    tail = Prepared goal.sent goal.packet ∷ goal.after

    abbrev own_so : LastAt goal.before
    own_so = own_grant m goal

    own_begun : BegunSo goal.before own_so tail
    own_begun = begun_so goal.before own_so tail goal.place (later m own_so.under (last m) goal)

    -- what was charged under it was charged in the boot
    in_boot_so : (before : List Deal) (d : Deal) (after : List Deal) → own_so.under ≡ before ++ d ∷ after → WasCharged (seen m) d
        → WasCharged (boot m) d
    in_boot_so before (Granted rights caps) after e was = tt
    in_boot_so before Noticed after e was = tt
    in_boot_so before (Prepared t q) after e was = λ s. by (come_as (seen m) q.id) refl (was s)
      where
        is : own_so.under ++ tail ≡ before ++ Prepared t q ∷ (after ++ tail)
        is = ap (λ (ds : List Deal). ds ++ tail) e ∙ append_assoc before (Prepared t q ∷ after) tail

        by : (o : Option Coming) → come_as (seen m) q.id ≡ o → is_some (option_and_then (λ (y : Coming). y.charge) o) ≡ true
            → is_some (option_and_then (λ (y : Coming). y.charge) (come_as (boot m) q.id)) ≡ true
        by None c k = absurd (cc)
        by (Some y) c k =
            let same : y.packet.id ≡ q.id = come_id (seen m) q.id y c in
            let early : y.time ≤ now m = (come_is (λ (z : Coming). z.time ≤ now m) (seen m) q.id y times c).0 in
            let it : InTime m y = (come_is (InTime m) (seen m) q.id y whole.each c).0 in
            let a : InAt (own_so.under ++ tail) y.packet.id =
            record { before = before; time = t; packet = q; after = after ++ tail; is = is; same = sym same } in
            let late : own_begun.ask.time ≤ y.time =
            (come_is (λ (z : Coming). ComesInTime host delay (own_so.under ++ tail) z → own_begun.ask.time ≤ z.time) (seen m) q.id y
            (each_front (λ (z : Coming). ComesInTime host delay (own_so.under ++ tail) z → own_begun.ask.time ≤ z.time) (seen m) (last m ∷ [])
            own_begun.begun.behind) c).0
            (among m (own_so.first ++ Granted own_so.rights own_so.caps ∷ []) (own_so.under ++ tail) [] y
            (goal.place ∙ (behind_last goal.before own_so tail
            ∙ ap (λ (ds : List Deal). (own_so.first ++ Granted own_so.rights own_so.caps ∷ []) ++ ds)
            (sym (append-nil (own_so.under ++ tail))))) it a).comes in
            let low = boots_rise router own_begun.ask.time y.time late in
            let high = boots_rise router y.time (now m) early in
            grind (arith, nat_tests, own_begun, now, boot, find_passing, seen, eq-eqb)

    paid_so : AllByRecursion (WasCharged (boot m)) (since_granted [] goal.before)
    paid_so =
        subst (AllByRecursion (WasCharged (boot m))) (sym (since_last goal.before own_so))
        (each_at (WasCharged (boot m)) [] own_so.under
        (λ before d after e. in_boot_so before d after e
        (at_place (WasCharged (seen m)) own_so.under before d after e (subst (AllByRecursion (WasCharged (seen m))) (since_last goal.before own_so) whole.paid))))

    pub narrow : IsNarrowPath host router delay (own m) (seen m) (held m) (last m)
    narrow = record { each = each_so; last = last_so; order = order_so; asked = asked_so; paid = paid_so; room = whole.room }

-- so it is in each run
pub whole_steady : (config : Config) (rows : List Row) (until : ℕ) (logs : Logs) → IsConfig config → AreGiven config rows until logs
    → IsRunTo config rows until logs → AreWholeSteady config logs
whole_steady config rows until logs valid given run sender node from to host router is_from from_plan is_to to_plan
    past input on packet fate onward rest here unmarked below shown delay whole =
    let m : Passage =
    passage config rows until logs valid given run sender node from to host router is_from from_plan is_to to_plan
    past input on packet fate onward rest here unmarked below shown delay in
    wider m (narrow m whole)
