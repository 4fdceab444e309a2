-- In each run what the narrower words call steady is steady.
use Rattle.tva_laws.proofs.Common.{◌≡◌, ◌≤◌, ◌<◌, inl, inr, ℕ, Bool, true, List, [], ◌∷◌, ◌++◌, map, Option, Some, None, refl, ap, sym, subst, ◌∙◌, arith, append_assoc, append-nil, IsSomeAnd, filter, option_map, IfSome, AllByRecursion, filter_map, le-leb, filter_map-append, same_Some, Grant, Time, router_second, packet_length, Charge, of_flow, last_charge, holder, Contact, Taking, last_taking, asked_at, awaits, IsPlayed, AreRising, force_clock, Config, IsConfig, Row, each-weaker, each-filter, input_time, Logs, log_at, IsRunTo, at_place, each_front, Mile, contacts, charges_in, since_got, ComesIn, grant_at, AreAuthorised, IsNarrow, Deal, Prepared, Granted, Noticed, Coming, shows_nonce, ask_coming, IsNoGrant, ShowsMinted, ComesUnder, is_charged_since, charged_since, WasCharged, IsSteadyPath, ask_came, grant_came, since_granted, IsNarrowPath, AreNarrowSteady, nat_tests}
use Rattle.tva_sender.specs.Played.{AreNext}
use Rattle.tva_run.proofs.Putting.{each-both}
use Rattle.tva_laws.proofs.Charges.{each-behind}
use Rattle.tva_laws.proofs.Given.{AreGiven}
use Rattle.tva_laws.proofs.RisingLists.{Rises, rises-push, rising_from, rises_front}
use Rattle.tva_laws.proofs.Dealt.{shape_in, contact_of, played_front, map_place}
use Rattle.tva_laws.proofs.Hosts.{deal_key, IsTrue}
use Rattle.tva_laws.proofs.Matching.{In, come_key, keys, AreIn, Matches, in_place, matched, matches_in, in_at, SplitMatch, split_match, keys_passing, rises_passing}
use Rattle.tva_laws.proofs.Asks.{behind_last, came-last, came-granted, came-under, LastAt, last_rights_are}
use Rattle.tva_laws.proofs.Comings.{paid_of, claim_at, since_first, since_each, since_early, was_since, paying, all_paid}
use Rattle.tva_laws.proofs.Authorised.{Front, front, none, narrow-honest}
use Rattle.tva_laws.proofs.Stages.{Holds, Stage}
use Rattle.tva_laws.proofs.EachMile.{old-before, walk}
use Rattle.tva_laws.proofs.Beside.{authorised, since_last, since_known, each_since}
use Rattle.tva_laws.proofs.DealtMiles.{IsWalkable, each_walkable, Run, run_none, At, along}
use Rattle.tva_laws.proofs.ShimsKept.{at_router, shows_as_made}
use Rattle.tva_laws.proofs.Passage.{Passage, passage, later, among, own, seen, last, now, ruling, boot, held, way, InTime, Steadily, told_all, rises, planned, is_played, keeps, comes_for, played_to}
use Rattle.tva_laws.proofs.Charged.{IsTakenByLast, taken_regular, pays_for, in_order, shims_here, played_here, own_grant, boot_flow}
use Rattle.tva_laws.proofs.Matching.{AreBefore, keys_push, prepared_before, rises_behind}

module _ (m : Passage) where
  open m use {config, rows, until, logs, valid, given, run, sender, node, from, to, host, router, is_from, from_plan, is_to, to_plan}
  open m use {past, input, on, packet, fate, onward, rest, here, unmarked, below, shown, delay}

  module _ (narrow : IsNarrowPath host router delay (own m) (seen m) (held m) (last m)) where
    abbrev near : InTime m (last m)
    near = narrow.last.in_time

    abbrev before_it : List Deal
    before_it = near.before

    abbrev from_it : List Deal
    from_it = Prepared near.sent near.packet ∷ near.after

    abbrev all_charged : List Coming
    all_charged = charged_since 0 (boot m)

    each_charged : AllByRecursion (Steadily m) all_charged
    each_charged = subst (AllByRecursion (Steadily m)) (sym (since_first (boot m))) narrow.each

    rising : AreBefore (last m) (map come_key all_charged)
    rising = search (arith, nat_tests, in_order, each_charged, last, since_first, boot)

    whole_rises : Rises (keys (before_it ++ from_it))
    whole_rises = subst (λ (ds : List Deal). Rises (keys ds)) near.place (rises m)

    ins_before : AreIn before_it all_charged
    ins_before =
        prepared_before before_it near.sent near.packet near.after (last m) all_charged near.same
        (rises_behind before_it from_it whole_rises)
        (each-weaker (Steadily m) (λ (y : Coming). In (before_it ++ from_it) y.packet.id)
        (λ y cs. let it : InTime m y = cs.in_time in
        subst (λ (ds : List Deal). In ds y.packet.id) (sym it.place ∙ near.place)
        (in_place it.before it.sent it.packet it.after y.packet.id it.same)) all_charged each_charged)
        rising.1

    fine_before : AllByRecursion (IsTrue (log_at logs sender)) before_it
    fine_before = grind (arith, nat_tests, each_front, told_all)

    match_before : Matches before_it all_charged
    match_before = grind (arith, nat_tests, matched, rises_front, keys, filter_map-append, deal_key, whole_rises, rising, ins_before)

    walkable : (before : List Deal) (d : Deal) (after : List Deal) → before_it ≡ before ++ d ∷ after → IsWalkable (way m) (seen m) before d
    walkable before (Prepared t p) after e = tt
    walkable before (Granted rights caps) after e = (
      at_place (IsTrue (log_at logs sender)) before_it before (Granted rights caps) after e fine_before,
      came_by (ask_coming (seen m) before) refl (narrow.asked before rights caps after e),
    )
      where
        came_by : (o : Option Coming) → ask_coming (seen m) before ≡ o → IsSomeAnd o (InTime m)
            → IsSomeAnd (option_map (λ (x : Coming). x.time) o) (λ came. (ms : List Mile) → contacts ms ≡ map contact_of before
            → IfSome (asked_at (contacts ms)) (λ (t : Time). ComesIn (way m) t.0 came))
        came_by o is k = grind (arith, nat_tests, comes_for, append_assoc)
    walkable before Noticed after e = tt

    -- the miles of the first deals, with what was charged of them
    abbrev Along : List Deal → List Coming → List Deal → List Coming → Type 0
    Along before front ds xs =
        At (way m) (seen m) all_charged (own m) before_it from_it near.place (rises m) (pays_for m 0 each_charged) (paying 0 (boot m)) before front ds xs

    walked : (ds : List Deal) (xs : List Coming) (behind : List Deal) (more : List Coming) → before_it ≡ ds ++ behind
        → all_charged ≡ xs ++ more → Matches ds xs → AreIn behind more → Along ds xs behind more
    walked ds xs behind more place met match ins =
        along (way m) (seen m) all_charged (own m) before_it from_it near.place (rises m) (pays_for m 0 each_charged) (paying 0 (boot m)) [] [] ds xs behind more
        (each_walkable (way m) (seen m) [] ds (λ front d back e. walkable front d (back ++ behind)
        (place ∙ (ap (λ (es : List Deal). es ++ behind) e ∙ append_assoc front (d ∷ back) behind))))
        (record {
          here = place;
          seen_here = met;
          run = run_none (way m) (seen m) all_charged (own m) before_it from_it near.place (rises m) (pays_for m 0 each_charged)
              (paying 0 (boot m));
          ins = tt;
        }) match ins

    abbrev miles_before : Run (way m) (seen m) all_charged (own m) before_it from_it near.place (rises m) (pays_for m 0 each_charged)
        (paying 0 (boot m)) before_it all_charged
    miles_before =
        (walked before_it all_charged [] [] (sym (append-nil before_it)) (sym (append-nil all_charged)) match_before tt).run

    all_charges : of_flow packet.flow (held m) ≡ charges_in miles_before.miles
    all_charges = boot_flow m ∙ (all_paid (boot m) ∙ sym miles_before.charges_are)

    is_narrow : IsNarrow (way m) (held m) miles_before.miles near.sent (shape_in near.packet.carried) (packet_length packet) (now m)
    is_narrow = record {
      rules = (planned m).retry.0;
      played = played_here m near miles_before.miles miles_before.contacts_are;
      miles = miles_before.are;
      charges = all_charges;
      comes = record { from = near.from; until = near.until };
      behind = subst (λ (o : Option ℕ). IfSome o (λ u. u ≤ input_time input)) (sym miles_before.came) narrow.last.behind;
      authorised = grind (arith, nat_tests, authorised, each-weaker, boot, was_since);
      room = narrow.room;
    }

    regular_so : IsTakenByLast router packet.flow (seen m) narrow.last.in_time.before fate
    regular_so =
        taken_regular m before_it miles_before.miles miles_before.contacts_are miles_before.came (shape_in near.packet.carried)
        (narrow-honest (way m) (held m) miles_before.miles near.sent (shape_in near.packet.carried) (packet_length packet) (now m) is_narrow)
        (let a =
        at_router (way m) (ruling m) packet miles_before.miles (held m) (now m) refl refl (sym (force_clock router (now m))) (λ (z : Grant). true)
        (λ d l k. ap last_charge (sym all_charges) ∙ l) in
        shows_as_made (way m) (ruling m) near.packet packet miles_before.miles (held m) (now m) a (shims_here m near)
        (subst (λ (o : Option ℕ). IfSome o (λ u. ShowsMinted (ruling m) packet packet.carried u)) (sym miles_before.came) narrow.last.minted))

    -- ## which the wider words call steady too

    last_at : LastAt before_it
    last_at = own_grant m near

    -- the ask of the last grant, as it came
    record AskSo (first : List Deal) : Type 0 where
      ask : Coming
      came : ask_coming (seen m) first ≡ Some ask
      in_time : InTime m ask

    the_ask : AskSo last_at.first
    the_ask = grind (arith, nat_tests, seen m)

    abbrev granted_last : Deal
    granted_last = Granted last_at.rights last_at.caps

    abbrev begin_so : List Deal
    begin_so = last_at.first ++ granted_last ∷ []

    abbrev second_so : ℕ
    second_so = router_second router.clock_offset the_ask.ask.time

    asked_so : ask_came (seen m) last_at.first ≡ Some the_ask.ask.time
    asked_so = ap (option_map (λ (x : Coming). x.time)) the_ask.came

    came_so : (ds : List Deal) → AllByRecursion IsNoGrant ds → grant_came (seen m) [] (begin_so ++ ds) ≡ Some the_ask.ask.time
    came_so ds k = grind (arith, nat_tests, came-under (seen m) begin_so ds k, seen m, came-granted (seen m) [] last_at.first last_at.rights last_at.caps the_ask.ask.time asked_so)

    came_is_so : grant_came (seen m) [] before_it ≡ Some the_ask.ask.time
    came_is_so = came-last (seen m) before_it last_at the_ask.ask.time asked_so

    -- what was charged under the last grant, and before it
    parts : SplitMatch last_at.first last_at.under all_charged
    parts = grind (arith, nat_tests, split_match, last_at, match_before)

    abbrev olds : List Coming
    olds = parts.before

    abbrev news : List Coming
    news = parts.after

    abbrev behind_olds : List Deal
    behind_olds = granted_last ∷ (last_at.under ++ from_it)

    place_olds : (own m) ≡ last_at.first ++ behind_olds
    place_olds = grind (arith, nat_tests, last_at, append_assoc)

    to_grant : Along last_at.first olds (granted_last ∷ last_at.under) news
    to_grant = grind (arith, nat_tests, walked, last_at, parts, front, each-weaker, matches_in)

    next_olds : Front host.margin host.retry host.version [] (map contact_of last_at.first) (contact_of granted_last)
    next_olds =
        front host.margin host.retry host.version [] (map contact_of last_at.first) (contact_of granted_last)
        (played_front host.margin host.retry host.version [] (map contact_of last_at.first) (contact_of granted_last)
        (map contact_of (last_at.under ++ from_it))
        (subst (IsPlayed host.margin host.retry host.version)
        (ap (map contact_of) place_olds ∙ map_place last_at.first granted_last (last_at.under ++ from_it)) (is_played m)))

    early_olds : AllByRecursion (λ (c : Charge). c.grant.second < second_so) (filter_map paid_of olds)
    early_olds =
        let r = to_grant.run in
        subst (AllByRecursion (λ (c : Charge). c.grant.second < second_so)) r.charges_are
        (old-before (way m) r.miles (planned m).retry.0
        (walk (way m) (planned m).retry.0 [] r.miles (none (way m)) r.are
        (subst (AreNext host.margin host.retry host.version []) (sym r.contacts_are) next_olds.front))
        last_at.rights last_at.caps the_ask.ask.time
        (subst (λ (cs : List Contact). awaits cs ≡ true) (sym r.contacts_are) next_olds.last.0) (
          at_place (IsTrue (log_at logs sender)) before_it last_at.first granted_last last_at.under last_at.is fine_before,
          comes_for m last_at.first behind_olds the_ask.ask.time place_olds asked_so
              (subst (λ (o : Option Coming). IsSomeAnd o (InTime m)) (sym the_ask.came) the_ask.in_time) r.miles r.contacts_are,
        ))

    recent_is : charged_since second_so (boot m) ≡ charged_since second_so news
    recent_is = since_each second_so (boot m) ∙ (ap (charged_since second_so) parts.is ∙ since_early second_so olds news early_olds)

    -- what came steadily and was prepared under the grant came so under it
    comes_under : (y : Coming) → In last_at.under y.packet.id → (Steadily m) y → ComesUnder host router delay last_at.under the_ask.ask.time y
    comes_under y i cs =
        let r =
        among m begin_so last_at.under from_it y (near.place ∙ behind_last before_it last_at from_it) cs.in_time (in_at last_at.under y.packet.id i) in
        grind (arith, nat_tests, last_at, seen, the_ask, came_so, each_front, none)

    each_so : AllByRecursion (ComesUnder host router delay last_at.under the_ask.ask.time) (charged_since second_so (boot m))
    each_so =
        subst (AllByRecursion (ComesUnder host router delay last_at.under the_ask.ask.time)) (sym recent_is)
        (each-filter (ComesUnder host router delay last_at.under the_ask.ask.time) (λ (y : Coming). is_charged_since second_so y.charge) news
        (each-both (λ (y : Coming). In last_at.under y.packet.id) (Steadily m) (ComesUnder host router delay last_at.under the_ask.ask.time) comes_under
        news (matches_in last_at.under news parts.back)
        (each-behind (Steadily m) olds news (subst (AllByRecursion (Steadily m)) parts.is each_charged))))

    order_so : AreRising (map (λ (y : Coming). y.packet.id.ordinal) (charged_since second_so (boot m) ++ (last m) ∷ []))
    order_so =
        let p : Coming → Bool = λ (y : Coming). is_charged_since second_so y.charge in
        subst (λ (ys : List Coming). AreRising (map (λ (y : Coming). y.packet.id.ordinal) (ys ++ (last m) ∷ []))) (sym (since_each second_so (boot m)))
        (rising_from (map come_key (filter p all_charged ++ (last m) ∷ []))
        (subst Rises (sym (keys_push (filter p all_charged) (last m)))
        (rises-push (map come_key (filter p all_charged)) (come_key (last m)) (rises_passing p all_charged rising.0)
        (keys_passing (λ n. n < come_key (last m)) p all_charged rising.1))))

    stage_so : Stage (way m) miles_before.miles
    stage_so =
        walk (way m) (planned m).retry.0 [] miles_before.miles (none (way m)) miles_before.are
        (subst (AreNext host.margin host.retry host.version []) (sym miles_before.contacts_are)
        (front host.margin host.retry host.version [] (map contact_of before_it) (contact_of (Prepared near.sent near.packet))
        (played_to m before_it near.sent near.packet near.after near.place)).front)

    holds_so : Holds (way m) miles_before.miles
    holds_so = elim stage_so [
      | inl f ↦
          absurd (let some = last_rights_are [] before_it ∙ regular_so.granted in
          let nothing : last_taking [] (map contact_of before_it) ≡ None = ap (last_taking []) (sym miles_before.contacts_are) ∙ f.taking in
          let none = ap (option_map (λ (t : Taking). t.rights)) nothing in cc)
      | inr k ↦ k
    ]

    same_second : router_second router.clock_offset holds_so.came ≡ second_so
    same_second = grind (arith, nat_tests, same_Some, holds_so, the_ask, came_is_so)

    paid_so : AllByRecursion (WasCharged (charged_since second_so (boot m))) last_at.under
    paid_so =
        let g : Grant = grant_at (way m) holds_so.rights holds_so.came in
        let each : AllByRecursion (λ (c : Charge). c.grant ≡ g) (charges_in (since_got [] miles_before.miles)) =
        subst (λ (ms : List Mile). AllByRecursion (λ (c : Charge). c.grant ≡ g) (charges_in ms)) (sym holds_so.since_is)
        (holds_so.all.grants (inr (subst AreAuthorised holds_so.since_is is_narrow.authorised))) in
        let all : AllByRecursion (WasCharged (charged_since second_so all_charged)) (since_granted [] before_it) =
        since_known second_so g (le-leb second_so g.second (omega (arith, same_second))) all_charged (since_granted [] before_it)
        (since_got [] miles_before.miles) miles_before.beside each
        (each-weaker (WasCharged (boot m)) (WasCharged all_charged) (λ d was. was_since (boot m) d was) (since_granted [] before_it) narrow.paid) in
        subst (λ (ys : List Coming). AllByRecursion (WasCharged ys) last_at.under) (sym (since_each second_so (boot m)))
        (subst (AllByRecursion (WasCharged (charged_since second_so all_charged))) (since_last before_it last_at) all)

    held_so : shows_nonce packet.carried ≡ true → IfSome (holder (held m) packet.flow) (λ c. second_so ≤ c.grant.second)
    held_so e =
        let g : Grant =
        record { flow = packet.flow; rights = regular_so.rights; second = router_second router.clock_offset regular_so.came } in
        grind (arith, nat_tests, claim_at to router to_plan until (log_at logs node) (keeps m) past input on packet fate onward rest here g regular_so.charge, keeps m, same_Some regular_so.came the_ask.ask.time (sym regular_so.asked ∙ came_is_so), held m, ruling m, now m)
      where
        held_by : (o : Option Charge) (g : Grant) (n : ℕ) → g.second ≡ n → IfSome o (λ c. c.grant ≡ g) → IfSome o (λ c. n ≤ c.grant.second)
        held_by o g n same k = grind (arith, nat_tests)

    abbrev last_so : ComesUnder host router delay (last_at.under ++ from_it) the_ask.ask.time (last m)
    last_so = record {
      in_time = later m last_at.under (last m) near;
      behind = subst (λ (o : Option ℕ). IfSome o (λ came. came ≤ (now m))) came_is_so narrow.last.behind;
      minted = subst (λ (o : Option ℕ). IfSome o (λ came. ShowsMinted (ruling m) packet packet.carried came)) came_is_so narrow.last.minted;
    }

    pub wider : IsSteadyPath host router delay (own m) (seen m) (held m) (last m)
    wider = record {
      first = last_at.first;
      rights = last_at.rights;
      caps = last_at.caps;
      rest = last_at.under ++ from_it;
      place = place_olds;
      ask = the_ask.ask;
      came = the_ask.came;
      in_time = the_ask.in_time;
      last = last_so;
      no_other = last_at.none;
      each = each_so;
      order = order_so;
      known = λ e. record { paid = each_since (WasCharged (charged_since second_so (boot m))) last_at.under paid_so; last = held_so e };
      room = narrow.room;
    }

-- so it is in each run
pub narrow_steady : (config : Config) (rows : List Row) (until : ℕ) (logs : Logs) → IsConfig config → AreGiven config rows until logs
    → IsRunTo config rows until logs → AreNarrowSteady config logs
narrow_steady config rows until logs valid given run sender node from to host router is_from from_plan is_to to_plan
    past input on packet fate onward rest here unmarked below shown delay narrow =
    let m : Passage =
    passage config rows until logs valid given run sender node from to host router is_from from_plan is_to to_plan
    past input on packet fate onward rest here unmarked below shown delay in
    wider m narrow
