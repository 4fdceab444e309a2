-- In each run what comes on a steady path and shows a grant is charged and goes on as regular.
use Rattle.tva_laws.proofs.Common.{◌≡◌, ◌≤◌, ℕ, true, List, [], ◌∷◌, ◌++◌, Option, Some, refl, ap, sym, subst, ◌∙◌, append_assoc, IsSomeAnd, option_map, IfSome, AllByRecursion, filter_map-append, same_Some, Grant, Rights, Time, router_second, packet_length, asked_at, force_clock, Config, IsConfig, Row, each-weaker, input_time, Logs, log_at, IsRunTo, at_place, each_front, contacts, last_came, ComesIn, IsSteady, Deal, Prepared, Granted, Coming, shows_nonce, since_noticed, IsNoGrant, ComesUnder, charged_since, WasCharged, IsSteadyPath, AreHonestRegular, ask_came, grant_came, since_granted, arith, nat_tests}
use Rattle.tva_base.specs.declared.packet.Class.TheVariants as class
use Rattle.tva_laws.specs.SteadyMiles as kit
use Rattle.tva_laws.proofs.Given.{AreGiven}
use Rattle.tva_laws.proofs.RisingLists.{Rises, rises_front}
use Rattle.tva_laws.proofs.Dealt.{shape_in}
use Rattle.tva_laws.proofs.Hosts.{deal_key, IsTrue}
use Rattle.tva_laws.proofs.Matching.{keys, AreIn, Matches, in_place, matched}
use Rattle.tva_laws.proofs.Asks.{came-granted, came-under, rights-under}
use Rattle.tva_laws.proofs.Comings.{paying, since_paid}
use Rattle.tva_laws.proofs.Authorised.{last-passes, honest}
use Rattle.tva_laws.proofs.Beside.{authorised, noticed_beside, since_grant, since_under}
use Rattle.tva_laws.proofs.DealtMiles.{none_granted, Bare, bare_from, bare_none, Run, begun, miles_of}
use Rattle.tva_laws.proofs.Regular.{ShowsGrant}
use Rattle.tva_laws.proofs.ShimsKept.{AreShims, at_router, shows_as_made, of_nonce}
use Rattle.tva_laws.proofs.Passage.{Passage, passage, own, seen, last, now, ruling, boot, held, way, InTime, Steadily, told_all, rises, planned, comes_for}
use Rattle.tva_laws.proofs.Charged.{IsTakenByLast, taken_regular, pays_for, in_order, shims_here, played_here, boot_flow}
use Rattle.tva_laws.proofs.Matching.{rises_behind}

module _ (m : Passage) where
  open m use {config, rows, until, logs, valid, given, run, sender, node, from, to, host, router, is_from, from_plan, is_to, to_plan}
  open m use {past, input, on, packet, fate, onward, rest, here, unmarked, below, shown, delay}

  module _ (steady : IsSteadyPath host router delay (own m) (seen m) (held m) (last m)) where
    abbrev granted : Deal
    granted = Granted steady.rights steady.caps

    abbrev begin : List Deal
    begin = steady.first ++ granted ∷ []

    abbrev under : List Deal
    under = steady.last.in_time.before

    abbrev tail : List Deal
    tail = Prepared steady.last.in_time.sent steady.last.in_time.packet ∷ steady.last.in_time.after

    -- the deals before it, in all
    abbrev earlier : List Deal
    earlier = steady.first ++ granted ∷ under

    place_here : (own m) ≡ earlier ++ tail
    place_here = grind (arith, nat_tests, last, append_assoc)

    abbrev at : InTime m (last m)
    at = record {
      before = earlier;
      sent = steady.last.in_time.sent;
      packet = steady.last.in_time.packet;
      after = steady.last.in_time.after;
      place = place_here;
      same = steady.last.in_time.same;
      from = steady.last.in_time.from;
      until = steady.last.in_time.until;
    }

    abbrev asked_time : ℕ
    asked_time = steady.ask.time

    abbrev second : ℕ
    second = router_second router.clock_offset asked_time

    abbrev met : List Coming
    met = charged_since second (boot m)

    split : earlier ≡ begin ++ under
    split = sym (append_assoc steady.first (granted ∷ []) under)

    ask_is_known : ask_came (seen m) steady.first ≡ Some asked_time
    ask_is_known = ap (option_map (λ (x : Coming). x.time)) steady.came

    came_behind : (ds : List Deal) → AllByRecursion IsNoGrant ds → grant_came (seen m) [] (begin ++ ds) ≡ Some asked_time
    came_behind ds k = search (arith, nat_tests, came-under, seen, came-granted, ask_is_known)

    place_under : (before : List Deal) (d : Deal) (after : List Deal) → under ≡ before ++ d ∷ after
        → (own m) ≡ (begin ++ before) ++ d ∷ (after ++ tail)
    place_under before d after e = grind (arith, nat_tests, place_here, split, append_assoc)

    -- what came so under the grant came steadily
    steadily : (y : Coming) → ComesUnder host router delay under asked_time y → (Steadily m) y
    steadily y u =
        let it = u.in_time in
        let came_is : grant_came (seen m) [] (begin ++ it.before) ≡ Some asked_time =
        came_behind it.before (each_front IsNoGrant it.before (Prepared it.sent it.packet ∷ it.after)
        (subst (AllByRecursion IsNoGrant) it.place steady.no_other)) in
        record {
          in_time = search (place_under it.before (Prepared it.sent it.packet) it.after it.place);
          behind = subst (λ (o : Option ℕ). IfSome o (λ came. came ≤ y.time)) (sym came_is) u.behind;
          minted = grind (arith, nat_tests);
        }

    each : AllByRecursion (Steadily m) met
    each = each-weaker (ComesUnder host router delay under asked_time) (Steadily m) steadily met steady.each

    fine : AllByRecursion (IsTrue (log_at logs sender)) (steady.first ++ granted ∷ under)
    fine = grind (arith, nat_tests, each_front, place_here, told_all, each)

    rises_under : Rises (keys under)
    rises_under = grind (arith, nat_tests, rises_front, keys, filter_map-append, deal_key, rises_behind, place_here, split, append_assoc, rises)

    ins : AreIn under (met)
    ins = grind (arith, nat_tests, each-weaker, in_place, each)

    match : Matches under (met)
    match = matched under (met) rises_under (in_order m second each steady.order).0 ins

    bare : Bare (way m) steady.first
    bare =
        bare_from (way m) (log_at logs sender) [] steady.first (bare_none (way m))
        (each_front (IsTrue (log_at logs sender)) steady.first (granted ∷ under) fine)

    comes_first : IfSome (asked_at (contacts bare.miles)) (λ (t : Time). ComesIn (way m) t.0 asked_time)
    comes_first =
        comes_for m steady.first (granted ∷ (under ++ tail)) asked_time
        (place_here ∙ append_assoc steady.first (granted ∷ under) tail) ask_is_known
        (subst (λ (o : Option Coming). IsSomeAnd o (InTime m)) (sym steady.came) steady.in_time)
        bare.miles bare.contacts_are

    miles : Run (way m) (seen m) met (own m) earlier tail place_here (rises m) (pays_for m second each) (paying second (boot m)) earlier (met)
    miles =
        miles_of (way m) (seen m) met (own m) earlier tail place_here (rises m) (pays_for m second each) (paying second (boot m)) begin under split
        (begun (way m) (seen m) met (own m) earlier tail place_here (rises m) (pays_for m second each) (paying second (boot m)) steady.first steady.rights steady.caps asked_time bare ask_is_known
        (at_place (IsTrue (log_at logs sender)) (steady.first ++ granted ∷ under)
        steady.first granted under refl fine) comes_first)
        (none_granted (way m) (seen m) begin under steady.no_other) match

    came_last : last_came miles.miles ≡ Some asked_time
    came_last = miles.came ∙ (ap (grant_came (seen m) []) split ∙ came_behind under steady.no_other)

    shims : AreShims at.packet.carried packet.carried
    shims = shims_here m at

    since_is : since_granted [] earlier ≡ under
    since_is = grind (arith, nat_tests, split, since_under, since_grant)

    known : shows_nonce packet.carried ≡ true → IfSome (last_came miles.miles) (λ came. kit.IsKnown (way m) (held m) miles.miles came)
    known e =
        let k = steady.known e in
        let since : AllByRecursion (WasCharged met) (since_noticed (since_granted [] earlier)) =
        subst (λ (ds : List Deal). AllByRecursion (WasCharged met) (since_noticed ds)) (sym since_is) k.paid in
        grind (arith, nat_tests, way, held, miles, authorised, noticed_beside, last, came_last)

    is_steady : IsSteady (way m) (held m) miles.miles at.sent (shape_in at.packet.carried) (packet_length packet)
        (input_time input)
    is_steady = record {
      rules = (planned m).retry.0;
      played = played_here m at miles.miles miles.contacts_are;
      miles = miles.are;
      charges = grind (arith, nat_tests, way, held, miles, came_last, boot_flow, since_paid, boot);
      comes = record { from = at.from; until = at.until };
      behind = subst (λ (o : Option ℕ). IfSome o (λ u. u ≤ input_time input)) (sym came_last) steady.last.behind;
      nonce = grind (arith, nat_tests, of_nonce, shims, miles, way, held, known);
      room = steady.room;
    }

    shows_it : ShowsGrant (way m) miles.miles (shape_in at.packet.carried) packet.carried
    shows_it = grind (arith, nat_tests, at_router, way, ruling, miles, held, now, force_clock, last-passes, shows_as_made, shims, came_last, last)

    regular_here : IsTakenByLast router packet.flow (seen m) earlier fate
    regular_here =
        taken_regular m earlier miles.miles miles.contacts_are miles.came (shape_in at.packet.carried)
        (honest (way m) (held m) miles.miles at.sent (shape_in at.packet.carried) (packet_length packet) (now m) is_steady) shows_it

    abbrev grant_of : Rights → ℕ → Grant
    grant_of rights came =
        record { flow = packet.flow; rights = rights; second = router_second router.clock_offset came }

    pub regular : (fate.charge ≡ Some (grant_of steady.rights asked_time)) × (fate.class ≡ class.Regular)
    regular = grind (arith, nat_tests, regular_here, same_Some, rights-under, seen, split, came_behind)

-- so it is in each run
pub honest_regular : (config : Config) (rows : List Row) (until : ℕ) (logs : Logs) → IsConfig config → AreGiven config rows until logs
    → IsRunTo config rows until logs → AreHonestRegular config logs
honest_regular config rows until logs valid given run sender node from to host router is_from from_plan is_to to_plan
    past input on packet fate onward rest here unmarked below shown delay steady =
    let m : Passage =
    passage config rows until logs valid given run sender node from to host router is_from from_plan is_to to_plan
    past input on packet fate onward rest here unmarked below shown delay in
    regular m steady
