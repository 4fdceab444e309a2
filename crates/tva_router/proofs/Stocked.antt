-- What waits for a router's links, over their logs, and memory for it where packets come by value.
use Rattle.tva_router.proofs.Common.{◌≡◌, ◌≢◌, ℕ, ◌+◌, ◌≤◌, true, false, cond, leb, List, [], ◌∷◌, ◌++◌, length, take, get_or, ◌<◌, Option, Some, None, eqb, refl, sym, ap, ◌∙◌, subst, arith, append-nil, All, find, option_and_then, Contains, take_more, All-head, All-tail, AreDistinct, AreLinkLimits, links_of, LinkLimits, Class, RouterPlan, PacketData, key_of, Charge, Offered, Decision, decision, started_by, IsLegal, Entry, PortData, waiting_after, queued_by, waits_none, waits_more, waits_less, waits_few, judge, link_to, PortLogs, outgoing_link, offered, outcome_of, sent, queued, goes_on, arrival, way_to, stopped, forwarded, handle, kept_after, RouterData, StandForLogs, StandsFor, started_on, ◌with◌, waiting_in, places_on, IsStocked, rules, nat_tests, common_steps}
use Rattle.tva_drr.specs.declared.offered.Offered.TheVariants as offers
use Rattle.tva_port.specs.Counts.{waiting_count, queued_count, started_count, hand_count, places_in, StockData}
use Rattle.tva_router.proofs.Known.{known}
use Rattle.tva_router.proofs.Ports.{AreOthers, others, same_link}

-- ## what waits for all links

pub waits_nothing : (os : List (ℕ × LinkLimits)) → waiting_in os (λ link. []) ≡ 0
waits_nothing [] = refl
waits_nothing (o ∷ os) = omega (arith, waits_none o.1, waits_nothing os)

-- no more than there are places
few : (os : List (ℕ × LinkLimits)) (ps : List PortData) (logs : PortLogs) → All (λ (o : ℕ × LinkLimits). AreLinkLimits o.1) os → StandForLogs os ps logs → waiting_in os logs ≤ places_on os
few [] ps logs a s = omega arith
few (o ∷ os) [] logs a s = absurd s
few (o ∷ os) (p ∷ ps) logs a s =
    let legal : IsLegal o.1 (logs o.0) = subst (λ (l : LinkLimits). IsLegal l (logs o.0)) s.0 s.1.legal in
    omega (
      arith,
      waits_few o.1 (logs o.0) (All-head (λ (z : ℕ × LinkLimits). AreLinkLimits z.1) o os a) legal,
      few os ps logs (All-tail (λ (z : ℕ × LinkLimits). AreLinkLimits z.1) o os a) s.2,
    )

-- nothing was added
waits_same : (os : List (ℕ × LinkLimits)) (logs : PortLogs) → waiting_in os (logs with λ k. []) ≡ waiting_in os logs
waits_same os logs = grind (arith, append-nil)

-- nothing was added to a log, unless the link is that one
waits_other : (o : ℕ × LinkLimits) (logs : PortLogs) (link : ℕ) (es : List Entry) → eqb o.0 link ≡ false
    → waiting_count (waiting_after o.1 (logs o.0 ++ cond (eqb o.0 link) es [])) ≡ waiting_count (waiting_after o.1 (logs o.0))
waits_other o logs link es e = rw e (ap (λ (xs : List Entry). waiting_count (waiting_after o.1 xs)) (append-nil (logs o.0)))

waits_others : (os : List (ℕ × LinkLimits)) (logs : PortLogs) (link : ℕ) (es : List Entry) → AreOthers os link
    → waiting_in os (logs with λ k. cond (eqb k link) es []) ≡ waiting_in os logs
waits_others [] logs link es apart = refl
waits_others (o ∷ os) logs link es apart = omega (arith, waits_other o logs link es apart.0, waits_others os logs link es apart.1)

waits_here : (o : ℕ × LinkLimits) (logs : PortLogs) (link : ℕ) (limits : LinkLimits) (es : List Entry) (a b : ℕ) → eqb o.0 link ≡ true → o ≡ (link, limits)
    → waiting_count (waiting_after limits (logs link ++ es)) + a ≡ waiting_count (waiting_after limits (logs link)) + b
    → waiting_count (waiting_after o.1 (logs o.0 ++ cond (eqb o.0 link) es [])) + a ≡ waiting_count (waiting_after o.1 (logs o.0)) + b
waits_here o logs link limits es a b e same d =
    rw e (subst (λ (z : ℕ × LinkLimits). waiting_count (waiting_after z.1 (logs z.0 ++ es)) + a ≡ waiting_count (waiting_after z.1 (logs z.0)) + b) (sym same) d)

-- what changes for one link changes for all
changed : (os : List (ℕ × LinkLimits)) (logs : PortLogs) (link : ℕ) (limits : LinkLimits) (es : List Entry) (a b : ℕ) → AreDistinct (links_of os)
    → find (λ o. eqb o.0 link) os ≡ Some (link, limits)
    → waiting_count (waiting_after limits (logs link ++ es)) + a ≡ waiting_count (waiting_after limits (logs link)) + b
    → waiting_in os (logs with λ k. cond (eqb k link) es []) + a ≡ waiting_in os logs + b
changed [] logs link limits es a b apart f d = absurd (cc)
changed (o ∷ os) logs link limits es a b apart f d =
    (elim (eqb o.0 link) as (λ t. eqb o.0 link ≡ t → cond t (Some o) (find (λ z. eqb z.0 link) os) ≡ Some (link, limits)
    → waiting_in (o ∷ os) (logs with λ k. cond (eqb k link) es []) + a ≡ waiting_in (o ∷ os) logs + b) [
      | true ↦ λ e g.
          let same : o ≡ (link, limits) = cc in
          omega (
            arith,
            waits_here o logs link limits es a b e same d,
            waits_others os logs link es (others os link (subst (λ (z : ℕ). Contains (links_of os) z → ⊥) (same_link o.0 link e) apart.0)),
          )
      | false ↦ λ e g. omega (arith, waits_other o logs link es e, changed os logs link limits es a b apart.1 g d)
    ]) refl f

-- ## the way of a packet

-- a link that is found has the number that was looked for
found_is : (os : List (ℕ × LinkLimits)) (link k : ℕ) (limits : LinkLimits) → find (λ o. eqb o.0 link) os ≡ Some (k, limits) → k ≡ link
found_is [] link k limits f = absurd (cc)
found_is (o ∷ os) link k limits f =
    (elim (eqb o.0 link) as (λ t. eqb o.0 link ≡ t → cond t (Some o) (find (λ z. eqb z.0 link) os) ≡ Some (k, limits) → k ≡ link) [
      | true ↦ λ e g. let same : o ≡ (k, limits) = cc in ap (λ (z : ℕ × LinkLimits). z.0) (sym same) ∙ same_link o.0 link e
      | false ↦ λ e g. found_is os link k limits g
    ]) refl f

-- a way leads to a link of its own number, or nowhere
abbrev pub IsWay : List (ℕ × LinkLimits) → Option (ℕ × LinkLimits) → Type 0
IsWay os None = Unit {0}
IsWay os (Some (link, limits)) = find (λ o. eqb o.0 link) os ≡ Some (link, limits)

way_found : (os : List (ℕ × LinkLimits)) (link : ℕ) (way : Option (ℕ × LinkLimits)) → find (λ o. eqb o.0 link) os ≡ way → IsWay os way
way_found os link None f = tt
way_found os link (Some (k, limits)) f =
    subst (λ (z : ℕ). find (λ o. eqb o.0 z) os ≡ Some (k, limits)) (sym (found_is os link k limits f)) f

way_is : (plan : RouterPlan) (o : Option ℕ) → IsWay plan.outgoing (option_and_then (outgoing_link plan) o)
way_is plan None = tt
way_is plan (Some link) = way_found plan.outgoing link (outgoing_link plan link) refl

link_found : (way : Option (ℕ × LinkLimits)) (os : List (ℕ × LinkLimits)) (link : ℕ) → find (λ o. eqb o.0 link) os ≡ way → way ≢ None
    → (limits : LinkLimits) × (find (λ o. eqb o.0 link) os ≡ Some (link, limits))
link_found None os link f n = absurd (n refl)
link_found (Some (k, limits)) os link f n =
    (limits, subst (λ (z : ℕ). find (λ o. eqb o.0 link) os ≡ Some (z, limits)) (found_is os link k limits f) f)

-- ## an arrival and a decision

kept_count : (link : ℕ) (a : Offered PacketData) (p : PacketData) → hand_count (kept_after (outcome_of link a) p) + queued_count a ≡ 1
kept_count link a p = grind arith

sent_count : (v : RouterData) (h : List Charge) (logs : PortLogs) (now : ℕ) (class : Class) (p : PacketData) (way : Option (ℕ × LinkLimits)) → StandsFor v h logs → v.last ≤ now
    → IsWay v.plan.outgoing way
    → waiting_in v.plan.outgoing (logs with queued logs now class p way) + hand_count (kept_after (sent logs class p way) p) ≡ waiting_in v.plan.outgoing logs + 1
sent_count v h logs now class p None s le w = omega (arith, waits_same v.plan.outgoing logs)
sent_count v h logs now class p (Some (link, limits)) s le w =
    let a : Offered PacketData = offered limits (logs link) class p in
    changed v.plan.outgoing logs link limits (queued_by a now class (key_of class p) p) (hand_count (kept_after (outcome_of link a) p)) 1
    s.plan.valid.outgoing w
    (omega (arith, waits_more limits (logs link) now class (key_of class p) p (known v h logs link limits now s w le).legal, kept_count link a p))

-- an arrival leaves the packet in hand, or one more waits
arrived_count : (v : RouterData) (h : List Charge) (logs : PortLogs) (now : ℕ) (from : Option ℕ) (p : PacketData) → StandsFor v h logs → v.last ≤ now
    → waiting_in v.plan.outgoing (logs with (handle v.plan h logs now from p).queued) + hand_count (kept_after (handle v.plan h logs now from p).fate.outcome (handle v.plan h logs now from p).onward)
    ≡ waiting_in v.plan.outgoing logs + 1
unfolding handle
arrived_count v h logs now from p s le =
    elim (leb 32 p.hops) as (λ b. waiting_in v.plan.outgoing (logs with (cond b (stopped p) (forwarded v.plan logs now p (judge v.plan h (arrival now from p) p.carried))).queued)
    + hand_count (kept_after (cond b (stopped p) (forwarded v.plan logs now p (judge v.plan h (arrival now from p) p.carried))).fate.outcome (cond b (stopped p) (forwarded v.plan logs now p (judge v.plan h (arrival now from p) p.carried))).onward)
    ≡ waiting_in v.plan.outgoing logs + 1) [
      | true ↦ omega (arith, waits_same v.plan.outgoing logs)
      | false ↦ sent_count v h logs now (judge v.plan h (arrival now from p) p.carried).class (goes_on p (judge v.plan h (arrival now from p) p.carried).carried) (way_to v.plan p.flow.dst) s le
          (way_is v.plan (link_to v.plan.routes p.flow.dst))
    ]

-- a decision puts a packet into the hand, of which one less waits
decided_count : (v : RouterData) (h : List Charge) (logs : PortLogs) (link : ℕ) (limits : LinkLimits) (now : ℕ) (d : Decision) → StandsFor v h logs
    → outgoing_link v.plan link ≡ Some (link, limits) → d ≡ decision limits (logs link) now
    → waiting_in v.plan.outgoing (logs with started_on link d now) + started_count d ≡ waiting_in v.plan.outgoing logs + 0
decided_count v h logs link limits now d s f e =
    changed v.plan.outgoing logs link limits (started_by d now) (started_count d) 0 s.plan.valid.outgoing f (omega (arith, waits_less limits (logs link) now d e))

-- ## the stock

-- it is never empty
pub has_hand : (v : RouterData) (stock : StockData) → IsStocked v stock → 1 ≤ stock.count
has_hand v stock s = omega (arith, s.count, few v.plan.outgoing v.ports s.logs s.stands.plan.valid.limits s.stands.links)

pub stocked_arrived : (v z : RouterData) (now : ℕ) (from : Option ℕ) (p : PacketData) (hand : Option PacketData) (stock left : StockData) → IsStocked v stock → v.last ≤ now → z.plan ≡ v.plan
    → ((h : List Charge) (logs : PortLogs) → StandsFor v h logs → StandsFor z (h ++ (handle v.plan h logs now from p).charges) (logs with (handle v.plan h logs now from p).queued))
    → ((h : List Charge) (logs : PortLogs) → StandsFor v h logs → hand ≡ kept_after (handle v.plan h logs now from p).fate.outcome (handle v.plan h logs now from p).onward)
    → left.count + 1 ≡ stock.count + hand_count hand → left.room ≡ stock.room → IsStocked z left
stocked_arrived v z now from p hand stock left s le e stands kept g r =
    let out : z.plan.outgoing ≡ v.plan.outgoing = ap (λ (q : RouterPlan). q.outgoing) e in
    record {
      charges = s.charges ++ (handle v.plan s.charges s.logs now from p).charges;
      logs = s.logs with (handle v.plan s.charges s.logs now from p).queued;
      stands = stands s.charges s.logs s.stands;
      count = rw out (omega (arith, s.count, g, ap hand_count (kept s.charges s.logs s.stands), arrived_count v s.charges s.logs now from p s.stands le));
      room = rw out (omega (arith, s.room, r));
    }

pub stocked_decided : (v z : RouterData) (now link : ℕ) (d : Decision) (stock left : StockData) → IsStocked v stock → z.plan ≡ v.plan → outgoing_link v.plan link ≢ None
    → ((h : List Charge) (logs : PortLogs) (limits : LinkLimits) → StandsFor v h logs → outgoing_link v.plan link ≡ Some (link, limits) → d ≡ decision limits (logs link) now)
    → ((h : List Charge) (logs : PortLogs) → StandsFor v h logs → StandsFor z h (logs with started_on link d now))
    → left.count ≡ stock.count + started_count d → left.room ≡ stock.room → IsStocked z left
stocked_decided v z now link d stock left s e out-is decides stands g r =
    let out : z.plan.outgoing ≡ v.plan.outgoing = ap (λ (q : RouterPlan). q.outgoing) e in
    let f = link_found (outgoing_link v.plan link) v.plan.outgoing link refl out-is in
    record {
      charges = s.charges;
      logs = s.logs with started_on link d now;
      stands = stands s.charges s.logs s.stands;
      count = rw out (omega (arith, s.count, g, decided_count v s.charges s.logs link f.0 now d s.stands f.1 (decides s.charges s.logs f.0 s.stands f.1)));
      room = rw out (omega (arith, s.room, r));
    }

-- there is room for what starts
pub has_room : (v : RouterData) (now link : ℕ) (d : Decision) (stock : StockData) → IsStocked v stock → outgoing_link v.plan link ≢ None
    → ((h : List Charge) (logs : PortLogs) (limits : LinkLimits) → StandsFor v h logs → outgoing_link v.plan link ≡ Some (link, limits) → d ≡ decision limits (logs link) now)
    → stock.count + started_count d ≤ stock.room
has_room v now link d stock s out-is decides =
    let f = link_found (outgoing_link v.plan link) v.plan.outgoing link refl out-is in
    omega (arith, s.count, s.room, decided_count v s.charges s.logs link f.0 now d s.stands f.1 (decides s.charges s.logs f.0 s.stands f.1))

-- another master and other routes change nothing of that
pub stocked_same : (v z : RouterData) (charges : List Charge → List Charge) (stock : StockData) → IsStocked v stock → z.plan.outgoing ≡ v.plan.outgoing
    → ((h : List Charge) (logs : PortLogs) → StandsFor v h logs → StandsFor z (charges h) logs) → IsStocked z stock
stocked_same v z charges stock s out stands = record {
  charges = charges s.charges;
  logs = s.logs;
  stands = stands s.charges s.logs s.stands;
  count = rw out s.count;
  room = rw out s.room;
}

-- ## the places

places_push : (os : List (ℕ × LinkLimits)) (o : ℕ × LinkLimits) → places_on (os ++ o ∷ []) ≡ places_on os + places_in o.1
places_push [] o = omega arith
places_push (x ∷ xs) o = omega (arith, places_push xs o)

pub places_more : (os : List (ℕ × LinkLimits)) (i : ℕ) (d : ℕ × LinkLimits) (n : ℕ) → i < length os → n ≡ places_in (get_or os i d).1 → places_on (take (i + 1) os) ≡ places_on (take i os) + n
places_more os i d n within e =
    ap (λ (z : List (ℕ × LinkLimits)). places_on z) (take_more os i d within)
    ∙ (places_push (take i os) (get_or os i d) ∙ ap (λ (k : ℕ). places_on (take i os) + k) (sym e))
