-- How a node works: what it stands for before, within and after one time.
use Rattle.tva_node.proofs.Common.{nat_tests, ◌≡◌, ℕ, suc, ◌+◌, ◌<◌, ◌≤◌, List, [], ◌∷◌, ◌++◌, length, get_or, map, take, drop, set, All, Option, Some, None, false, refl, sym, subst, ◌∙◌, ap, ap₂, arith, inl, inr, ◌⊎◌, append-nil, ◌==◌, Contains, option_map, option_and_then, AllByRecursion, find, cons_option, cases_lt, map_push, drop_more, take-append-drop, set-get_or, get_or-drop, get_or-map, length-drop, map-set, take_more_set, drop-set-lt, set_split, take_all, All-nil, All-cons, All-head, All-tail, All-map, All-contains, All-from_recursion, All-weaker, All-append, All-set, All-take, All-get_or, filter_map-append, Event, Happened, LinkLimits, LinkPlan, Class, links_of, PacketData, each-append, each-weaker, each-cut, Input, Sending, Site, limits_out, AreRising, Entry, Took, Started, input_time, input_source, port_logs, IsNodeLog, in_turn, due, starts, start_after, sendings, event_of, sending_of, at_time, next_decision, next_on, IsQuiet, AreLegal, logs-other, next_again, quiet_starts_none, due_same, quiet_log, late_on, begins, takes, rests, starts_one, ends, Link, Role, asked_by, is_asked, least_next, sooner, with_next, link_pair, KnowsNext, RoleStands, IsBy, AreLeft, NodeState, StandsFor, Stands, Fits, role_plan, StandsAt, Takes, IsNoneBefore, first_time, work_time, is_due, queued_on, Waits, AwaitsAt, TakesAt, IsRank, DecidesAt, all_taken}
use Rattle.tva_port.specs.Log as port
use Rattle.tva_run.specs.AtTime.{IsAt}
use Rattle.tva_node.proofs.Finding.{find-none, find-some, find-at, link_valid, rises}
use Rattle.tva_node.proofs.Left.{left_late, next_late, next_left, none_due, taken_due, waiting_each}
use Rattle.tva_node.proofs.Roles.{by-later, role_legal}
use Rattle.tva_node.proofs.Waits.{all_wait, asked_all, asked_pairs, not_asked, some_is, unasked_knows, waits_on}

-- ## where there is work

none_left : (end : ℕ) (a b : Option ℕ) → IsNoneBefore end (sooner a b) → IsNoneBefore end a × IsNoneBefore end b
none_left end a b h = grind (arith, nat_tests)

no_link : (end : ℕ) (ls : List Link) → IsNoneBefore end (least_next ls) → All (λ (l : Link). IsNoneBefore end l.next) ls
no_link end [] h = All-nil (λ (l : Link). IsNoneBefore end l.next)
no_link end (l ∷ ls) h = let k = none_left end l.next (least_next ls) h in All-cons (λ (x : Link). IsNoneBefore end x.next) l ls k.0 (no_link end ls k.1)

-- nothing is before the time itself
pub none_sooner : (t : ℕ) (o : Option ℕ) → o ≡ Some t → IsNoneBefore t o
none_sooner t o e = grind (arith, nat_tests, some_is)

pub either : (a b : Option ℕ) (t : ℕ) → sooner a b ≡ Some t → (a ≡ Some t) ⊎ (b ≡ Some t)
either a b t e = grind (arith, nat_tests)

pub any_link : (P : Link → Type 0) (ls : List Link) (t : ℕ) → All P ls → least_next ls ≡ Some t → (l : Link) × (P l × (l.next ≡ Some t))
any_link P [] t h e = absurd (cc)
any_link P (l ∷ ls) t h e = grind (arith, nat_tests, either, least_next, All-head, All-tail, (any_link P ls t (All-tail P l ls h)))

-- ## links out

abbrev limits_in : Option (ℕ × LinkPlan) → Option (ℕ × LinkLimits)
limits_in found = option_map (λ o. (o.0, o.1.limits)) found

limits_are : (site : Site) (ls : List Link) (k : ℕ) → site.links ≡ map link_pair ls → limits_out site k ≡ limits_in (find (λ o. o.0 == k) (map link_pair ls))
limits_are site ls k e = ap (λ (os : List (ℕ × LinkPlan)). limits_in (find (λ o. o.0 == k) os)) e

limits_some : (P : Link → Type 0) (k : ℕ) (ls : List Link) (found : Option (ℕ × LinkPlan)) (o : ℕ × LinkLimits) → All P ls → find (λ x. x.0 == k) (map link_pair ls) ≡ found → limits_in found ≡ Some o → (l : Link) × (P l × (l.number ≡ k))
limits_some P k ls None o h e f = absurd (cc)
limits_some P k ls (Some x) o h e f = find-some P k ls x h e

-- a link out is one of the links
pub out_link : (P : Link → Type 0) (site : Site) (ls : List Link) (k : ℕ) (o : ℕ × LinkLimits) → site.links ≡ map link_pair ls → All P ls → limits_out site k ≡ Some o → (l : Link) × (P l × (l.number ≡ k))
out_link P site ls k o e h f = limits_some P k ls (find (λ x. x.0 == k) (map link_pair ls)) o h refl (sym (limits_are site ls k e) ∙ f)

-- a number that no link has is no link out
pub no_out : (site : Site) (ls : List Link) (k : ℕ) → site.links ≡ map link_pair ls → All (λ (l : Link). l.number ≡ k → ⊥) ls → limits_out site k ≡ None
no_out site ls k e h = limits_are site ls k e ∙ ap limits_in (find-none k ls h)

next_out : (o : Option (ℕ × LinkLimits)) (f : ℕ × LinkLimits → Option ℕ) (t : ℕ) → option_and_then f o ≡ Some t → (x : ℕ × LinkLimits) × (o ≡ Some x)
next_out o f t e = grind (arith, nat_tests)

-- ## before a time

module _ (v : NodeState) (log : List Entry) (h : StandsFor v log) where
  pub legal : AreLegal v.site v.worked_to log
  legal = role_legal v.site v.role log v.worked_to h.site h.besides.plan h.besides.role h.besides.past

  -- work comes no earlier than what is worked
  pub work_late : (t : ℕ) → work_time v.waiting v.links ≡ Some t → v.worked_to ≤ t
  work_late t e = elim (either (first_time v.waiting) (least_next v.links) t e) [
    | inl a ↦ next_late v.worked_to v.inbox v.waiting t h.besides.left a
    | inr a ↦
        let l = any_link (KnowsNext v.site log v.worked_to) v.links t h.besides.links a in
        late_on v.site log v.worked_to t l.0.number (limits_out v.site l.0.number) (sym l.1.0 ∙ l.1.1)
  ]

  no_input : (end t : ℕ) → IsNoneBefore end (first_time v.waiting) → v.worked_to ≤ t → t < end → Contains (map input_time (in_turn v.inbox)) t → ⊥
  no_input end t n l k c =
      let P : ℕ → Type 0 = λ u. (u < v.worked_to) ⊎ (end ≤ u) in
      let Q : Input → Type 0 = λ i. P (input_time i) in
      let taken = due v.worked_to (in_turn v.inbox) in
      let early : AllByRecursion Q taken = each-weaker (λ i. input_time i < v.worked_to) Q (λ i a. inl a) taken (each-cut input_time input_source v.worked_to (in_turn v.inbox)) in
      let late : AllByRecursion Q v.waiting = each-weaker (λ i. end ≤ input_time i) Q (λ i a. inr a) v.waiting (left_late v.inbox taken v.waiting h.besides.left end n) in
      let all : AllByRecursion Q (in_turn v.inbox) = subst (AllByRecursion Q) (sym h.besides.left) (each-append Q taken v.waiting early late) in
      elim (All-contains P (map input_time (in_turn v.inbox)) t (All-map P input_time (in_turn v.inbox) (All-from_recursion Q (in_turn v.inbox) all)) c) [
        | inl a ↦ omega arith
        | inr a ↦ omega arith
      ]

  no_decision : (end t link : ℕ) → IsNoneBefore end (least_next v.links) → t < end → next_on v.site log v.worked_to link ≡ Some t → ⊥
  no_decision end t link n k e =
      let o = next_out (limits_out v.site link) (λ o. next_decision o.1 (port_logs log link) v.worked_to) t e in
      let P : Link → Type 0 = λ l. IsNoneBefore end l.next in
      let Q : Link → Type 0 = λ l. P l × KnowsNext v.site log v.worked_to l in
      let l = out_link Q v.site v.links link o.0 h.besides.out (λ i d m. (no_link end v.links n i d m, h.besides.links i d m)) o.1 in
      let same : l.0.next ≡ Some t = l.1.0.1 ∙ subst (λ k. next_on v.site log v.worked_to k ≡ Some t) (sym l.1.1) e in
      let late : end ≤ t = subst (IsNoneBefore end) same l.1.0.0 in
      omega arith

  -- before the next time nothing is to be done
  pub quiet : (end : ℕ) → IsNoneBefore end (work_time v.waiting v.links) → IsQuiet v.site (in_turn v.inbox) log v.worked_to end
  quiet end n t k w =
      let parts = none_left end (first_time v.waiting) (least_next v.links) n in
      elim w.1 [
        | inl c ↦ no_input end t parts.0 w.0 k c
        | inr d ↦ no_decision end t d.0 parts.1 k d.1
      ]

  due_then : (end : ℕ) → v.worked_to ≤ end → IsNoneBefore end (work_time v.waiting v.links) → due end (in_turn v.inbox) ≡ due v.worked_to (in_turn v.inbox)
  due_then end l n = due_same v.worked_to end (in_turn v.inbox) l (λ t a b c. quiet end n t b (a, inl c))

  log_then : (end : ℕ) → v.worked_to ≤ end → IsNoneBefore end (work_time v.waiting v.links) → IsNodeLog v.site (in_turn v.inbox) end log
  log_then end l n = quiet_log v.site (in_turn v.inbox) v.worked_to end log l (quiet end n) h.whole

  -- up to the next time a link decides next when it did
  again : (end k : ℕ) (next : Option ℕ) (o : Option (ℕ × LinkLimits)) → v.worked_to ≤ end → o ≡ limits_out v.site k → IsNoneBefore end next → next ≡ option_and_then (λ x. next_decision x.1 (port_logs log k) v.worked_to) o → next ≡ option_and_then (λ x. next_decision x.1 (port_logs log k) end) o
  again end k next o l e a q = grind (arith, nat_tests, legal, next_again, link_valid)

  knows : (end : ℕ) (ls : List Link) → v.worked_to ≤ end → All (λ (x : Link). IsNoneBefore end x.next) ls → All (KnowsNext v.site log v.worked_to) ls → All (KnowsNext v.site log end) ls
  knows end ls l a b i d m = again end (get_or ls i d).number (get_or ls i d).next (limits_out v.site (get_or ls i d).number) l refl (a i d m) (b i d m)

  -- a node goes to a time before which there is nothing to do
  pub rests_until : (end : ℕ) → end ≤ v.horizon + 1 → v.worked_to ≤ end → IsNoneBefore end (work_time v.waiting v.links) → StandsFor (record v { worked_to = end }) log
  rests_until end b l n = record {
    site = h.site;
    horizon = (h.horizon.0, b);
    whole = log_then end l n;
    events = h.events;
    sendings = h.sendings;
    besides = record {
      plan = h.besides.plan;
      out = h.besides.out;
      role = h.besides.role;
      past = by-later v.worked_to end v.role l h.besides.past;
      links = knows end v.links l (no_link end v.links (none_left end (first_time v.waiting) (least_next v.links) n).1) h.besides.links;
      fits = h.besides.fits;
      left = subst (λ (taken : List Input). AreLeft v.inbox taken v.waiting) (sym (due_then end l n)) h.besides.left;
    };
  }

  -- a time begins at which there is work
  pub begins_at : (now : ℕ) → now ≤ v.horizon → work_time v.waiting v.links ≡ Some now → TakesAt v now
  begins_at now b w =
      let n = none_sooner now (work_time v.waiting v.links) w in
      let l = work_late now w in
      let taken = due now (in_turn v.inbox) in
      let left : AreLeft v.inbox taken v.waiting = subst (λ (is : List Input). AreLeft v.inbox is v.waiting) (sym (due_then now l n)) h.besides.left in (
        taken,
        log,
        record {
          site = h.site;
          plan = h.besides.plan;
          out = h.besides.out;
          horizon = (h.horizon.0, b);
          worked = begins v.site (in_turn v.inbox) now log (log_then now l n);
          events = h.events;
          sendings = h.sendings;
          role = h.besides.role;
          past = by-later v.worked_to now v.role l h.besides.past;
          links = λ i d m k. absurd (omega (arith, k));
          fits = h.besides.fits;
          early = each-weaker (λ i. input_time i < now) (λ i. input_time i ≤ now) (λ i a. omega arith) taken (each-cut input_time input_source now (in_turn v.inbox));
          late = left_late v.inbox taken v.waiting left now (none_left now (first_time v.waiting) (least_next v.links) n).0;
          left = left;
        },
        all_wait v.site log now v.links (knows now v.links l (no_link now v.links (none_left now (first_time v.waiting) (least_next v.links) n).1) h.besides.links),
      )

-- ## inputs

module _ (v : NodeState) (now : ℕ) (taken : List Input) (log : List Entry) (st : StandsAt v now 0 taken log) (waits : AwaitsAt v now 0 log) where
  -- the next input is one that the node can take
  pub next_fits : (input : Input) (rest : List Input) → v.waiting ≡ input ∷ rest → Fits v.site.plan input
  next_fits input rest e =
      let each = waiting_each v.inbox taken v.waiting st.left (λ i. (input_time i ≤ v.horizon) × Fits v.site.plan i) st.fits in
      (subst (AllByRecursion (λ i. (input_time i ≤ v.horizon) × Fits v.site.plan i)) e each).0.1

  -- it is taken, and the link on which it queues a packet is asked
  pub took_one : (input : Input) (rest : List Input) (told : Happened) (role : Role) → v.waiting ≡ input ∷ rest → input_time input ≡ now
      → Takes v.site log input told role → role_plan role ≡ role_plan v.role → IsBy now role
      → TakesAt (record v { links = map (asked_by (queued_on told) now) v.links; waiting = rest; role = role; events = v.events ++ record { time = at_time now; node = v.site.number; happened = told } ∷ [] }) now
  took_one input rest told role e time t plan by =
      let made = t.0 in
      let entry = Took input made in
      let asked = map (asked_by (queued_on told) now) v.links in (
        taken ++ input ∷ [],
        log ++ entry ∷ [],
        record {
          site = st.site;
          plan = st.plan ∙ sym plan;
          out = st.out ∙ sym (asked_pairs (queued_on told) now v.links);
          horizon = st.horizon;
          worked = takes v.site now taken log input made time t.1 st.worked;
          events = ap₂ (λ (es : List Event) (x : Event). es ++ x ∷ []) st.events (λ i. record { time = at_time (sym time i); node = v.site.number; happened = t.2 i }) ∙ sym (map_push (event_of v.site) log entry);
          sendings = st.sendings ∙ sym (filter_map-append (sending_of v.site) log (entry ∷ []) ∙ append-nil (sendings v.site log));
          role = t.3;
          past = by;
          links = λ i d m k. absurd (omega (arith, k));
          fits = st.fits;
          early = each-append (λ i. input_time i ≤ now) taken (input ∷ []) st.early (omega arith, tt);
          late = (subst (AllByRecursion (λ (x : Input). now ≤ input_time x)) e st.late).1;
          left = next_left v.inbox taken input rest (subst (AreLeft v.inbox taken) e st.left);
        },
        asked_all v.site log now input made (queued_on told) v.links (ap queued_on t.2) waits,
      )

  -- where none comes any more, all inputs of the time are taken
  pub all_in : is_due now v.waiting ≡ false → DecidesAt v now 0
  all_in e = grind (arith, nat_tests, none_due, taken_due, each-weaker, All-nil)

-- ## links

-- a link's number and plan stay where its next decision is changed
pub pairs_put : (ls links : List Link) (place : ℕ) (d : Link) (next : Option ℕ) → place < length ls → links ≡ with_next place next ls d → map link_pair links ≡ map link_pair ls
pairs_put ls links place d next h e =
    let pairs = map link_pair ls in
    ap (map link_pair) e
    ∙ (map-set link_pair ls place (record (get_or ls place d) { next = next })
    ∙ (ap (set pairs place) (sym (get_or-map link_pair ls place d (link_pair d) h))
    ∙ set-get_or pairs place (link_pair d)))

module _ (v : NodeState) (now place rank : ℕ) (log : List Entry) (d : Link) (ranked : IsRank rank place v.links) (st : StandsAt v now rank (all_taken v now) log) (waits : AwaitsAt v now rank log) (within : place < length v.links) where
  abbrev link : Link
  link = get_or v.links place d

  rising : AreRising (links_of (map link_pair v.links))
  rising = subst (λ (os : List (ℕ × LinkPlan)). AreRising (links_of os)) st.out st.site.rising

  -- its number is no lower than those that have decided
  low_enough : rank ≤ link.number
  low_enough = All-head (λ (l : Link). rank ≤ l.number) link (drop (place + 1) v.links) (subst (All (λ (l : Link). rank ≤ l.number)) (drop_more v.links place d within) ranked.behind)

  pub found : limits_out v.site link.number ≡ Some (link.number, link.plan.limits)
  found = limits_are v.site v.links link.number st.out ∙ ap limits_in (find-at v.links place d rising within)

  -- the links behind it have higher numbers
  behind_higher : All (λ (l : Link). link.number < l.number) (drop (place + 1) v.links)
  behind_higher i e m = grind (arith, nat_tests, get_or-drop, rises, rising, length-drop)

  -- numbers between are no links out
  pub none_between : (k : ℕ) → rank ≤ k → k < link.number → starts v.site log k now ≡ None
  none_between k l h =
      let P : Link → Type 0 = λ x. x.number ≡ k → ⊥ in
      let front : All P (take place v.links) = All-weaker (λ (x : Link). x.number < rank) P (λ x a e. absurd (omega arith)) (take place v.links) ranked.before in
      let more : All P (drop (place + 1) v.links) = All-weaker (λ (x : Link). link.number < x.number) P (λ x a e. absurd (omega arith)) (drop (place + 1) v.links) behind_higher in
      let back : All P (drop place v.links) = subst (All P) (sym (drop_more v.links place d within)) (All-cons P link (drop (place + 1) v.links) (λ e. absurd (omega arith)) more) in
      let all : All P v.links = subst (All P) (take-append-drop place v.links) (All-append P (take place v.links) (drop place v.links) front back) in
      rw (no_out v.site v.links k st.out all) refl

  abbrev put_next : Option ℕ → Link
  put_next next = record link { next = next }

  set_same : (next : Option ℕ) → v.site.links ≡ map link_pair (set v.links place (put_next next))
  set_same next = st.out ∙ sym (pairs_put v.links (set v.links place (put_next next)) place d next within refl)

  set_ranked : (next : Option ℕ) → IsRank (suc link.number) (place + 1) (set v.links place (put_next next))
  set_ranked next =
      let P : Link → Type 0 = λ x. x.number < suc link.number in
      let front : All P (take place v.links) = All-weaker (λ (x : Link). x.number < rank) P (λ x a. let b = low_enough in omega arith) (take place v.links) ranked.before in
      record {
        before = subst (All P) (sym (take_more_set v.links place (put_next next) within)) (All-append P (take place v.links) (put_next next ∷ []) front (All-cons P (put_next next) [] (omega arith) (All-nil P)));
        behind = subst (All (λ (x : Link). suc link.number ≤ x.number)) (sym (drop-set-lt (place + 1) v.links place (put_next next) (omega arith)))
            (All-weaker (λ (x : Link). link.number < x.number) (λ (x : Link). suc link.number ≤ x.number) (λ x a. omega arith) (drop (place + 1) v.links) behind_higher);
      }

  set_knows : (next : Option ℕ) (log' : List Entry) → ((x : Link) → x.number < link.number → KnowsNext v.site log (now + 1) x → KnowsNext v.site log' (now + 1) x) → KnowsNext v.site log' (now + 1) (put_next next)
      → All (λ (x : Link). x.number < suc link.number → KnowsNext v.site log' (now + 1) x) (set v.links place (put_next next))
  set_knows next log' keep own =
      let P : Link → Type 0 = λ x. x.number < suc link.number → KnowsNext v.site log' (now + 1) x in
      let Q : Link → Type 0 = λ x. (x.number < rank) × (x.number < rank → KnowsNext v.site log (now + 1) x) in
      let low = low_enough in
      let front : All P (take place v.links) = All-weaker Q P (λ x a b. keep x (let c = a.0 in omega arith) (a.1 a.0)) (take place v.links) (λ i e m. (ranked.before i e m, All-take (λ (x : Link). x.number < rank → KnowsNext v.site log (now + 1) x) place v.links st.links i e m)) in
      let back : All P (drop (suc place) v.links) = subst (λ k. All P (drop k v.links)) (let e : place + 1 ≡ suc place = omega arith in e) (All-weaker (λ (x : Link). link.number < x.number) P (λ x a b. absurd (omega arith)) (drop (place + 1) v.links) behind_higher) in
      subst (All P) (sym (set_split v.links place (put_next next) within)) (All-append P (take place v.links) (put_next next ∷ drop (suc place) v.links) front (All-cons P (put_next next) (drop (suc place) v.links) (λ a. own) back))

  -- the links behind wait as before
  set_waits : (next : Option ℕ) (log' : List Entry) → ((x : Link) → link.number < x.number → Waits v.site log now x → Waits v.site log' now x)
      → All (λ (x : Link). suc link.number ≤ x.number → Waits v.site log' now x) (set v.links place (put_next next))
  set_waits next log' keep =
      let P : Link → Type 0 = λ x. suc link.number ≤ x.number → Waits v.site log' now x in
      let low = low_enough in
      All-set P v.links place (put_next next) (λ a. absurd (omega arith))
      (All-weaker (λ (x : Link). rank ≤ x.number → Waits v.site log now x) P (λ x w a. keep x (omega arith) (w (omega arith))) v.links waits)

  -- the link starts nothing
  pub rested : (next : Option ℕ) (role : Role) → starts v.site log link.number now ≡ None → next ≡ next_on v.site log (now + 1) link.number
      → RoleStands v.site role log → role_plan role ≡ role_plan v.role → IsBy now role
      → DecidesAt (record v { links = set v.links place (put_next next); role = role }) now (place + 1)
  rested next role none is h plan by = (
    suc link.number,
    log,
    set_ranked next,
    record {
      site = st.site;
      plan = st.plan ∙ sym plan;
      out = set_same next;
      horizon = st.horizon;
      worked = rests v.site now rank (suc link.number) (all_taken v now) log (let l = low_enough in omega arith) quiet_to st.worked;
      events = st.events;
      sendings = st.sendings;
      role = h;
      past = by;
      links = set_knows next log (λ x a k. k) is;
      fits = st.fits;
      early = st.early;
      late = st.late;
      left = st.left;
    },
    set_waits next log (λ x a w. w),
  )
    where
      quiet_to : (k : ℕ) → rank ≤ k → k < suc link.number → starts v.site log k now ≡ None
      quiet_to k a b = elim (cases_lt k link.number) [
        | inl c ↦ none_between k a c
        | inr c ↦ let same : link.number ≡ k = omega arith in subst (λ j. starts v.site log j now ≡ None) same none
      ]

  abbrev start_event : Class → PacketData → Event
  start_event class packet = event_of v.site (Started now link.number class packet)

  -- the link starts a packet
  pub started_one : (class : Class) (packet : PacketData) (next : Option ℕ) (role : Role) (event : Event) (sending : Sending)
      → starts v.site log link.number now ≡ Some (class, packet)
      → starts v.site (log ++ Started now link.number class packet ∷ []) link.number now ≡ None
      → next ≡ next_on v.site (log ++ Started now link.number class packet ∷ []) (now + 1) link.number
      → RoleStands v.site role (log ++ Started now link.number class packet ∷ []) → role_plan role ≡ role_plan v.role → IsBy now role
      → event ≡ start_event class packet → Some sending ≡ sending_of v.site (Started now link.number class packet)
      → DecidesAt (record v { links = set v.links place (put_next next); role = role; events = v.events ++ event ∷ []; sendings = v.sendings ++ sending ∷ [] }) now (place + 1)
  started_one class packet next role event sending some busy is h plan by told sent =
      let entry = Started now link.number class packet in (
        suc link.number,
        log ++ entry ∷ [],
        set_ranked next,
        record {
          site = st.site;
          plan = st.plan ∙ sym plan;
          out = set_same next;
          horizon = st.horizon;
          worked = starts_one v.site now link.number class packet (all_taken v now) log some busy (rests v.site now rank link.number (all_taken v now) log low_enough none_between st.worked);
          events = ap₂ (λ (es : List Event) (x : Event). es ++ x ∷ []) st.events told ∙ sym (map_push (event_of v.site) log entry);
          sendings = ap₂ (λ (xs : List Sending) (x : Sending). xs ++ x ∷ []) st.sendings refl ∙ sym (filter_map-append (sending_of v.site) log (entry ∷ []) ∙ ap (λ (o : Option Sending). sendings v.site log ++ cons_option o []) (sym sent));
          role = h;
          past = by;
          links = set_knows next (log ++ entry ∷ []) (λ x a k. k ∙ sym (ap (λ (ps : List port.Entry). option_and_then (λ o. next_decision o.1 ps (now + 1)) (limits_out v.site x.number)) (logs-other log now link.number class packet x.number (λ e. omega arith)))) is;
          fits = st.fits;
          early = st.early;
          late = st.late;
          left = st.left;
        },
        set_waits next (log ++ entry ∷ []) (λ x a w. waits_on v.site log (log ++ entry ∷ []) now x (logs-other log now link.number class packet x.number (λ e. omega arith)) w),
      )

  -- a link that is not asked has nothing to do, and decides next when it did
  pub passed : is_asked link.next now ≡ false → DecidesAt v now (place + 1)
  passed e =
      let limits = link.plan.limits in
      let ports = port_logs log link.number in
      let knows : KnowsNext v.site log now link = unasked_knows v.site log now link e waits_here in
      let out : next_on v.site log now link.number ≡ next_decision limits ports now = ap (option_and_then (λ o. next_decision o.1 (port_logs log link.number) now)) found in
      let late : (t : ℕ) → next_decision limits ports now ≡ Some t → now < t = (λ t f. not_asked link.next now t (knows ∙ (out ∙ f)) e) in
      let legal = role_legal v.site v.role log now st.site st.plan st.role st.past link.number (link.number, limits) found in
      let none : starts v.site log link.number now ≡ None =
      ap (option_and_then (λ o. start_after o.1 (port_logs log link.number) now)) found ∙ quiet_starts_none limits ports now now legal.1 (omega arith) late in
      let again : next_decision limits ports (now + 1) ≡ next_decision limits ports now =
      next_again limits ports now (now + 1) ((link_valid v.site link.number (link.number, limits) st.site found).0) legal.0 legal.1 (omega arith) (λ t f. let k = late t f in omega arith) in
      let next_there : next_on v.site log (now + 1) link.number ≡ next_decision limits ports (now + 1) = ap (option_and_then (λ o. next_decision o.1 (port_logs log link.number) (now + 1))) found in
      subst (λ (ls : List Link). DecidesAt (record v { links = ls }) now (place + 1)) (set-get_or v.links place d)
      (rested link.next v.role none (knows ∙ (out ∙ (sym again ∙ sym next_there))) st.role refl st.past)
    where
      waits_here : Waits v.site log now link
      waits_here = All-get_or (λ (x : Link). rank ≤ x.number → Waits v.site log now x) v.links place d within waits low_enough

-- ## after a time

-- where all links have decided, the node is worked up to the next time
pub worked_one : (v : NodeState) (now : ℕ) → DecidesAt v now (length v.links) → Stands (record v { worked_to = now + 1 })
worked_one v now (rank, log, ranked, st, waits) =
    let P : Link → Type 0 = λ x. x.number < rank in
    let low : All P v.links = subst (All P) (take_all (length v.links) v.links (omega arith)) ranked.before in (
      log,
      record {
        site = st.site;
        horizon = (st.horizon.0, (let a = st.horizon.1 in omega arith));
        whole = subst (λ t. IsNodeLog v.site (in_turn v.inbox) t log) (let e : suc now ≡ now + 1 = omega arith in e)
            (ends v.site (in_turn v.inbox) now rank log
            (λ k a. rw (no_out v.site v.links k st.out (All-weaker P (λ (x : Link). x.number ≡ k → ⊥) (λ x b e. absurd (omega arith)) v.links low)) refl)
            (subst (λ t. IsAt v.site now rank (due t (in_turn v.inbox)) log) (let e : now + 1 ≡ suc now = omega arith in e) st.worked));
        events = st.events;
        sendings = st.sendings;
        besides = record {
          plan = st.plan;
          out = st.out;
          role = st.role;
          past = by-later now (now + 1) v.role (omega arith) st.past;
          links = λ i d m. st.links i d m (low i d m);
          fits = st.fits;
          left = st.left;
        };
      },
    )

-- ## going on

-- a node goes to a time, or stays where it is
pub goes_to : (v : NodeState) (end to : ℕ) → Stands v → end ≤ v.horizon + 1 → IsNoneBefore end (work_time v.waiting v.links) → ((v.worked_to ≤ end) × (to ≡ end)) ⊎ ((end ≤ v.worked_to) × (to ≡ v.worked_to)) → Stands (record v { worked_to = to })
goes_to v end to (log, h) b n c = elim c [
  | inl a ↦ subst (λ t. Stands (record v { worked_to = t })) (sym a.1) (log, rests_until v log h end b a.0 n)
  | inr a ↦ subst (λ t. Stands (record v { worked_to = t })) (sym a.1) (log, h)
]
