-- A window keeps the run: what the nodes' logs add is the run's, and the inboxes have it all afterwards.
use Rattle.tva_net.proofs.Common.{◌≡◌, ℕ, zero, suc, ◌+◌, ◌<◌, ◌≤◌, min, List, [], ◌∷◌, ◌++◌, length, get_or, drop, map, filter, Bool, true, false, cond, Option, Some, None, All, refl, sym, subst, ◌∙◌, ap, ap₂, arith, inl, inr, flat_map, slice_get, nat_lt, ◌==◌, option_map, option_map_or, AllByRecursion, AllZip, append-nil, drop_at, map-append, filter-append, filter_map-append, All-from_recursion, AllZip-get_or, slice_get_cases, slice_get_past, slice_get_within, get_or_from_slice_get, Event, Time, LinkPlan, Config, NodePlan, IsLinkPlan, all_here, Row, IsJoin, cut, from_source, each-filter, each-weaker, cut-put_all, each_from_sources, put_all-append, Input, Sending, Site, link_out, site_of, Entry, input_time, input_source, entry_time, entry_rank, IsNodeLog, due, in_turn, IsQuiet, IsWorkAt, event_of, events, sending_of, sendings, IsNodeLog-unique, Gone, Keeps, NodeState, Stands, StandsFor, news, unsent, Logs, log_at, arrival, arrival_of, arrivals, arrivals_at, links_out, reaches, rows_at, site_at, AreEvents, event_node, event_time, events_at, HasLog, IsRunTo, logs_before, EachBeginsWith, IsNextWindow, Window, given, window_length, events_added, least_delay-least, run_goes_on, same_before, window_next, log_at-before, link_out_is, sent_arrives, site_number, CanDeliver, GotMail, GotMails, IsPostable, goes_to, mail_to, HasNoNews, IsFirstTime, of_place, IsNodeAt, WorksFor, WorkState, reaches_rise, IsThrough, if_some, each-right, each_at_least, each-map, AllZip-long, same_Some}
use Rattle.tva_run.proofs.Holding.{HappensAt, events_work}
use Rattle.tva_net.proofs.NodePlaces.{of_place_is}
use Rattle.tva_net.proofs.Lists.{split_at}
use Rattle.tva_net.proofs.Given.{given_more, held_more}
use Rattle.tva_net.proofs.Nodes.{has_log}
use Rattle.tva_net.proofs.Resting.{comes_early, log_then}
use Rattle.tva_net.proofs.Senders.{HasLink, IsSentFrom, arrive_no_rows, each_since, goes_linked, mail_none, mail_on, out_is, sends_none, sent_from, since_one}
use Rattle.tva_net.proofs.Standing.{events_there, first_ends, first_push, length_some, place_of, rest_start, run_start, short_logs, start_later, start_within, tell_of, work_starts}

-- ## the nodes' logs once they are worked

abbrev pub through_logs : (until : ℕ) (mids : List NodeState) → AllByRecursion (IsThrough until) mids → Logs
through_logs until [] h = []
through_logs until (y ∷ ys) h = h.0.stands.0 ∷ through_logs until ys h.1

through_count : (until : ℕ) (mids : List NodeState) (h : AllByRecursion (IsThrough until) mids) → length (through_logs until mids h) ≡ length mids
through_count until [] h = refl
through_count until (y ∷ ys) h = ap suc (through_count until ys h.1)

through_at : (until : ℕ) (mids : List NodeState) (h : AllByRecursion (IsThrough until) mids) (n : ℕ) (d : NodeState) → n < length mids → StandsFor (get_or mids n d) (log_at (through_logs until mids h) n)
through_at until [] h n d l = absurd (omega (arith, l))
through_at until (y ∷ ys) h zero d l = h.0.stands.1
through_at until (y ∷ ys) h (suc n) d l = through_at until ys h.1 n d (omega (arith, l))

-- a node at which nothing is left to be done before a time, over what reaches it of what was sent before
pub record IsMid (config : Config) (rows : List Row) (sent longer : Logs) (until : ℕ) (n : ℕ) (v : NodeState) : Type 0 where
  pub site : site_at config n ≡ Some v.site
  pub horizon : v.horizon ≡ config.horizon.0
  pub worked_to : v.worked_to ≤ until
  pub stands : StandsFor v (log_at longer n)
  pub rests : IsQuiet v.site (in_turn v.inbox) (log_at longer n) v.worked_to until
  pub mail : (source : ℕ) → from_source input_source source v.inbox ≡ due (config.horizon.0 + 1) (reaches config rows sent n source)

-- what its log has further
pub record IsFurther (sent longer : Logs) (start : ℕ) (n : ℕ) (rest : List Entry) : Type 0 where
  pub log : log_at longer n ≡ log_at sent n ++ rest
  pub late : AllByRecursion (λ e. start ≤ entry_time e) rest

-- a packet that is under way on a link, and arrives at a time or later
pub record IsGoing (config : Config) (until : ℕ) (s : Sending) : Type 0 where
  pub link : LinkPlan
  pub here : slice_get config.links s.link ≡ Some link
  pub late : until ≤ s.arrive.0

module _ (config : Config) (rows : List Row) (windows : List Window) (told : List Event) (w : WorkState) (h : WorksFor config rows windows told w)
    (start : Time) (first : IsFirstTime w.nodes (Some start)) (until : ℕ) (ends : until ≡ min (start.0 + w.span) (w.horizon + 1))
    (mids : List NodeState) (through : AllByRecursion (IsThrough until) mids) (kept : AllZip Keeps w.nodes mids) where
  abbrev pub longer : Logs
  longer = through_logs until mids through

  -- ## the window

  ends_is : until ≡ min (start.0 + window_length config) (config.horizon.0 + 1)
  ends_is = ends ∙ ap₂ (λ (a b : ℕ). min (start.0 + a) (b + 1)) h.kept.span h.kept.horizon

  later : w.worked_to ≤ start.0
  later = start_later config rows windows told w h start first

  within : start.0 ≤ config.horizon.0
  within = start_within config rows windows told w h start first

  pub some : start.0 < until
  some = omega (arith, ends_is, within, length_some config rows windows told w h start first)

  pub whole : until ≤ config.horizon.0 + 1
  whole = omega (arith, ends_is)

  short : until ≤ start.0 + window_length config
  short = omega (arith, ends_is)

  ordered : start.0 ≤ until
  ordered = omega (arith, some)

  -- ## the nodes

  pub mid_count : length mids ≡ length w.nodes
  mid_count = AllZip-long Keeps w.nodes mids kept

  config_count : length mids ≡ length config.nodes
  config_count = mid_count ∙ h.kept.count

  long_count : length longer ≡ length config.nodes
  long_count = through_count until mids through ∙ config_count

  pub mid_at : (n : ℕ) (d : NodeState) → n < length mids → IsMid config rows h.way.run.logs longer until n (get_or mids n d)
  mid_at n d l =
      let k : n < length w.nodes = omega (arith, l, mid_count) in
      let a = h.kept.nodes n d k in
      let keeps : Keeps (get_or w.nodes n d) (get_or mids n d) = AllZip-get_or Keeps w.nodes mids n d d kept k in
      let done : IsThrough until (get_or mids n d) = All-from_recursion (IsThrough until) mids through n d l in
      let stands : StandsFor (get_or mids n d) (log_at longer n) = through_at until mids through n d l in
      let bound : (get_or mids n d).horizon ≡ config.horizon.0 = keeps.horizon ∙ a.horizon in
      record {
        site = a.site ∙ ap Some (sym keeps.site);
        horizon = bound;
        worked_to = done.worked_to;
        stands = stands;
        rests = λ t m x. done.rests (log_at longer n) t stands (omega (arith, m, bound, whole)) m x;
        mail = λ source. ap (from_source input_source source) keeps.inbox ∙ a.mail source;
      }

  mid_bound : (n : ℕ) (d : NodeState) → n < length mids → until ≤ (get_or mids n d).horizon + 1
  mid_bound n d l = let e = (mid_at n d l).horizon in omega (arith, e, whole)

  mid_of : (n : ℕ) (site : Site) → site_at config n ≡ Some site → (d : NodeState) × (n < length mids) × ((get_or mids n d).site ≡ site)
  mid_of n site e =
      let (d, k, same) = place_of config rows windows told w h n site e in
      let l : n < length mids = omega (arith, k, mid_count) in
      (d, l, same_Some (get_or mids n d).site site (sym (mid_at n d l).site ∙ e))

  has : (n : ℕ) (site : Site) → site_at config n ≡ Some site → HasLog config rows h.way.run.logs until site (log_at longer n)
  has n site e =
      let (d, l, same) = mid_of n site e in
      let v = get_or mids n d in
      let m = mid_at n d l in
      subst (λ (s : Site). HasLog config rows h.way.run.logs until s (log_at longer n)) same
      (has_log config rows h.way.run.logs n v m.site m.mail (reaches_rise config rows w.worked_to h.way.run.logs h.way.valid h.way.trace.order h.way.run.run n) (log_at longer n) until whole
      (log_then v (log_at longer n) m.stands until (mid_bound n d l) m.worked_to m.rests))

  starts : IsRunTo config rows start.0 h.way.run.logs
  starts = run_start config rows windows told w h start first

  pub run_on : IsRunTo config rows until longer
  run_on = run_goes_on config rows start.0 until h.way.run.logs longer ordered starts has long_count short whole

  before : (n : ℕ) → cut entry_time start.0 (log_at longer n) ≡ log_at h.way.run.logs n
  before = same_before config rows start.0 until h.way.run.logs longer ordered starts has long_count

  further : (n : ℕ) (d : NodeState) → n < length mids → (rest : List Entry) × IsFurther h.way.run.logs longer start.0 n rest
  further n d l =
      let (rest, e, late) = split_at entry_time entry_rank start.0 (log_at longer n) (mid_at n d l).stands.whole.in_order in
      (rest, record { log = e ∙ ap (λ (es : List Entry). es ++ rest) (before n); late = late })

  -- ## what they tell

  kept_at : (n : ℕ) (d : NodeState) → n < length mids → Keeps (get_or w.nodes n d) (get_or mids n d)
  kept_at n d l = AllZip-get_or Keeps w.nodes mids n d d kept (omega (arith, l, mid_count))

  told_at : (n : ℕ) (d : NodeState) → n < length mids → (get_or mids n d).gone.told ≡ length (events (get_or mids n d).site (log_at h.way.run.logs n))
  told_at n d l =
      let k : n < length w.nodes = omega (arith, l, mid_count) in
      let keeps = kept_at n d l in
      ap (λ (g : Gone). g.told) keeps.gone
      ∙ ((h.kept.news n d k).told
      ∙ (ap length (h.kept.nodes n d k).stands.events ∙ ap (λ (s : Site). length (events s (log_at h.way.run.logs n))) (sym keeps.site)))

  events_both : (n : ℕ) (d : NodeState) (l : n < length mids) (rest : List Entry) → IsFurther h.way.run.logs longer start.0 n rest
      → (get_or mids n d).events ≡ events (get_or mids n d).site (log_at h.way.run.logs n) ++ events (get_or mids n d).site rest
  events_both n d l rest f =
      let site = (get_or mids n d).site in
      (mid_at n d l).stands.events ∙ (ap (events site) f.log ∙ map-append (event_of site) (log_at h.way.run.logs n) rest)

  told_there : (n : ℕ) (d : NodeState) (l : n < length mids) (rest : List Entry) → IsFurther h.way.run.logs longer start.0 n rest → of_place news mids n ≡ events (get_or mids n d).site rest
  told_there n d l rest f =
      let site = (get_or mids n d).site in
      of_place_is news mids n d l
      ∙ (ap (drop (get_or mids n d).gone.told) (events_both n d l rest f)
      ∙ drop_at (events site (log_at h.way.run.logs n)) (events site rest) (get_or mids n d).gone.told (sym (told_at n d l)))

  told_past : (n : ℕ) → length mids ≤ n → of_place news mids n ≡ []
  told_past n l = ap (λ (o : Option NodeState). option_map_or news o []) (slice_get_past mids n l)

  no_site : (n : ℕ) → length mids ≤ n → site_at config n ≡ None
  no_site n l = ap (option_map (λ (p : NodePlan). site_of n p (links_out n config.links))) (slice_get_past config.nodes n (omega (arith, l, config_count)))

  before_is : (n : ℕ) → log_at (logs_before start.0 longer) n ≡ log_at h.way.run.logs n
  before_is n = log_at-before start.0 longer n ∙ before n

  events_before : (n : ℕ) → events_at config h.way.run.logs n ≡ events_at config (logs_before start.0 longer) n
  events_before n = ap (λ (log : List Entry). option_map_or (λ site. events site log) (site_at config n) []) (sym (before_is n))

  events_more : (n : ℕ) → events_at config longer n ≡ events_at config (logs_before start.0 longer) n ++ of_place news mids n
  events_more n =
      elim (slice_get_cases mids n).1 [
        | inl in' ↦
            let d = in'.0 in
            let l = in'.1 in
            let site = (get_or mids n d).site in
            let there = (mid_at n d l).site in
            let (rest, f) = further n d l in
            events_there config longer n site there
            ∙ (ap (events site) f.log
            ∙ (map-append (event_of site) (log_at h.way.run.logs n) rest
            ∙ ap₂ (λ (xs ys : List Event). xs ++ ys)
            (sym (events_there config h.way.run.logs n site there) ∙ events_before n) (sym (told_there n d l rest f))))
        | inr past ↦
            let l = past.0 in
            let none = no_site n l in
            let lost : events_at config longer n ≡ [] = ap (λ (o : Option Site). option_map_or (λ s. events s (log_at longer n)) o []) none in
            let lost' : events_at config (logs_before start.0 longer) n ≡ [] = ap (λ (o : Option Site). option_map_or (λ s. events s (log_at (logs_before start.0 longer) n)) o []) none in
            lost ∙ sym (ap₂ (λ (xs ys : List Event). xs ++ ys) lost' (told_past n l))
      ]

  told_before : AreEvents config (logs_before start.0 longer) told
  told_before = record { in_order = h.way.run.events.in_order; each = λ n. h.way.run.events.each n ∙ events_before n }

  pub events_on : (list : List Event) → IsJoin event_time event_node (of_place news mids) list → AreEvents config longer (told ++ list)
  events_on list join = events_added config start.0 longer told list (of_place news mids) told_before events_more join

  -- what they tell comes from the window's start on
  pub told_late : (n : ℕ) → AllByRecursion (λ e. start.0 ≤ event_time e) (of_place news mids n)
  told_late n =
      elim (slice_get_cases mids n).1 [
        | inl in' ↦
            let d = in'.0 in
            let l = in'.1 in
            let site = (get_or mids n d).site in
            let (rest, f) = further n d l in
            subst (λ (es : List Event). AllByRecursion (λ e. start.0 ≤ event_time e) es) (sym (told_there n d l rest f))
            (each-map (event_of site) (λ e. start.0 ≤ event_time e) rest f.late)
        | inr past ↦ subst (λ (es : List Event). AllByRecursion (λ e. start.0 ≤ event_time e) es) (sym (told_past n past.0)) tt
      ]

  -- ## what they sent

  sent_at : (n : ℕ) (d : NodeState) → n < length mids → (get_or mids n d).gone.sent ≡ length (sendings (get_or mids n d).site (log_at h.way.run.logs n))
  sent_at n d l =
      let k : n < length w.nodes = omega (arith, l, mid_count) in
      let keeps = kept_at n d l in
      ap (λ (g : Gone). g.sent) keeps.gone
      ∙ ((h.kept.news n d k).sent
      ∙ (ap length (h.kept.nodes n d k).stands.sendings ∙ ap (λ (s : Site). length (sendings s (log_at h.way.run.logs n))) (sym keeps.site)))

  sendings_both : (n : ℕ) (d : NodeState) (l : n < length mids) (rest : List Entry) → IsFurther h.way.run.logs longer start.0 n rest
      → (get_or mids n d).sendings ≡ sendings (get_or mids n d).site (log_at h.way.run.logs n) ++ sendings (get_or mids n d).site rest
  sendings_both n d l rest f =
      let site = (get_or mids n d).site in
      (mid_at n d l).stands.sendings ∙ (ap (sendings site) f.log ∙ filter_map-append (sending_of site) (log_at h.way.run.logs n) rest)

  sent_there : (n : ℕ) (d : NodeState) (l : n < length mids) (rest : List Entry) → IsFurther h.way.run.logs longer start.0 n rest
      → unsent (get_or mids n d) ≡ sendings (get_or mids n d).site rest
  sent_there n d l rest f =
      let site = (get_or mids n d).site in
      ap (drop (get_or mids n d).gone.sent) (sendings_both n d l rest f)
      ∙ drop_at (sendings site (log_at h.way.run.logs n)) (sendings site rest) (get_or mids n d).gone.sent (sym (sent_at n d l))

  linked : (n : ℕ) (d : NodeState) (l : n < length mids) → AllByRecursion (HasLink (get_or mids n d).site) (log_at longer n)
  linked n d l =
      let v = get_or mids n d in
      let m = mid_at n d l in
      goes_linked v.site [] (due v.worked_to (in_turn v.inbox)) (log_at longer n) m.stands.whole.steps

  going : (n : ℕ) (d : NodeState) (l : n < length mids) (rest : List Entry) → IsFurther h.way.run.logs longer start.0 n rest → AllByRecursion (IsGoing config until) (sendings (get_or mids n d).site rest)
  going n d l rest f =
      let site = (get_or mids n d).site in
      let there = (mid_at n d l).site in
      let links : AllByRecursion (HasLink site) (log_at h.way.run.logs n ++ rest) = subst (λ (es : List Entry). AllByRecursion (HasLink site) es) f.log (linked n d l) in
      each-weaker (IsSentFrom site start.0) (IsGoing config until)
      (λ s g.
      let o = g.0 in
      let at = out_is config n s.link site o there g.1 in
      let least = least_delay-least (config.horizon.0 + 1) config.links s.link o.1 at.0 in
      let lag = g.2 in
      record { link = o.1; here = at.0; late = omega (arith, least, lag, short) })
      (sendings site rest)
      (sent_from site start.0 rest (each-right (HasLink site) (log_at h.way.run.logs n) rest links) f.late)

  abbrev pub sent : List Sending
  sent = flat_map unsent mids

  all_going : AllByRecursion (IsGoing config until) sent
  all_going = each_since (IsGoing config until) mids (λ n d l.
      let (rest, f) = further n d l in
      subst (λ (ss : List Sending). AllByRecursion (IsGoing config until) ss) (sym (sent_there n d l rest f)) (going n d l rest f))

  can_post : (s : Sending) → IsGoing config until s → IsPostable config.horizon.0 config.links mids s
  can_post s g =
      let link = g.link in
      let plan : IsLinkPlan (length config.nodes) link = all_here (IsLinkPlan (length config.nodes)) config.links s.link link h.way.valid.links g.here in
      let to : link.to < length mids = omega (arith, plan.to, config_count) in
      record {
        link = slice_get_within config.links s.link link g.here;
        arrives = λ d in_time. subst (λ (l : LinkPlan). CanDeliver mids l.to (arrival s)) (sym (get_or_from_slice_get config.links s.link link d g.here)) (record {
          node = to;
          takes = λ e.
              let m = mid_at link.to e to in
              record { late = omega (arith, m.worked_to, g.late); within = omega (arith, m.horizon, in_time); fits = tt };
        });
      }

  pub postable : All (IsPostable w.horizon w.links mids) sent
  postable =
      let there : AllByRecursion (IsPostable config.horizon.0 config.links mids) sent = each-weaker (IsGoing config until) (IsPostable config.horizon.0 config.links mids) can_post sent all_going in
      rw (h.kept.horizon, h.kept.links) (All-from_recursion (IsPostable config.horizon.0 config.links mids) sent there)

  pub mids_stand : All Stands mids
  mids_stand n d l = (log_at longer n, (mid_at n d l).stands)

  pub mids_numbered : (n : ℕ) (d : NodeState) → n < length mids → (get_or mids n d).site.number ≡ n
  mids_numbered n d l = site_number config n (get_or mids n d).site (mid_at n d l).site

  -- ## what reaches the nodes

  abbrev mail : ℕ → List Input
  mail n = mail_to config.horizon.0 config.links sent n

  mail_late : (n : ℕ) → AllByRecursion (λ i. until ≤ input_time i) (mail n)
  mail_late n =
      each-map arrival (λ i. until ≤ input_time i) (filter (goes_to config.horizon.0 config.links n) sent)
      (each-filter (λ (s : Sending). until ≤ s.arrive.0) (goes_to config.horizon.0 config.links n) sent
      (each-weaker (IsGoing config until) (λ s. until ≤ s.arrive.0) (λ s g. g.late) sent all_going))

  sends_alone : (k : ℕ) (link : LinkPlan) → slice_get config.links k ≡ Some link → (i : ℕ) (e : NodeState) → i < length mids → (i ≡ link.from → ⊥) → filter (λ (s : Sending). s.link == k) (get_or mids i e).sendings ≡ []
  sends_alone k link here i e l apart =
      let v = get_or mids i e in
      let m = mid_at i e l in
      ap (filter (λ (s : Sending). s.link == k)) m.stands.sendings
      ∙ sends_none v.site 0 k (sendings v.site (log_at longer i))
      (λ o f.
      let at = out_is config i k v.site o m.site f in
      let same : o.1 ≡ link = same_Some o.1 link (sym at.0 ∙ here) in
      apart (sym (ap (λ (x : LinkPlan). x.from) (sym same) ∙ at.1)))
      (sent_from v.site 0 (log_at longer i) (linked i e l) (each_at_least entry_time entry_rank (log_at longer i)))

  -- what is sent on a link arrives
  on_link : (n k : ℕ) (link : LinkPlan) → slice_get config.links k ≡ Some link → (link.to == n) ≡ true
      → due (config.horizon.0 + 1) (arrivals k link (log_at h.way.run.logs link.from)) ++ from_source input_source (suc k) (mail n) ≡ due (config.horizon.0 + 1) (arrivals k link (log_at longer link.from))
  on_link n k link here there =
      let m = link.from in
      let plan : IsLinkPlan (length config.nodes) link = all_here (IsLinkPlan (length config.nodes)) config.links k link h.way.valid.links here in
      let l : m < length mids = omega (arith, plan.from, config_count) in
      elim (slice_get_cases mids m).1 [
        | inl in' ↦
            let d = in'.0 in
            let v = get_or mids m d in
            let (rest, f) = further m d l in
            let out : link_out v.site k ≡ Some (k, link) = link_out_is config k link v.site here (mid_at m d l).site in
            let end : option_map_or (λ (x : LinkPlan). x.to == n) (slice_get config.links k) false ≡ true = ap (λ (o : Option LinkPlan). option_map_or (λ (x : LinkPlan). x.to == n) o false) here ∙ there in
            let from_here : filter (λ (s : Sending). s.link == k) sent ≡ filter (λ (s : Sending). s.link == k) (sendings v.site rest) =
            since_one (λ s. s.link == k) mids m d l (sends_alone k link here) ∙ ap (filter (λ (s : Sending). s.link == k)) (sent_there m d l rest f) in
            let arrived : from_source input_source (suc k) (mail n) ≡ due (config.horizon.0 + 1) (arrivals k link rest) =
            mail_on config.horizon.0 config.links n k end sent
            ∙ ap (due (config.horizon.0 + 1)) (ap (map arrival) from_here ∙ sym (sent_arrives k link v.site out rest)) in
            ap (λ (is : List Input). due (config.horizon.0 + 1) (arrivals k link (log_at h.way.run.logs m)) ++ is) arrived
            ∙ sym (ap (λ (es : List Entry). due (config.horizon.0 + 1) (arrivals k link es)) f.log
            ∙ (ap (due (config.horizon.0 + 1)) (filter_map-append (arrival_of k link) (log_at h.way.run.logs m) rest)
            ∙ filter-append (λ i. nat_lt (input_time i) (config.horizon.0 + 1)) (arrivals k link (log_at h.way.run.logs m)) (arrivals k link rest)))
        | inr past ↦ absurd (omega (arith, past.0, l))
      ]

  by_end : (n k : ℕ) (link : LinkPlan) (b : Bool) → slice_get config.links k ≡ Some link → (link.to == n) ≡ b
      → due (config.horizon.0 + 1) (cond b (arrivals k link (log_at h.way.run.logs link.from)) []) ++ from_source input_source (suc k) (mail n) ≡ due (config.horizon.0 + 1) (cond b (arrivals k link (log_at longer link.from)) [])
  by_end n k link false here there = mail_none config.horizon.0 config.links n k (ap (λ (o : Option LinkPlan). option_map_or (λ (x : LinkPlan). x.to == n) o false) here ∙ there) sent
  by_end n k link true here there = on_link n k link here there

  by_link : (n k : ℕ) (o : Option LinkPlan) → slice_get config.links k ≡ o
      → due (config.horizon.0 + 1) (option_map_or (arrivals_at h.way.run.logs n k) o []) ++ from_source input_source (suc k) (mail n) ≡ due (config.horizon.0 + 1) (option_map_or (arrivals_at longer n k) o [])
  by_link n k None here = mail_none config.horizon.0 config.links n k (ap (λ (o : Option LinkPlan). option_map_or (λ (x : LinkPlan). x.to == n) o false) here) sent
  by_link n k (Some link) here = by_end n k link (link.to == n) here refl

  reached : (n source : ℕ) → due (config.horizon.0 + 1) (reaches config rows h.way.run.logs n source) ++ from_source input_source source (mail n) ≡ due (config.horizon.0 + 1) (reaches config rows longer n source)
  reached n zero =
      ap (λ (is : List Input). due (config.horizon.0 + 1) (rows_at rows n) ++ is) (arrive_no_rows (filter (goes_to config.horizon.0 config.links n) sent))
      ∙ append-nil (due (config.horizon.0 + 1) (rows_at rows n))
  reached n (suc k) = by_link n k (slice_get config.links k) refl

  -- ## the window that follows

  abbrev pub window : Window
  window = (start.0, until)

  windows_on : EachBeginsWith config rows (windows ++ window ∷ []) until
  windows_on far logs l run =
      let near : w.worked_to ≤ far = omega (arith, later, ordered, l) in
      let next = window_next config rows w.worked_to start.0 far h.way.run.logs logs h.way.valid h.way.run.run run later (omega (arith, ordered, l)) (rest_start config rows windows told w h start first) within (short_logs config rows windows told w h) (work_starts config rows windows told w h start first) in
      first_push config rows logs 0 windows w.worked_to window (h.way.run.begins far logs near run)
      (subst (λ (t : ℕ). let x : Window = (start.0, t) in IsNextWindow config rows logs w.worked_to x) (sym ends_is) next)

  list_late : (list : List Event) → IsJoin event_time event_node (of_place news mids) list → AllByRecursion (λ e. start.0 ≤ event_time e) list
  list_late list join =
      each_from_sources event_time event_node (λ e. start.0 ≤ event_time e) list
      (λ n. subst (λ (es : List Event). AllByRecursion (λ e. start.0 ≤ event_time e) es) (sym (join.each n)) (told_late n))

  list_early : (list : List Event) → IsJoin event_time event_node (of_place news mids) list → AllByRecursion (λ e. event_time e < until) list
  list_early list join =
      each-right (λ e. event_time e < until) told list
      (each-weaker (λ e. HappensAt config rows longer until (event_time e)) (λ e. event_time e < until) (λ e k. k.1) (told ++ list)
      (events_work config rows until longer (told ++ list) run_on (events_on list join)))

  told_early : AllByRecursion (λ e. event_time e < w.worked_to) told
  told_early = each-weaker (λ e. HappensAt config rows h.way.run.logs w.worked_to (event_time e)) (λ e. event_time e < w.worked_to) (λ e k. k.1) told
      (events_work config rows w.worked_to h.way.run.logs told h.way.run.run h.way.run.events)

  pub given_on : (list : List Event) → IsJoin event_time event_node (of_place news mids) list → given (told ++ list) (windows ++ window ∷ []) ≡ given told windows ++ if_some list
  given_on list join =
      given_more w.worked_to start.0 until told list later told_early (list_late list join) (list_early list join) windows
      (first_ends config rows h.way.run.logs 0 windows w.worked_to (h.way.run.begins w.worked_to h.way.run.logs (omega arith) h.way.run.run)).0

  module _ (new : List NodeState) (posting : GotMails (mail_to w.horizon w.links sent) mids new) where
    got : GotMails mail mids new
    got =
        subst (λ (t : ℕ). GotMails (λ n. mail_to t config.links sent n) mids new) h.kept.horizon
        (subst (λ (ls : List LinkPlan). GotMails (λ n. mail_to w.horizon ls sent n) mids new) h.kept.links posting)

    new_at : (n : ℕ) (d : NodeState) → n < length new → IsNodeAt config rows longer until n (get_or new n d)
    new_at n d l =
        let k : n < length mids = omega (arith, l, got.count) in
        let v = get_or mids n d in
        let u = get_or new n d in
        let m = mid_at n d k in
        let g : GotMail (mail n) v u = got.each n d k in
        let q = g.keeps in
        let (other, s) = g.stands (log_at longer n, m.stands) in
        let inputs : (t : ℕ) → t ≤ until → due t (in_turn u.inbox) ≡ due t (in_turn v.inbox) = λ t e.
        ap (λ (is : List Input). due t (in_turn is)) g.inbox
        ∙ (ap (due t) (put_all-append input_time input_source v.inbox (mail n) [])
        ∙ cut-put_all input_time input_source t (mail n) (in_turn v.inbox)
        (each-weaker (λ i. until ≤ input_time i) (λ i. t ≤ input_time i) (λ i k. omega (arith, k, e)) (mail n) (mail_late n))) in
        let new_log : IsNodeLog v.site (in_turn u.inbox) v.worked_to other =
        subst (λ (t : ℕ). IsNodeLog v.site (in_turn u.inbox) t other) q.worked_to (subst (λ (x : Site). IsNodeLog x (in_turn u.inbox) u.worked_to other) q.site s.whole) in
        let same : other ≡ log_at longer n = IsNodeLog-unique v.site v.worked_to (in_turn u.inbox) (in_turn v.inbox) other (log_at longer n) (inputs v.worked_to m.worked_to) new_log m.stands.whole in
        record {
          site = m.site ∙ ap Some (sym q.site);
          horizon = q.horizon ∙ m.horizon;
          worked_to = subst (λ (t : ℕ). t ≤ until) (sym q.worked_to) m.worked_to;
          stands = subst (StandsFor u) same s;
          rests = λ t k x.
              let y : IsWorkAt v.site (in_turn u.inbox) (log_at longer n) v.worked_to t =
              subst (λ (from : ℕ). IsWorkAt v.site (in_turn u.inbox) (log_at longer n) from t) q.worked_to (subst (λ (z : Site). IsWorkAt z (in_turn u.inbox) (log_at longer n) u.worked_to t) q.site x) in
              m.rests t k (y.0, elim y.1 [ inl c ↦ inl (comes_early until t (in_turn u.inbox) (in_turn v.inbox) (inputs until (omega arith)) k c) | inr e ↦ inr e ]);
          mail = λ source.
              ap (from_source input_source source) g.inbox
              ∙ (filter-append (λ i. input_source i == source) v.inbox (mail n)
              ∙ (ap (λ (is : List Input). is ++ from_source input_source source (mail n)) (m.mail source) ∙ reached n source));
        }

    -- the work stands for the run up to the window's end
    pub works_on : (list : List Event) → IsJoin event_time event_node (of_place news mids) list → All HasNoNews new
        → WorksFor config rows (windows ++ window ∷ []) (told ++ list) (record { horizon = w.horizon; links = w.links; span = w.span; nodes = new; worked_to = until })
    works_on list join quiet = record {
      way = record {
        valid = h.way.valid;
        trace = h.way.trace;
        sites = λ n d l. (new_at n d l).site;
        run = record {
          logs = longer;
          run = run_on;
          tell = tell_of config rows longer until new (got.count ∙ config_count) new_at;
          events = events_on list join;
          begins = windows_on;
        };
        held = held_more told list (given told windows) (given (told ++ list) (windows ++ window ∷ [])) h.way.held (given_on list join);
      };
      kept = record {
        horizon = h.kept.horizon;
        links = h.kept.links;
        span = h.kept.span;
        count = got.count ∙ config_count;
        nodes = new_at;
        news = quiet;
      };
    }
