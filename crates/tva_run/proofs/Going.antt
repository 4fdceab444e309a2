-- How a run goes on: over a window, and where nothing is to be done.
use Rattle.tva_run.proofs.Common.{nat_tests, ◌≡◌, ℕ, zero, suc, ◌+◌, ◌<◌, ◌≤◌, List, [], ◌∷◌, ◌++◌, length, Some, refl, sym, ◌∙◌, ap, ap₂, arith, inl, inr, nat_lt, ◌==◌, slice_get, option_map, AllByRecursion, cases_lt, get_or_past, append_cancel_left, append-nil, filter-append, slice_get_cases, Event, LinkPlan, Config, NodePlan, Row, IsJoin, cut, Site, site_of, entry_time, IsNodeLog, due, Logs, log_at, links_out, site_at, reaches, HasLog, IsRunTo, logs_before, event_time, event_node, events_at, AreEvents, least_delay, window_length, IsAtRest}
use Rattle.tva_run.proofs.Joins.{filter-true, filter-false, in_order-append, cut-cut, each-cut}
use Rattle.tva_run.proofs.Putting.{each_from_sources}
use Rattle.tva_run.proofs.Logs.{IsNodeLog-cut, IsNodeLog-same, IsNodeLog-unique}
use Rattle.tva_run.proofs.Quiet.{quiet_log}
use Rattle.tva_run.proofs.Runs.{inputs_same, reaches_same}
use Rattle.tva_run.proofs.Reports.{events_at-before}

-- ## over a window

least_rest : (none : ℕ) (link other : LinkPlan) (links : List LinkPlan) → least_delay none (link ∷ other ∷ links) ≤ least_delay none (other ∷ links)
least_rest none link other links = omega arith

pub least_delay-least : (none : ℕ) (links : List LinkPlan) (number : ℕ) (link : LinkPlan) → slice_get links number ≡ Some link → least_delay none links ≤ link.delay
least_delay-least none [] number link h = absurd (cc)
least_delay-least none (first ∷ links) zero link h = grind (arith, nat_tests)
least_delay-least none (first ∷ []) (suc number) link h = absurd (cc)
least_delay-least none (first ∷ other ∷ links) (suc number) link h = grind (arith, nat_tests, least_rest, (least_delay-least none (other ∷ links) number link h))

-- the link in one place has the least delay
record HasLeast (none : ℕ) (links : List LinkPlan) (delay : ℕ) : Type 0 where
  number : ℕ
  link : LinkPlan
  there : slice_get links number ≡ Some link
  least : delay ≡ link.delay

least_on : (none : ℕ) (link other : LinkPlan) (links : List LinkPlan) → HasLeast none (other ∷ links) (least_delay none (other ∷ links)) → HasLeast none (link ∷ other ∷ links) (least_delay none (link ∷ other ∷ links))
least_on none link other links h = elim (cases_lt (least_delay none (other ∷ links)) link.delay) [
  | inl l ↦ record { number = suc h.number; link = h.link; there = h.there; least = omega (arith, h.least) }
  | inr l ↦ record { number = 0; link = link; there = refl; least = omega arith }
]

least_there : (none : ℕ) (link : LinkPlan) (links : List LinkPlan) → HasLeast none (link ∷ links) (least_delay none (link ∷ links))
least_there none link [] = record { number = 0; link = link; there = refl; least = refl }
least_there none link (other ∷ links) = least_on none link other links (least_there none other links)

pub least_is : (none : ℕ) (links : List LinkPlan) → (links ≡ [] → ⊥) → (number : ℕ) × (link : LinkPlan) × (slice_get links number ≡ Some link) × (least_delay none links ≡ link.delay)
least_is none [] some = absurd (some refl)
least_is none (link ∷ links) some = let h = least_there none link links in (h.number, h.link, h.there, h.least)

pub least_of_none : (none : ℕ) (links : List LinkPlan) → links ≡ [] → least_delay none links ≡ none
least_of_none none links e = ap (least_delay none) e

module _ (config : Config) (rows : List Row) (from until : ℕ) (logs longer : Logs) (later : from ≤ until) (run : IsRunTo config rows from logs) (has : (node : ℕ) (site : Site) → site_at config node ≡ Some site → HasLog config rows logs until site (log_at longer node)) where
  same_there : (node : ℕ) (plan : NodePlan) → slice_get config.nodes node ≡ Some plan → cut entry_time from (log_at longer node) ≡ log_at logs node
  same_there node plan here =
      let site : Site = site_of node plan (links_out node config.links) in
      let there : site_at config node ≡ Some site = ap (option_map (λ (p : NodePlan). site_of node p (links_out node config.links))) here in
      let h = has node site there in
      let r = run.each node site there in
      let same = inputs_same config rows from until from logs logs node h.inputs r.inputs later (omega arith) h.join r.join (λ s. refl) in
      IsNodeLog-unique site from h.inputs r.inputs (cut entry_time from (log_at longer node)) (log_at logs node) same
      (IsNodeLog-cut site h.inputs from until (log_at longer node) h.join.in_order later h.is_log) r.is_log

  -- the longer logs go on from the run's
  pub same_before : length longer ≡ length config.nodes → (node : ℕ) → cut entry_time from (log_at longer node) ≡ log_at logs node
  same_before count node =
      elim (slice_get_cases config.nodes node).1 [
        | inl in' ↦ same_there node in'.0 in'.2
        | inr past ↦
            let c = run.count in
            let p = past.0 in
            let none : log_at logs node ≡ [] = get_or_past logs node [] (omega arith) in
            let none' : log_at longer node ≡ [] = get_or_past longer node [] (omega arith) in
            rw (none, none') refl
      ]

  reached_before : length longer ≡ length config.nodes → until ≤ from + window_length config → (node source : ℕ) → due until (reaches config rows logs node source) ≡ due until (reaches config rows longer node source)
  reached_before count short node source =
      reaches_same config rows from until node
      (λ number link at. let d = least_delay-least (config.horizon.0 + 1) config.links number link at in omega arith)
      logs longer
      (λ m.
      ap (cut entry_time from) (sym (same_before count m))
      ∙ cut-cut entry_time (λ e. 0) from from (log_at longer m) (omega arith)) source

  pub run_goes_on : length longer ≡ length config.nodes → until ≤ from + window_length config → until ≤ config.horizon.0 + 1 → IsRunTo config rows until longer
  run_goes_on count short within = record {
    within = within;
    count = count;
    each = λ node site there.
        let h = has node site there in
        record {
          inputs = h.inputs;
          join = record { in_order = h.join.in_order; each = λ s. h.join.each s ∙ reached_before count short site.number s };
          is_log = h.is_log;
        };
  }

-- ## where nothing is to be done

-- a node's log of the run is its log over the inputs that it has at rest
pub at_rest : (config : Config) (rows : List Row) (from until : ℕ) (logs : Logs) → from ≤ until → IsRunTo config rows from logs → (node : ℕ) (site : Site) (there : site_at config node ≡ Some site)
    → (q : IsAtRest config rows logs from until site (log_at logs node)) → IsNodeLog site q.inputs from (log_at logs node)
at_rest config rows from until logs later run node site there q =
    let r = run.each node site there in
    let same = inputs_same config rows from from until logs logs site.number r.inputs q.inputs (omega arith) later r.join q.join (λ s. refl) in
    IsNodeLog-same site r.inputs q.inputs from (log_at logs node) same r.is_log

pub run_rests : (config : Config) (rows : List Row) (from until : ℕ) (logs : Logs) → from ≤ until → until ≤ config.horizon.0 + 1 → IsRunTo config rows from logs
    → ((node : ℕ) (site : Site) → site_at config node ≡ Some site → IsAtRest config rows logs from until site (log_at logs node)) → IsRunTo config rows until logs
run_rests config rows from until logs later within run rest = record {
  within = within;
  count = run.count;
  each = λ node site there.
      let q = rest node site there in
      record {
        inputs = q.inputs;
        join = q.join;
        is_log = quiet_log site q.inputs from until (log_at logs node) later q.quiet (at_rest config rows from until logs later run node site there q);
      };
}

-- ## the events that are added

late_each : {X : Type 0} (time : X → ℕ) (t : ℕ) (xs : List X) → cut time t xs ≡ [] → AllByRecursion (λ x. t ≤ time x) xs
late_each time t [] h = tt
late_each time t (x ∷ xs) h = grind (arith, nat_tests, filter-true, filter-false, (late_each time t xs))

module _ (config : Config) (from : ℕ) (logs : Logs) (first news : List Event) (new : ℕ → List Event) (old : AreEvents config (logs_before from logs) first) (more : (node : ℕ) → events_at config logs node ≡ events_at config (logs_before from logs) node ++ new node) (join : IsJoin event_time event_node new news) where
  new_late : (node : ℕ) → AllByRecursion (λ e. from ≤ event_time e) (new node)
  new_late node =
      let before = events_at config (logs_before from logs) node in
      let is : before ≡ cut event_time from (events_at config logs node) = events_at-before config from logs node in
      let again : cut event_time from before ≡ before = ap (cut event_time from) is ∙ (cut-cut event_time event_node from from (events_at config logs node) (omega arith) ∙ sym is) in
      let whole : before ++ cut event_time from (new node) ≡ before ++ [] =
      ap (λ (es : List Event). es ++ cut event_time from (new node)) (sym again)
      ∙ (sym (filter-append (λ (e : Event). nat_lt (event_time e) from) before (new node))
      ∙ (ap (cut event_time from) (sym (more node)) ∙ (sym is ∙ sym (append-nil before)))) in
      late_each event_time from (new node) (append_cancel_left before (cut event_time from (new node)) [] whole)

  pub events_added : AreEvents config logs (first ++ news)
  events_added = record {
    in_order = in_order-append event_time event_node from first news old.in_order join.in_order
        (each_from_sources event_time event_node (λ e. event_time e < from) first (λ node.
        rw (old.each node ∙ events_at-before config from logs node) (each-cut event_time event_node from (events_at config logs node))))
        (each_from_sources event_time event_node (λ e. from ≤ event_time e) news (λ node. rw (join.each node) (new_late node)));
    each = λ node.
        filter-append (λ (e : Event). event_node e == node) first news
        ∙ (ap₂ (λ (xs ys : List Event). xs ++ ys) (old.each node) (join.each node) ∙ sym (more node));
  }
