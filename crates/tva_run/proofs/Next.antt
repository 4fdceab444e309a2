-- The next window of a run starts where, over the run so far, there is something to do next.
use Rattle.tva_run.proofs.Common.{nat_tests, ◌≡◌, ℕ, zero, suc, ◌+◌, ◌<◌, ◌≤◌, List, [], ◌∷◌, map, filter, Bool, true, Option, Some, None, All, refl, sym, subst, ◌∙◌, ap, arith, inl, inr, ◌⊎◌, nat_lt, ◌==◌, Contains, min, option_map, option_and_then, find, lt-ltb, cases_Bool, cases_lt, All-head, All-tail, LinkLimits, LinkPlan, AreLinkLimits, Config, IsConfig, Row, cut, Input, Site, limits_out, IsLinkOut, IsSite, Entry, input_time, input_source, entry_time, entry_rank, port_logs, IsNodeLog, due, next_decision, next_on, IsQuiet, AreShort, Logs, log_at, site_at, reaches, IsRunTo, logs_before, IsWork, IsNextWindow, IsAtRest, HasWork, window_length}
use Rattle.tva_run.proofs.Joins.{filter-true, filter-false, cut-cut, in_order-filter}
use Rattle.tva_run.proofs.Legal.{AreLegal, node_log_legal}
use Rattle.tva_run.proofs.Ports.{next_again}
use Rattle.tva_run.proofs.Quiet.{late_on, quiet_decides_none}
use Rattle.tva_run.proofs.Runs.{are_delayed, reaches_same, source_due, log_at-before, one_run_is, IsRunTo-cut}
use Rattle.tva_run.proofs.Going.{at_rest, run_rests}
use Rattle.tva_run.proofs.Sites.{site_is}

-- ## times of inputs

pub contains_more : (x t : ℕ) (xs : List ℕ) → Contains xs t → Contains (x ∷ xs) t
contains_more x t xs (i, l, e) = (suc i, omega arith, e)

pub contains_first : (x t : ℕ) (xs : List ℕ) → x ≡ t → Contains (x ∷ xs) t
contains_first x t xs e = (0, omega arith, e)

pub contains_cases : (x t : ℕ) (xs : List ℕ) → Contains (x ∷ xs) t → (x ≡ t) ⊎ Contains xs t
contains_cases x t xs (zero, l, e) = inl e
contains_cases x t xs (suc i, l, e) = inr (i, omega arith, e)

module _ {X : Type 0} (time : X → ℕ) (p : X → Bool) (t : ℕ) where
  pub contains_filter : (xs : List X) → Contains (map time (filter p xs)) t → Contains (map time xs) t
  contains_filter [] h = h
  contains_filter (x ∷ xs) h = grind (arith, nat_tests, filter-true, contains_cases, contains_first, contains_more, filter-false, (contains_filter xs))

  pub contains_passes : ((x : X) → time x ≡ t → p x ≡ true) → (xs : List X) → Contains (map time xs) t → Contains (map time (filter p xs)) t
  contains_passes w [] h = h
  contains_passes w (x ∷ xs) h =
      elim (cases_Bool (p x)) [
        | inl a ↦
            rw (filter-true p x xs a)
            (elim (contains_cases (time x) t (map time xs) h) [
              | inl e ↦ contains_first (time x) t (map time (filter p xs)) e
              | inr m ↦ contains_more (time x) t (map time (filter p xs)) (contains_passes w xs m)
            ])
        | inr a ↦
            rw (filter-false p x xs a)
            (elim (contains_cases (time x) t (map time xs) h) [
              | inl e ↦ let k = w x e in absurd (cc)
              | inr m ↦ contains_passes w xs m
            ])
      ]

-- inputs that agree up to a time come alike at it
contains_due : (t : ℕ) (xs ys : List Input) → due (suc t) xs ≡ due (suc t) ys → Contains (map input_time xs) t → Contains (map input_time ys) t
contains_due t xs ys e h =
    let k = contains_passes input_time (λ i. nat_lt (input_time i) (suc t)) t (λ i same. lt-ltb (input_time i) (suc t) (omega arith)) xs h in
    contains_filter input_time (λ i. nat_lt (input_time i) (suc t)) t ys (subst (λ (zs : List Input). Contains (map input_time zs) t) e k)

-- ## decisions

find_holds : {X : Type 0} (P : X → Type 0) (p : X → Bool) (xs : List X) (x : X) → All P xs → find p xs ≡ Some x → P x
find_holds P p [] x h e = absurd (cc)
find_holds P p (y ∷ ys) x h e = grind (arith, nat_tests, All-head, All-tail, (find_holds P p ys x (All-tail P y ys h)))

limits_by : (site : Site) (found : Option (ℕ × LinkPlan)) (link : ℕ) (x : ℕ × LinkLimits) → IsSite site → find (λ o. o.0 == link) site.links ≡ found
    → option_map (λ o. (o.0, o.1.limits)) found ≡ Some x → AreLinkLimits x.1
limits_by site None link x valid f e = absurd (cc)
limits_by site (Some o) link x valid f e =
    let h = find_holds (IsLinkOut site.number) (λ o. o.0 == link) site.links o valid.links f in
    let pair : ℕ × LinkLimits = (o.0, o.1.limits) in
    let same : pair ≡ x = cc in
    subst (λ (y : ℕ × LinkLimits). AreLinkLimits y.1) same h.limits

pub limits_valid : (site : Site) (link : ℕ) (x : ℕ × LinkLimits) → IsSite site → limits_out site link ≡ Some x → AreLinkLimits x.1
limits_valid site link x valid e = limits_by site (find (λ o. o.0 == link) site.links) link x valid refl e

module _ (site : Site) (inputs : List Input) (log : List Entry) (from until : ℕ) (valid : IsSite site) (legal : AreLegal site from log) (quiet : IsQuiet site inputs log from until) where
  again_by : (t link : ℕ) (o : Option (ℕ × LinkLimits)) → o ≡ limits_out site link → from ≤ t → t ≤ until
      → ((u : ℕ) → option_and_then (λ x. next_decision x.1 (port_logs log link) from) o ≡ Some u → t ≤ u)
      → option_and_then (λ x. next_decision x.1 (port_logs log link) t) o ≡ option_and_then (λ x. next_decision x.1 (port_logs log link) from) o
  again_by t link v0 e a b h = grind (arith, nat_tests, next_again, limits_valid)

  -- up to the next decision, what is decided next stays the same
  pub next_stays : (t link : ℕ) → from ≤ t → t ≤ until → next_on site log t link ≡ next_on site log from link
  next_stays t link a b = again_by t link (limits_out site link) refl a b
      (λ u e. elim (cases_lt u t) [
        | inl l ↦ absurd (quiet u (omega arith) (late_on site log from u link (limits_out site link) e, inr (link, e)))
        | inr l ↦ l
      ])

-- ## the window

module _ (config : Config) (rows : List Row) (from start until : ℕ) (logs whole : Logs) (valid : IsConfig config) (run : IsRunTo config rows from logs) (later : IsRunTo config rows until whole) (order : from ≤ start) (within : start ≤ until)
    (rest : (node : ℕ) (site : Site) → site_at config node ≡ Some site → IsAtRest config rows logs from start site (log_at logs node)) where
  -- a node's log over the inputs that it has at rest
  log_then : (node : ℕ) (site : Site) (there : site_at config node ≡ Some site) → IsNodeLog site (rest node site there).inputs from (log_at logs node)
  log_then node site there = at_rest config rows from start logs order run node site there (rest node site there)

  -- up to the window's start, the run has what it had
  stays : (t : ℕ) → from ≤ t → t ≤ start → logs ≡ logs_before t whole
  stays t a b =
      let ends = later.within in
      one_run_is config rows t logs (logs_before t whole) (are_delayed config valid)
      (run_rests config rows from t logs a (omega arith) run (λ node site there.
      let q = rest node site there in
      record {
        inputs = due t q.inputs;
        join = record {
          in_order = in_order-filter input_time input_source (λ i. nat_lt (input_time i) t) q.inputs q.join.in_order;
          each = λ s. source_due config rows start t logs site.number s q.inputs b q.join;
        };
        quiet = λ u l w. q.quiet u (omega arith) (
          w.0,
          elim w.1 [
            | inl c ↦ inl (contains_filter input_time (λ i. nat_lt (input_time i) t) u q.inputs c)
            | inr d ↦ inr d
          ],
        );
      }))
      (IsRunTo-cut config rows (are_delayed config valid) t until whole (omega arith) later)

  log_stays : (t node : ℕ) → from ≤ t → t ≤ start → cut entry_time t (log_at whole node) ≡ log_at logs node
  log_stays t node a b = sym (ap (λ (ls : Logs). log_at ls node) (stays t a b) ∙ log_at-before t whole node)

  reached_stays : (t node source : ℕ) → from ≤ t → t ≤ start → due (suc t) (reaches config rows whole node source) ≡ due (suc t) (reaches config rows logs node source)
  reached_stays t node source a b =
      reaches_same config rows t (suc t) node (λ k link at. let d = are_delayed config valid k link at in omega arith) whole logs
      (λ m. sym (ap (cut entry_time t) (sym (log_stays t m a b)) ∙ cut-cut entry_time entry_rank t t (log_at whole m) (omega arith))) source

  -- nothing is to be done before it
  pub none_before : (t : ℕ) → from ≤ t → t < start → IsWork config rows whole t → ⊥
  none_before t a b w =
      let q = rest w.node w.site w.is_node in
      let (number, is_site) = site_is config w.node w.site valid w.is_node in
      let early : t ≤ start = omega arith in
      elim w.work.1 [
        | inl c ↦
            let here : Contains (map input_time (reaches config rows logs w.node w.source)) t =
            contains_due t (reaches config rows whole w.node w.source) (reaches config rows logs w.node w.source) (reached_stays t w.node w.source a early) c in
            let due_early : Contains (map input_time (due start (reaches config rows logs w.node w.source))) t =
            contains_passes input_time (λ i. nat_lt (input_time i) start) t (λ i same. lt-ltb (input_time i) start (omega arith)) (reaches config rows logs w.node w.source) here in
            let joined : filter (λ i. input_source i == w.source) q.inputs ≡ due start (reaches config rows logs w.node w.source) =
            q.join.each w.source ∙ ap (λ (n : ℕ). due start (reaches config rows logs n w.source)) number in
            q.quiet t b (a, inl (contains_filter input_time (λ i. input_source i == w.source) t q.inputs (subst (λ (is : List Input). Contains (map input_time is) t) (sym joined) due_early)))
        | inr d ↦
            let same : next_on w.site (log_at logs w.node) t d.0 ≡ Some t = ap (λ (l : List Entry). next_on w.site l t d.0) (sym (log_stays t w.node a early)) ∙ d.1 in
            quiet_decides_none w.site q.inputs from start t d.0 (log_at logs w.node) a b q.quiet (log_then w.node w.site w.is_node) same
      ]

  -- where there is something to do next, there is in the run
  pub work_there : ((node : ℕ) (site : Site) → site_at config node ≡ Some site → AreShort site (log_at logs node)) → HasWork config rows logs from start → IsWork config rows whole start
  work_there short h =
      let q = rest h.node h.site h.is_node in
      let (number, is_site) = site_is config h.node h.site valid h.is_node in
      let now : start ≤ start = omega arith in
      let legal : AreLegal h.site from (log_at logs h.node) =
      node_log_legal h.site q.inputs from (log_at logs h.node) is_site (short h.node h.site h.is_node) (log_then h.node h.site h.is_node) in
      record {
        node = h.node;
        site = h.site;
        is_node = h.is_node;
        source = h.source;
        work = (
          now,
          elim h.work.1 [
            | inl c ↦ inl (contains_due start (reaches config rows logs h.node h.source) (reaches config rows whole h.node h.source) (sym (reached_stays start h.node h.source order now)) c)
            | inr d ↦
                let link = d.0 in
                inr (
                  link,
                  ap (λ (l : List Entry). next_on h.site l start link) (log_stays start h.node order now)
                      ∙ (next_stays h.site q.inputs (log_at logs h.node) from start is_site legal q.quiet start link order now ∙ d.1),
                )
          ],
        );
      }

  pub window_next : start ≤ config.horizon.0 → ((node : ℕ) (site : Site) → site_at config node ≡ Some site → AreShort site (log_at logs node)) → HasWork config rows logs from start
      → IsNextWindow config rows whole from (start, min (start + window_length config) (config.horizon.0 + 1))
  window_next early short h = record { later = order; within = early; work = work_there short h; first = none_before; ends = refl }
