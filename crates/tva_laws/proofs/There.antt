-- Each time has a run up to it: from the run up to a time each node's log goes on to the next.
use Rattle.tva_laws.proofs.Common.{◌≡◌, ℕ, zero, suc, ◌+◌, ◌<◌, ◌≤◌, Bool, true, false, List, [], ◌∷◌, length, map, All, Option, Some, None, refl, sym, subst, ap, ◌∙◌, arith, ◌==◌, nat_lt, slice_get, option_map, option_map_or, AllByRecursion, cases_Bool, length-map, recursion_from_All, same_Some, slice_get_cases, Event, Time, LinkPlan, PacketData, Config, NodePlan, is_host, IsConfig, Row, RowWhat, Send, Inject, File, Tick, IsRow, IsJoin, NeverFalls, IsInOrder, cut-zero, each-filter, each-weaker, filter-true, filter-false, in_order-filter, join_unique, times_from, each_from_sources, Input, FromTrace, Arrival, Site, site_of, Entry, input_time, input_source, entry_time, entry_rank, event_of, events, due, Logs, log_at, links_out, site_at, rows_at, arrivals, arrivals_at, reaches, HasLog, IsRunTo, event_time, event_node, events_at, AreEvents, are_delayed, source_due, site_is, site_number, nat_tests}
use Rattle.std.proofs.Common.{filter}
use Rattle.tva_rows.specs.Valid.{NeverFall}
use Rattle.tva_run.specs.Windows.{least_delay, window_length}
use Rattle.tva_run.proofs.Going.{run_goes_on}
use Rattle.tva_run.proofs.Reaches.{reaches_rise}
use Rattle.tva_laws.proofs.Joining.{joined}
use Rattle.tva_laws.proofs.Nexts.{IsInjected, IsTakable, next_log}

-- ## lists

falls_filter : {X : Type 0} (time : X → ℕ) (p : X → Bool) (xs : List X) → NeverFalls time xs → NeverFalls time (filter p xs)
falls_filter time p [] h = tt
falls_filter time p (x ∷ xs) h = grind (arith, nat_tests, cases_Bool, filter-true, each-filter, filter-false, falls_filter time p xs h.1)

found_at : {A B : Type 0} (P : ℕ → B → Type 0) (x : A) (xs : List A) (y : B) (ys : List B) → P 0 y
    → ((i : ℕ) (a : A) → slice_get xs i ≡ Some a → (z : B) × (slice_get ys i ≡ Some z) × P (suc i) z)
    → (i : ℕ) (a : A) → slice_get (x ∷ xs) i ≡ Some a → (z : B) × (slice_get (y ∷ ys) i ≡ Some z) × P i z
found_at P x xs y ys first rest i a e = grind (arith, nat_tests)

-- where there is something for each element of a list, there is a list of it
choose : {A B : Type 0} (P : ℕ → B → Type 0) (xs : List A) → ((i : ℕ) (x : A) → slice_get xs i ≡ Some x → (y : B) × P i y)
    → (ys : List B) × (length ys ≡ length xs) × ((i : ℕ) (x : A) → slice_get xs i ≡ Some x → (y : B) × (slice_get ys i ≡ Some y) × P i y)
choose P [] h = ([], refl, λ i x e. absurd (cc))
choose P (x ∷ xs) h =
    let first = h 0 x refl in
    let rest = choose (λ i. P (suc i)) xs (λ i y e. h (suc i) y e) in
    (first.0 ∷ rest.0, omega (arith, rest.1), found_at P x xs first.0 rest.0 first.1 rest.2)

-- ## what reaches a node

arrivals_each : (P : Input → Type 0) (number : ℕ) → ((time : Time) (packet : PacketData) → P (Arrival time number packet))
    → (link : LinkPlan) (log : List Entry) → AllByRecursion P (arrivals number link log)
arrivals_each P number h link [] = tt
arrivals_each P number h link (e ∷ es) = grind (arith, nat_tests, arrivals_each P number h link es)

arrived_each : (P : Input → Type 0) (number node : ℕ) → ((time : Time) (packet : PacketData) → P (Arrival time number packet))
    → (logs : Logs) (o : Option LinkPlan)
    → AllByRecursion P (option_map_or (arrivals_at logs node number) o [])
arrived_each P number node h logs None = tt
arrived_each P number node h logs (Some link) = grind (arith, nat_tests, arrivals_each P number h link (log_at logs link.from))

rows_source : (rows : List Row) → AllByRecursion (λ i. input_source i ≡ 0) (map FromTrace rows)
rows_source [] = tt
rows_source (row ∷ rows) = (refl, rows_source rows)

-- each source gives what is its own
own_source : (config : Config) (rows : List Row) (logs : Logs) (node source : ℕ)
    → AllByRecursion (λ i. input_source i ≡ source) (reaches config rows logs node source)
own_source config rows logs node zero = rows_source (filter (λ row. row.node == node) rows)
own_source config rows logs node (suc number) = search (arith, nat_tests, arrived_each)

-- and past the last link nothing
none_past : (config : Config) (rows : List Row) (logs : Logs) (node source : ℕ) → length config.links < source
    → reaches config rows logs node source ≡ []
none_past config rows logs node source l = grind (arith, nat_tests, slice_get_cases)

-- ## inputs that a node can take

-- a row that sends, begins a transfer or ticks stands at a host
abbrev pub IsPlacedWhat : Bool → RowWhat → Type 0
IsPlacedWhat at_host (Send dst payload) = at_host ≡ true
IsPlacedWhat at_host (Inject flow payload carried) = Unit {0}
IsPlacedWhat at_host (File dst size segment) = at_host ≡ true
IsPlacedWhat at_host (Tick dst) = at_host ≡ true

abbrev pub IsPlaced : Config → Row → Type 0
IsPlaced config row = IsPlacedWhat (is_host config.nodes row.node) row.what

pub traced_placed : (config : Config) (rows : List Row) → All (IsRow config) rows → AllByRecursion (IsPlaced config) rows
traced_placed config rows a = grind (arith, nat_tests, each-weaker, recursion_from_All)

injected : (what : RowWhat) → IsPlacedWhat false what → IsInjected what
injected what h = grind (arith, nat_tests)

any_arrival : (plan : NodePlan) (time : Time) (link : ℕ) (packet : PacketData) → IsTakable plan (Arrival time link packet)
any_arrival plan time link packet = grind (arith, nat_tests)

module _ (config : Config) (node : ℕ) (plan : NodePlan) (here : slice_get config.nodes node ≡ Some plan) where
  rows_takable : (rows : List Row) → AllByRecursion (IsPlaced config) rows → AllByRecursion (IsTakable plan) (rows_at rows node)
  rows_takable [] h = tt
  rows_takable (row ∷ rows) h = grind (arith, nat_tests, cases_Bool (row.node == node), rows_takable rows h.1)

  reaches_takable : (rows : List Row) → AllByRecursion (IsPlaced config) rows → (logs : Logs) (source : ℕ)
      → AllByRecursion (IsTakable plan) (reaches config rows logs node source)
  reaches_takable rows h logs zero = rows_takable rows h
  reaches_takable rows h logs (suc number) = search (arith, nat_tests, arrived_each, any_arrival)

-- ## the run

no_log : {A : Type 0} (xs : List A) (n : ℕ) → log_at (map (λ (x : A). (let es : List Entry = [] in es)) xs) n ≡ []
no_log [] n = refl
no_log (x ∷ xs) zero = refl
no_log (x ∷ xs) (suc n) = no_log xs n

least_positive : (none : ℕ) (links : List LinkPlan) → 1 ≤ none
    → ((number : ℕ) (link : LinkPlan) → slice_get links number ≡ Some link → 1 ≤ link.delay) → 1 ≤ least_delay none links
least_positive none [] one h = one
least_positive none (link ∷ []) one h = h 0 link refl
least_positive none (link ∷ other ∷ links) one h =
    let first : 1 ≤ link.delay = h 0 link refl in
    let rest : 1 ≤ least_delay none (other ∷ links) = least_positive none (other ∷ links) one (λ k l e. h (suc k) l e) in
    omega (arith, first, rest)

found_log : (logs : Logs) (n : ℕ) (log : List Entry) → slice_get logs n ≡ Some log → log_at logs n ≡ log
found_log [] n log e = absurd (cc)
found_log (x ∷ xs) zero log e = same_Some x log e
found_log (x ∷ xs) (suc n) log e = found_log xs n log e

module _ (config : Config) (rows : List Row) (valid : IsConfig config) (order : NeverFall 0 rows) (placed : AllByRecursion (IsPlaced config) rows) where
  inputs_to : (t u : ℕ) (logs : Logs) → IsRunTo config rows t logs → (node : ℕ)
      → (inputs : List Input) × IsJoin input_time input_source (λ s. due u (reaches config rows logs node s)) inputs
  inputs_to t u logs run node =
      joined input_time input_source (λ s. due u (reaches config rows logs node s))
      (λ s. each-filter (λ i. input_source i ≡ s) (λ i. nat_lt (input_time i) u) (reaches config rows logs node s) (own_source config rows logs node s))
      (λ s. falls_filter input_time (λ i. nat_lt (input_time i) u) (reaches config rows logs node s) (reaches_rise config rows t logs valid order run node s))
      (length config.links) (λ s l. ap (due u) (none_past config rows logs node s l))

  -- the log of a node goes on
  node_next : (t : ℕ) (logs : Logs) → IsRunTo config rows t logs → (node : ℕ) (plan : NodePlan) → slice_get config.nodes node ≡ Some plan
      → (log : List Entry) × HasLog config rows logs (suc t) (site_of node plan (links_out node config.links)) log
  node_next t logs run node plan here =
      let site : Site = site_of node plan (links_out node config.links) in
      let there : site_at config node ≡ Some site = ap (option_map (λ (p : NodePlan). site_of node p (links_out node config.links))) here in
      let own = run.each node site there in
      let k = site_is config node site valid there in
      let (inputs, join) = inputs_to t (suc t) logs run node in
      let same : due t own.inputs ≡ due t inputs =
      join_unique input_time input_source (due t own.inputs) (due t inputs)
      (in_order-filter input_time input_source (λ i. nat_lt (input_time i) t) own.inputs own.join.in_order)
      (in_order-filter input_time input_source (λ i. nat_lt (input_time i) t) inputs join.in_order)
      (λ s.
      source_due config rows t t logs node s own.inputs (omega arith) own.join
      ∙ sym (source_due config rows (suc t) t logs node s inputs (omega arith) join)) in
      let can : AllByRecursion (IsTakable plan) inputs =
      each_from_sources input_time input_source (IsTakable plan) inputs
      (λ s. subst (AllByRecursion (IsTakable plan)) (sym (join.each s))
      (each-filter (IsTakable plan) (λ i. nat_lt (input_time i) (suc t)) (reaches config rows logs node s) (reaches_takable config node plan here rows placed logs s))) in
      grind (arith, nat_tests, next_log)

  -- a log of the node of that number
  abbrev IsNext : ℕ → Logs → ℕ → List Entry → Type 0
  IsNext t logs node log =
      (plan : NodePlan) → slice_get config.nodes node ≡ Some plan → HasLog config rows logs (suc t) (site_of node plan (links_out node config.links)) log

  some_next : (t : ℕ) (logs : Logs) → IsRunTo config rows t logs → (node : ℕ) (plan : NodePlan)
      → slice_get config.nodes node ≡ Some plan → (log : List Entry) × IsNext t logs node log
  some_next t logs run node plan here = grind (arith, nat_tests, node_next t logs run node plan here)

  at_site : (t : ℕ) (logs longer : Logs) (node : ℕ) (site : Site) (o : Option NodePlan)
      → ((plan : NodePlan) → slice_get config.nodes node ≡ Some plan → (log : List Entry) × (slice_get longer node ≡ Some log) × IsNext t logs node log)
      → slice_get config.nodes node ≡ o → option_map (λ (p : NodePlan). site_of node p (links_out node config.links)) o ≡ Some site
      → HasLog config rows logs (suc t) site (log_at longer node)
  at_site t logs longer node site o h here there = grind (arith, nat_tests, same_Some, found_log)

  short : (t : ℕ) → suc t ≤ t + window_length config
  short t = grind (arith, nat_tests, least_positive, are_delayed)

  run_next : (t : ℕ) (logs : Logs) → suc t ≤ config.horizon.0 + 1 → IsRunTo config rows t logs
      → (longer : Logs) × IsRunTo config rows (suc t) longer
  run_next t logs within run =
      let chosen = choose (IsNext t logs) config.nodes (some_next t logs run) in
      let longer : Logs = chosen.0 in
      let has : (node : ℕ) (site : Site) → site_at config node ≡ Some site → HasLog config rows logs (suc t) site (log_at longer node) =
      λ node site there. at_site t logs longer node site (slice_get config.nodes node) (chosen.2 node) refl there in
      (longer, run_goes_on config rows t (suc t) logs longer (omega arith) run has chosen.1 (short t) within)

  first_run : (logs : Logs) × IsRunTo config rows 0 logs
  first_run =
      let none : NodePlan → List Entry = λ p. [] in
      let logs : Logs = map none config.nodes in (
        logs,
        record {
          within = omega arith;
          count = length-map config.nodes none;
          each = λ node site e. subst (λ (es : List Entry). HasLog config rows logs 0 site es) (sym (no_log config.nodes node)) (record {
            inputs = [];
            join = record { in_order = tt; each = λ s. sym (cut-zero input_time input_source (reaches config rows logs site.number s)) };
            is_log = record { in_order = tt; early = tt; steps = tt; none_left = λ time link l. absurd (omega (arith, l)) };
          });
        },
      )

  pub run_to : (until : ℕ) → until ≤ config.horizon.0 + 1 → (logs : Logs) × IsRunTo config rows until logs
  run_to zero within = first_run
  run_to (suc t) within =
      let before = run_to t (omega (arith, within)) in
      run_next t before.0 within before.1

-- ## its events

node_events : (site : Site) (number : ℕ) (log : List Entry) → site.number ≡ number
    → AllByRecursion (λ e. event_node e ≡ number) (map (event_of site) log)
node_events site number [] h = tt
node_events site number (e ∷ es) h = (h, node_events site number es h)

told_late : (site : Site) (t : ℕ) (log : List Entry) → AllByRecursion (λ e. t ≤ entry_time e) log
    → AllByRecursion (λ e. t ≤ event_time e) (map (event_of site) log)
told_late site t [] a = tt
told_late site t (e ∷ es) a = (a.0, told_late site t es a.1)

told_rise : (site : Site) (log : List Entry) → IsInOrder entry_time entry_rank log → NeverFalls event_time (map (event_of site) log)
told_rise site [] o = tt
told_rise site (e ∷ es) o = (told_late site (entry_time e) es (times_from entry_time entry_rank e es o).1, told_rise site es o.1)

module _ (config : Config) (rows : List Row) (until : ℕ) (logs : Logs) (run : IsRunTo config rows until logs) where
  own_events : (node : ℕ) (o : Option Site) → site_at config node ≡ o
      → AllByRecursion (λ e. event_node e ≡ node) (option_map_or (λ site. events site (log_at logs node)) o [])
  own_events node o e = grind (arith, nat_tests, node_events, site_number)

  events_rise : (node : ℕ) (o : Option Site) → site_at config node ≡ o
      → NeverFalls event_time (option_map_or (λ site. events site (log_at logs node)) o [])
  events_rise node None e = tt
  events_rise node (Some site) e = told_rise site (log_at logs node) (run.each node site e).is_log.in_order

  no_events : (node : ℕ) → length config.nodes < node → events_at config logs node ≡ []
  no_events node l = grind (arith, nat_tests, slice_get_cases)

  pub told : (es : List Event) × AreEvents config logs es
  told =
      joined event_time event_node (events_at config logs) (λ s. own_events s (site_at config s) refl) (λ s. events_rise s (site_at config s) refl) (length config.nodes) no_events
