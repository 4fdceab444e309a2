-- All that happens in a run happens in its windows.
use Rattle.tva_run.proofs.Common.{◌≡◌, ℕ, suc, ◌+◌, ◌<◌, ◌≤◌, List, [], ◌∷◌, ◌++◌, length, map, filter, true, false, Option, Some, None, refl, sym, ◌∙◌, ap, ap₂, arith, inl, inr, ◌⊎◌, nat_lt, nat_le, ◌&&◌, ◌==◌, Contains, option_map_or, AllByRecursion, flat_map, cases_lt, nat_tests, append-nil, filter-append, Event, LinkLimits, Class, PacketData, Config, Row, IsInOrder, cut, Input, Site, Entry, Took, Started, input_time, input_source, entry_time, entry_rank, starts, start_after, due, GoesOn, next_decision, next_on, events, Logs, log_at, site_at, reaches, IsRunTo, event_time, event_node, AreEvents, Window, IsWork, AreWindows, events_in, given}
use Rattle.tva_base.proofs.Each.{is_in, is_behind, is_ahead}
use Rattle.std.proofs.lemmas.List.Folds.{flat_map-map}
use Rattle.tva_port.specs.Log as port
use Rattle.tva_run.proofs.Joins.{filter-true, filter-false, filter-all, filter-none, each-filter, each-weaker, cut-early, cut-late, times_from}
use Rattle.tva_run.proofs.Putting.{each_from_sources, each-both}
use Rattle.tva_run.proofs.Ports.{busy_starts_none, free_starts, next_busy, next_free, next_unused}
use Rattle.tva_run.proofs.LogWalks.{each_place, IsMade, made_at}
use Rattle.tva_run.proofs.Sites.{site_number}

-- ## where there is a start, its link decides

start_decides : (l : LinkLimits) (log : List port.Entry) (now : ℕ) (s : Class × PacketData) → start_after l log now ≡ Some s → next_decision l log now ≡ Some now
start_decides l log now s e = grind (arith, nat_tests, busy_starts_none, free_starts, next_free, next_busy, next_unused)

starts_decides : (site : Site) (log : List Entry) (link now : ℕ) (s : Class × PacketData) → starts site log link now ≡ Some s → next_on site log now link ≡ Some now
starts_decides site log link now s e = grind (arith, nat_tests, start_decides)

-- ## each entry comes where there is work

contained : {X : Type 0} (time : X → ℕ) (P : ℕ → Type 0) (xs : List X) → ((t : ℕ) → Contains (map time xs) t → P t) → AllByRecursion (λ x. P (time x)) xs
contained time P [] w = tt
contained time P (x ∷ xs) w = (w (time x) (0, omega arith, refl), contained time P xs (λ t h. w t (suc h.0, omega arith, h.2)))

module _ {X : Type 0} (time source : X → ℕ) (x : X) (y : X) (zs : List X) where
  first_before : (us : List X) → AllByRecursion (λ z. time x ≤ time z) (us ++ y ∷ zs) → time x ≤ time y
  first_before [] h = h.0
  first_before (u ∷ us) h = first_before us h.1

front : {X : Type 0} (time source : X → ℕ) (xs : List X) (y : X) (zs : List X) → IsInOrder time source (xs ++ y ∷ zs) → AllByRecursion (λ x. time x ≤ time y) xs
front time source [] y zs o = tt
front time source (x ∷ xs) y zs o = (first_before time source x y zs xs ((times_from time source x (xs ++ y ∷ zs) o).1), front time source xs y zs o.1)

back : {X : Type 0} (time source : X → ℕ) (xs ys : List X) → IsInOrder time source (xs ++ ys) → IsInOrder time source ys
back time source [] ys o = o
back time source (x ∷ xs) ys o = back time source xs ys o.1

-- either all come before a time, or something holds that holds at each one's time
before_or : {X : Type 0} (time : X → ℕ) (P : ℕ → Type 0) (t : ℕ) (xs : List X) → AllByRecursion (λ x. P (time x)) xs → AllByRecursion (λ x. time x ≤ t) xs → AllByRecursion (λ x. time x < t) xs ⊎ P t
before_or time P t [] h l = inl tt
before_or time P t (x ∷ xs) h l = grind (arith, nat_tests, (before_or time P t xs h.1 l.1))

module _ (config : Config) (rows : List Row) (logs : Logs) (node : ℕ) (site : Site) (there : site_at config node ≡ Some site) where
  input_work : (source t : ℕ) → Contains (map input_time (reaches config rows logs node source)) t → IsWork config rows logs t
  input_work source t c = record { node = node; site = site; is_node = there; source = source; work = ((omega arith), inl c) }

  start_work : (link t : ℕ) → next_on site (cut entry_time t (log_at logs node)) t link ≡ Some t → IsWork config rows logs t
  start_work link t e = record { node = node; site = site; is_node = there; source = 0; work = ((omega arith), inr (link, e)) }

  inputs_work : (until : ℕ) (inputs : List Input) → ((s : ℕ) → filter (λ i. input_source i == s) inputs ≡ due until (reaches config rows logs node s)) → AllByRecursion (λ i. IsWork config rows logs (input_time i)) inputs
  inputs_work until inputs each =
      each_from_sources input_time input_source (λ i. IsWork config rows logs (input_time i)) inputs (λ s.
      rw (each s)
      (each-filter (λ i. IsWork config rows logs (input_time i)) (λ i. nat_lt (input_time i) until) (reaches config rows logs node s)
      (contained input_time (λ t. IsWork config rows logs t) (reaches config rows logs node s) (input_work s))))

  start_here : (before : List Entry) (u link : ℕ) (class : Class) (packet : PacketData) (es : List Entry) → IsInOrder entry_time entry_rank (log_at logs node) → log_at logs node ≡ before ++ Started u link class packet ∷ es
      → AllByRecursion (λ e. IsWork config rows logs (entry_time e)) before → starts site before link u ≡ Some (class, packet) → IsWork config rows logs u
  start_here before u link class packet es order is done starts_it =
      let whole : IsInOrder entry_time entry_rank (before ++ Started u link class packet ∷ es) = rw is at order in
      elim (before_or entry_time (λ t. IsWork config rows logs t) u before done (front entry_time entry_rank before (Started u link class packet) es whole)) [
        | inl early ↦
            let late = times_from entry_time entry_rank (Started u link class packet) es (back entry_time entry_rank before (Started u link class packet ∷ es) whole) in
            let same : cut entry_time u (log_at logs node) ≡ before =
            ap (cut entry_time u) is
            ∙ (filter-append (λ e. nat_lt (entry_time e) u) before (Started u link class packet ∷ es)
            ∙ (ap₂ (λ (xs ys : List Entry). xs ++ ys) (cut-early entry_time entry_rank u before early) (cut-late entry_time entry_rank u (Started u link class packet ∷ es) late) ∙ append-nil before)) in
            start_work link u (ap (λ (log : List Entry). next_on site log u link) same ∙ starts_decides site before link u (class, packet) starts_it)
        | inr p ↦ p
      ]

  entry_work : (before : List Entry) (e : Entry) (rest : List Entry) → IsInOrder entry_time entry_rank (log_at logs node) → log_at logs node ≡ before ++ e ∷ rest
      → AllByRecursion (λ x. IsWork config rows logs (entry_time x)) before → IsMade (λ i. IsWork config rows logs (input_time i)) site before e → IsWork config rows logs (entry_time e)
  entry_work before (Took j c) rest order split done m = m.1
  entry_work before (Started u k c p) rest order split done m = start_here before u k c p rest order split done m

  walk : (is : List Input) → IsInOrder entry_time entry_rank (log_at logs node) → GoesOn site [] is (log_at logs node)
      → AllByRecursion (λ i. IsWork config rows logs (input_time i)) is → AllByRecursion (λ e. IsWork config rows logs (entry_time e)) (log_at logs node)
  walk is order g works =
      each_place (λ e. IsWork config rows logs (entry_time e)) (log_at logs node)
      (λ before e rest split done.
      entry_work before e rest order split done
      (made_at (λ i. IsWork config rows logs (input_time i)) site is (log_at logs node) before e rest g works split))

-- ## the windows hold all

told_each : (P : ℕ → Type 0) (site : Site) (log : List Entry) → AllByRecursion (λ e. P (entry_time e)) log → AllByRecursion (λ e. P (event_time e)) (events site log)
told_each P site [] h = tt
told_each P site (e ∷ es) h = (h.0, told_each P site es h.1)

-- at an event's time there is work, and it is before the run's end
abbrev pub HappensAt : Config → List Row → Logs → ℕ → ℕ → Type 0
HappensAt config rows logs until t = IsWork config rows logs t × (t < until)

events_work_by : (config : Config) (rows : List Row) (until : ℕ) (logs : Logs) (node : ℕ) (o : Option Site) → site_at config node ≡ o → IsRunTo config rows until logs
    → AllByRecursion (λ e. HappensAt config rows logs until (event_time e)) (option_map_or (λ site. events site (log_at logs node)) o [])
events_work_by config rows until logs node None e run = tt
events_work_by config rows until logs node (Some site) e run =
    let h = run.each node site e in
    let works = inputs_work config rows logs node site e until h.inputs (λ s. h.join.each s ∙ ap (λ (n : ℕ). due until (reaches config rows logs n s)) (site_number config node site e)) in
    let works_due = each-filter (λ i. IsWork config rows logs (input_time i)) (λ i. nat_lt (input_time i) until) h.inputs works in
    told_each (λ t. HappensAt config rows logs until t) site (log_at logs node)
    (each-both (λ x. IsWork config rows logs (entry_time x)) (λ x. entry_time x < until) (λ x. HappensAt config rows logs until (entry_time x)) (λ x a b. (a, b)) (log_at logs node)
    (walk config rows logs node site e (due until h.inputs) h.is_log.in_order h.is_log.steps works_due) h.is_log.early)

-- each event of a run comes where there is work, before the run's end
pub events_work : (config : Config) (rows : List Row) (until : ℕ) (logs : Logs) (told : List Event) → IsRunTo config rows until logs → AreEvents config logs told → AllByRecursion (λ e. HappensAt config rows logs until (event_time e)) told
events_work config rows until logs told run h =
    each_from_sources event_time event_node (λ e. HappensAt config rows logs until (event_time e)) told
    (λ node. rw (h.each node) (events_work_by config rows until logs node (site_at config node) refl run))

abbrev pub since : ℕ → List Event → List Event
since from told = filter (λ e. nat_le from (event_time e)) told

is_since : (from t : ℕ) → from ≤ t → nat_le from t ≡ true
is_since from t h = grind (arith, nat_tests)

not_since : (from t : ℕ) → t < from → nat_le from t ≡ false
not_since from t h = grind (arith, nat_tests)

-- what comes from a time on is what comes in the next window, and what comes from its end on
split : (from a b : ℕ) → from ≤ a → a ≤ b → (told : List Event) → IsInOrder event_time event_node told → AllByRecursion (λ e. from ≤ event_time e → a ≤ event_time e) told
    → since from told ≡ events_in told (a, b) ++ since b told
split from a b l m [] o h = refl
split from a b l m (e ∷ es) o h =
    elim (cases_lt (event_time e) from) [
      | inl before ↦
          rw (filter-false (λ x. nat_le from (event_time x)) e es (not_since from (event_time e) before), filter-false (λ x. nat_le a (event_time x) && nat_lt (event_time x) b) e es (is_ahead a b (event_time e) (omega arith)), filter-false (λ x. nat_le b (event_time x)) e es (not_since b (event_time e) (omega arith)))
          (split from a b l m es o.1 h.1)
      | inr here ↦
          elim (cases_lt (event_time e) b) [
            | inl within ↦
                rw (filter-true (λ x. nat_le from (event_time x)) e es (is_since from (event_time e) here), filter-true (λ x. nat_le a (event_time x) && nat_lt (event_time x) b) e es (is_in a b (event_time e) (h.0 here) within), filter-false (λ x. nat_le b (event_time x)) e es (not_since b (event_time e) within))
                (ap (λ (xs : List Event). e ∷ xs) (split from a b l m es o.1 h.1))
            | inr past ↦
                let late : AllByRecursion (λ x. b ≤ event_time x) (e ∷ es) = each-weaker (λ x. event_time e ≤ event_time x) (λ x. b ≤ event_time x) (λ x n. omega arith) (e ∷ es) (times_from event_time event_node e es o) in
                let all : since from (e ∷ es) ≡ e ∷ es = filter-all (λ x. nat_le from (event_time x)) (e ∷ es) (each-weaker (λ x. b ≤ event_time x) (λ x. nat_le from (event_time x) ≡ true) (λ x n. is_since from (event_time x) (omega arith)) (e ∷ es) late) in
                let rest : since b (e ∷ es) ≡ e ∷ es = filter-all (λ x. nat_le b (event_time x)) (e ∷ es) (each-weaker (λ x. b ≤ event_time x) (λ x. nat_le b (event_time x) ≡ true) (λ x n. is_since b (event_time x) n) (e ∷ es) late) in
                let none : events_in (e ∷ es) (a, b) ≡ [] = filter-none (λ x. nat_le a (event_time x) && nat_lt (event_time x) b) (e ∷ es) (each-weaker (λ x. b ≤ event_time x) (λ x. (nat_le a (event_time x) && nat_lt (event_time x) b) ≡ false) (λ x n. is_behind a b (event_time x) n) (e ∷ es) late) in
                all ∙ ap₂ (λ (xs ys : List Event). xs ++ ys) (sym none) (sym rest)
          ]
    ]

module _ (config : Config) (rows : List Row) (logs : Logs) (told : List Event) (order : IsInOrder event_time event_node told) (works : AllByRecursion (λ e. HappensAt config rows logs (config.horizon.0 + 1) (event_time e)) told) where
  held : (from : ℕ) (windows : List Window) → AreWindows config rows logs from windows → since from told ≡ flat_map (events_in told) windows
  held from [] over =
      filter-none (λ x. nat_le from (event_time x)) told
      (each-weaker (λ e. HappensAt config rows logs (config.horizon.0 + 1) (event_time e)) (λ e. nat_le from (event_time e) ≡ false)
      (λ e k. elim (cases_lt (event_time e) from) [
        | inl l ↦ not_since from (event_time e) l
        | inr l ↦ absurd (let m = k.1 in over (event_time e) l (omega arith) k.0)
      ]) told works)
  held from (w ∷ ws) h =
      let n = h.0 in
      let early = n.within in
      let ends = n.ends in
      let order' : w.0 ≤ w.1 = omega arith in
      split from w.0 w.1 n.later order' told order
      (each-weaker (λ e. HappensAt config rows logs (config.horizon.0 + 1) (event_time e)) (λ e. from ≤ event_time e → w.0 ≤ event_time e)
      (λ e k l. elim (cases_lt (event_time e) w.0) [
        | inl m ↦ absurd (n.first (event_time e) l m k.0)
        | inr m ↦ m
      ]) told works)
      ∙ ap (λ (xs : List Event). events_in told w ++ xs) (held w.1 ws h.1)

  whole_since : since 0 told ≡ told
  whole_since = filter-all (λ x. nat_le 0 (event_time x)) told (each-weaker (λ e. HappensAt config rows logs (config.horizon.0 + 1) (event_time e)) (λ e. nat_le 0 (event_time e) ≡ true) (λ e k. is_since 0 (event_time e) (omega arith)) told works)

no_empty : {X : Type 0} (xss : List (List X)) → flat_map (λ xs. xs) (filter (λ xs. nat_lt 0 (length xs)) xss) ≡ flat_map (λ xs. xs) xss
no_empty [] = refl
no_empty ([] ∷ xss) = no_empty xss
no_empty {X = X} ((x ∷ xs) ∷ xss) = grind (arith, nat_tests, filter-true, (no_empty xss))

pub windows_hold : (config : Config) (rows : List Row) (logs : Logs) (windows : List Window) (told : List Event) → IsRunTo config rows (config.horizon.0 + 1) logs → AreEvents config logs told → AreWindows config rows logs 0 windows → flat_map (λ es. es) (given told windows) ≡ told
windows_hold config rows logs windows told run h are =
    let works = events_work config rows (config.horizon.0 + 1) logs told run h in
    cc (no_empty (map (events_in told) windows), flat_map-map (λ (es : List Event). es) (events_in told) windows, held config rows logs told h.in_order works 0 windows are, whole_since config rows logs told h.in_order works)
