-- The events of a run up to an earlier time are the first of those of a run up to a later one.
use Rattle.tva_run.proofs.Common.{nat_tests, ◌≡◌, ℕ, ◌+◌, ◌≤◌, List, [], ◌∷◌, ◌++◌, length, length-append, map, filter, Bool, Option, Some, refl, sym, ◌∙◌, ap, inl, inr, arith, nat_lt, slice_get, option_map_or, lt-ltb, cases_lt, Event, LinkPlan, Config, Row, IsInOrder, cut, Site, events, Logs, log_at, site_at, logs_before, event_time, event_node, events_at, AreEvents, AreEventsTo}
use Rattle.tva_run.proofs.Joins.{filter-true, filter-false, cut-late, each_later}
use Rattle.tva_run.proofs.Joined.{one_join, join-cut}
use Rattle.tva_run.proofs.Runs.{one_run_is, log_at-before, IsRunTo-cut}

pub filter-map : {X Y : Type 0} (f : X → Y) (p : Y → Bool) (xs : List X) → filter p (map f xs) ≡ map f (filter (λ x. p (f x)) xs)
filter-map f p [] = refl
filter-map f p (x ∷ xs) = grind (arith, nat_tests, filter-true, filter-false, (filter-map f p xs))

-- a list in order begins with what it has before a time
pub begins_cut : {X : Type 0} (time source : X → ℕ) (t : ℕ) (xs : List X) → IsInOrder time source xs → (rest : List X) × (xs ≡ cut time t xs ++ rest)
begins_cut time source t [] o = ([], refl)
begins_cut time source t (x ∷ xs) o =
    elim (cases_lt (time x) t) [
      | inl l ↦
          let (rest, e) = begins_cut time source t xs o.1 in
          (rest, rw (filter-true (λ y. nat_lt (time y) t) x xs (lt-ltb (time x) t l)) (ap (λ ys. x ∷ ys) e))
      | inr l ↦ (x ∷ xs, rw (cut-late time source t (x ∷ xs) (each_later time source t x xs o l)) refl)
    ]

events_cut : (t : ℕ) (logs : Logs) (node : ℕ) (o : Option Site) → option_map_or (λ site. events site (log_at (logs_before t logs) node)) o [] ≡ cut event_time t (option_map_or (λ site. events site (log_at logs node)) o [])
events_cut t logs node v0 = grind (arith, nat_tests, log_at-before, filter-map)

-- the events of the logs before a time are those before it
pub events_at-before : (config : Config) (t : ℕ) (logs : Logs) (node : ℕ) → events_at config (logs_before t logs) node ≡ cut event_time t (events_at config logs node)
events_at-before config t logs node = events_cut t logs node (site_at config node)

pub AreEvents-before : (config : Config) (t : ℕ) (logs : Logs) (told : List Event) → AreEvents config logs told → AreEvents config (logs_before t logs) (cut event_time t told)
AreEvents-before config t logs told h =
    let j = join-cut event_time event_node (events_at config logs) t told h in
    record { in_order = j.in_order; each = λ node. j.each node ∙ sym (events_at-before config t logs node) }

module _ (config : Config) (rows : List Row) (delayed : (number : ℕ) (link : LinkPlan) → slice_get config.links number ≡ Some link → 1 ≤ link.delay) where
  -- the events up to an earlier time are those before it
  pub events_before : (t until : ℕ) (first all : List Event) → t ≤ until → AreEventsTo config rows t first → AreEventsTo config rows until all → first ≡ cut event_time t all
  events_before t until first all l a b =
      let same : a.logs ≡ logs_before t b.logs = one_run_is config rows t a.logs (logs_before t b.logs) delayed a.run (IsRunTo-cut config rows delayed t until b.logs l b.run) in
      one_join event_time event_node (events_at config a.logs) first (cut event_time t all) a.events
      (rw same (AreEvents-before config t b.logs all b.events))

  pub events_begin : (t until : ℕ) (first all : List Event) → t ≤ until → AreEventsTo config rows t first → AreEventsTo config rows until all → (rest : List Event) × (all ≡ first ++ rest)
  events_begin t until first all l a b =
      let (rest, e) = begins_cut event_time event_node t all b.events.in_order in
      (rest, e ∙ ap (λ (es : List Event). es ++ rest) (sym (events_before t until first all l a b)))

  -- no run up to some time has more events than the whole run
  pub no_more_events : (until : ℕ) (part whole : List Event) → AreEventsTo config rows until part → AreEventsTo config rows (config.horizon.0 + 1) whole → length part ≤ length whole
  no_more_events until part whole a b =
      let (rest, e) = events_begin until (config.horizon.0 + 1) part whole a.run.within a b in
      omega (arith, ap (λ (es : List Event). length es) e, length-append part rest)

  -- a run has one list of events
  pub one_list : (until : ℕ) (told others : List Event) → AreEventsTo config rows until told → AreEventsTo config rows until others → told ≡ others
  one_list until told others a b =
      let same : b.logs ≡ a.logs = one_run_is config rows until b.logs a.logs delayed b.run a.run in
      one_join event_time event_node (events_at config a.logs) told others a.events (rw (← same) b.events)
