-- What stands between two windows: the nodes by their places, and when there is nothing to do.
use Rattle.tva_net.proofs.Common.{◌≡◌, ℕ, suc, ◌+◌, ◌<◌, ◌≤◌, List, [], ◌∷◌, ◌++◌, length, get_or, Option, Some, None, All, refl, sym, subst, ◌∙◌, ap, arith, inl, inr, slice_get, option_map, option_map_or, AllByRecursion, slice_get_cases, slice_get_within, get_or_from_slice_get, Event, Time, LinkPlan, Config, NodePlan, IsLinkPlan, all_here, Row, Site, site_of, in_turn, IsWorkAt, events, NodeState, legal, Logs, log_at, links_out, site_at, events_at, IsRunTo, AreFirstWindows, AreWindows, HasWork, IsAtRest, IsNextWindow, IsOver, Window, least_delay, window_length, run_rests, none_before, are_delayed, HasNone, IsFirstTime, IsNodeAt, WorksFor, ByPlace, IsWholeRun, TellOf, WorkState, reaches_rise, same_Some}
use Rattle.tva_run.specs.Legal.{AreShort}
use Rattle.tva_run.proofs.Legal.{legal_short}
use Rattle.tva_net.proofs.Nodes.{has_work, rests}
use Rattle.tva_net.proofs.Resting.{work_back, work_then}

-- ## windows

module _ (config : Config) (rows : List Row) (logs : Logs) where
  -- one more window behind the first ones
  pub first_push : (from : ℕ) (windows : List Window) (behind : ℕ) (window : Window) → AreFirstWindows config rows logs from windows behind → IsNextWindow config rows logs behind window
      → AreFirstWindows config rows logs from (windows ++ window ∷ []) window.1
  first_push from [] behind window h n = (subst (λ (t : ℕ). IsNextWindow config rows logs t window) (sym h) n, refl)
  first_push from (x ∷ xs) behind window h n = (h.0, first_push x.1 xs behind window h.1 n)

  -- they are all where there is nothing more to do
  pub first_whole : (from : ℕ) (windows : List Window) (behind : ℕ) → AreFirstWindows config rows logs from windows behind → IsOver config rows logs behind → AreWindows config rows logs from windows
  first_whole from [] behind h o = subst (λ (t : ℕ). IsOver config rows logs t) (sym h) o
  first_whole from (x ∷ xs) behind h o = (h.0, first_whole x.1 xs behind h.1 o)

  -- each ends no later than they all do
  pub first_ends : (from : ℕ) (windows : List Window) (behind : ℕ) → AreFirstWindows config rows logs from windows behind → AllByRecursion (λ (x : Window). x.1 ≤ behind) windows × (from ≤ behind)
  first_ends from [] behind h = (tt, omega (arith, h))
  first_ends from (x ∷ xs) behind h =
      let (each, last) = first_ends x.1 xs behind h.1 in
      let later = h.0.later in
      let within = h.0.within in
      let ends = h.0.ends in
      ((last, each), omega arith)

least_some : (none : ℕ) (links : List LinkPlan) → 1 ≤ none → ((number : ℕ) (link : LinkPlan) → slice_get links number ≡ Some link → 1 ≤ link.delay) → 1 ≤ least_delay none links
least_some none [] l h = l
least_some none (link ∷ []) l h = h 0 link refl
least_some none (link ∷ other ∷ links) l h =
    let a = h 0 link refl in
    let b = least_some none (other ∷ links) l (λ number x e. h (suc number) x e) in
    omega (arith, a, b)

least_few : (none : ℕ) (links : List LinkPlan) (most : ℕ) → none ≤ most → ((number : ℕ) (link : LinkPlan) → slice_get links number ≡ Some link → link.delay ≤ most) → least_delay none links ≤ most
least_few none [] most l h = l
least_few none (link ∷ []) most l h = h 0 link refl
least_few none (link ∷ other ∷ links) most l h = let a = h 0 link refl in omega (arith, a)

-- ## nodes

site_plan : (config : Config) (n : ℕ) (site : Site) (o : Option NodePlan) → option_map (λ p. site_of n p (links_out n config.links)) o ≡ Some site → (p : NodePlan) × (o ≡ Some p)
site_plan config n site None e = absurd (cc)
site_plan config n site (Some p) e = (p, refl)

pub site_within : (config : Config) (n : ℕ) (site : Site) → site_at config n ≡ Some site → n < length config.nodes
site_within config n site e =
    let (p, f) = site_plan config n site (slice_get config.nodes n) e in
    slice_get_within config.nodes n p f

pub events_there : (config : Config) (logs : Logs) (n : ℕ) (site : Site) → site_at config n ≡ Some site → events_at config logs n ≡ events site (log_at logs n)
events_there config logs n site e = ap (λ (o : Option Site). option_map_or (λ s. events s (log_at logs n)) o []) e

-- nodes at work tell of their logs
pub tell_of : (config : Config) (rows : List Row) (logs : Logs) (until : ℕ) (nodes : List NodeState) → length nodes ≡ length config.nodes → ByPlace (IsNodeAt config rows logs until) nodes → TellOf config logs nodes
tell_of config rows logs until nodes count each = record {
  count = count;
  each = λ n d l. let a = each n d l in a.stands.events ∙ sym (events_there config logs n (get_or nodes n d).site a.site);
}

module _ (config : Config) (rows : List Row) (windows : List Window) (told : List Event) (w : WorkState) (h : WorksFor config rows windows told w) where
  pub place_of : (n : ℕ) (site : Site) → site_at config n ≡ Some site → (d : NodeState) × (n < length w.nodes) × ((get_or w.nodes n d).site ≡ site)
  place_of n site e =
      let l : n < length w.nodes = omega (arith, site_within config n site e, h.kept.count) in
      elim (slice_get_cases w.nodes n).1 [
        | inl in' ↦ (in'.0, l, same_Some (get_or w.nodes n in'.0).site site (sym (h.kept.nodes n in'.0 l).site ∙ e))
        | inr past ↦ absurd (omega (arith, past.0, l))
      ]

  pub run_within : w.worked_to ≤ config.horizon.0 + 1
  run_within = h.way.run.run.within

  -- where no node has anything to do before a time, each is at rest
  pub rest_by : (until : ℕ) → until ≤ config.horizon.0 + 1
      → ((n : ℕ) (d : NodeState) → n < length w.nodes → (t : ℕ) → t < until → IsWorkAt (get_or w.nodes n d).site (in_turn (get_or w.nodes n d).inbox) (log_at h.way.run.logs n) (get_or w.nodes n d).worked_to t → ⊥)
      → (n : ℕ) (site : Site) → site_at config n ≡ Some site → IsAtRest config rows h.way.run.logs w.worked_to until site (log_at h.way.run.logs n)
  rest_by until l none n site e =
      let (d, k, same) = place_of n site e in
      let v = get_or w.nodes n d in
      let a = h.kept.nodes n d k in
      let log = log_at h.way.run.logs n in
      let bound : w.worked_to ≤ v.horizon + 1 = let e = a.horizon in omega (arith, e, run_within) in
      subst (λ (s : Site). IsAtRest config rows h.way.run.logs w.worked_to until s log) same
      (rests config rows h.way.run.logs n v a.site a.mail (reaches_rise config rows w.worked_to h.way.run.logs h.way.valid h.way.trace.order h.way.run.run n) log w.worked_to until l
      (λ t m x. none n d k t m (work_back v log a.stands w.worked_to bound a.worked_to a.rests t x)))

  -- no packet that was queued is too long
  pub short_logs : (n : ℕ) (site : Site) → site_at config n ≡ Some site → AreShort site (log_at h.way.run.logs n)
  short_logs n site e =
      let (d, k, same) = place_of n site e in
      let v = get_or w.nodes n d in
      let log = log_at h.way.run.logs n in
      subst (λ (s : Site). AreShort s log) same (legal_short v.site v.worked_to log (legal v log (h.kept.nodes n d k).stands))

  -- ## where no node has anything left to do

  module _ (none : All HasNone w.nodes) where
    rest_end : (n : ℕ) (site : Site) → site_at config n ≡ Some site → IsAtRest config rows h.way.run.logs w.worked_to (config.horizon.0 + 1) site (log_at h.way.run.logs n)
    rest_end = rest_by (config.horizon.0 + 1) (omega arith) (λ n d l t k x.
        let a = h.kept.nodes n d l in
        none n d l (log_at h.way.run.logs n) t a.stands (omega (arith, a.horizon, k)) x)

    run_end : IsRunTo config rows (config.horizon.0 + 1) h.way.run.logs
    run_end = run_rests config rows w.worked_to (config.horizon.0 + 1) h.way.run.logs run_within (omega arith) h.way.run.run rest_end

    over : IsOver config rows h.way.run.logs w.worked_to
    over time a b x =
        let at_end : config.horizon.0 + 1 ≤ config.horizon.0 + 1 = omega arith in
        none_before config rows w.worked_to (config.horizon.0 + 1) (config.horizon.0 + 1) h.way.run.logs h.way.run.logs h.way.valid h.way.run.run run_end run_within at_end rest_end time a (omega (arith, b)) x

    pub whole_run : IsWholeRun config rows windows told w.nodes
    whole_run = record {
      logs = h.way.run.logs;
      run = run_end;
      tell = h.way.run.tell;
      events = h.way.run.events;
      all = first_whole config rows h.way.run.logs 0 windows w.worked_to (h.way.run.begins (config.horizon.0 + 1) h.way.run.logs run_within run_end) over;
    }

  -- ## where one has

  module _ (start : Time) (first : IsFirstTime w.nodes (Some start)) where
    worker : IsNodeAt config rows h.way.run.logs w.worked_to first.0.place first.0.node
    worker =
        let s = first.0 in
        subst (λ (v : NodeState). IsNodeAt config rows h.way.run.logs w.worked_to s.place v) (get_or_from_slice_get w.nodes s.place s.node s.node s.is_node)
        (h.kept.nodes s.place s.node (slice_get_within w.nodes s.place s.node s.is_node))

    begins : IsWorkAt first.0.node.site (in_turn first.0.node.inbox) (log_at h.way.run.logs first.0.place) w.worked_to start.0
    begins =
        let s = first.0 in
        let bound : w.worked_to ≤ s.node.horizon + 1 = let e = worker.horizon in omega (arith, e, run_within) in
        work_then s.node (log_at h.way.run.logs s.place) worker.stands w.worked_to bound worker.worked_to worker.rests start.0 (s.work (log_at h.way.run.logs s.place) worker.stands).1

    pub start_later : w.worked_to ≤ start.0
    start_later = begins.0

    pub start_within : start.0 ≤ config.horizon.0
    start_within =
        let s = first.0 in
        let within = (s.work (log_at h.way.run.logs s.place) worker.stands).0 in
        omega (arith, within, worker.horizon)

    pub work_starts : HasWork config rows h.way.run.logs w.worked_to start.0
    work_starts =
        let s = first.0 in
        has_work config rows h.way.run.logs s.place s.node worker.site worker.mail (reaches_rise config rows w.worked_to h.way.run.logs h.way.valid h.way.trace.order h.way.run.run s.place) w.worked_to start.0 begins

    pub rest_start : (n : ℕ) (site : Site) → site_at config n ≡ Some site → IsAtRest config rows h.way.run.logs w.worked_to start.0 site (log_at h.way.run.logs n)
    rest_start = rest_by start.0 (omega (arith, start_within)) (λ n d l t k x.
        let a = h.kept.nodes n d l in
        first.1 n d l (log_at h.way.run.logs n) t a.stands (omega (arith, a.horizon, k, start_within)) k x)

    pub run_start : IsRunTo config rows start.0 h.way.run.logs
    run_start = run_rests config rows w.worked_to start.0 h.way.run.logs start_later (omega (arith, start_within)) h.way.run.run rest_start

    -- times in the window fit their type
    pub start_few : start.0 + w.span ≤ 3000000000000000
    start_few =
        let horizon = h.way.valid.horizon in
        let least = least_few (config.horizon.0 + 1) config.links 1000000000000001 (omega (arith, horizon)) (λ number link e.
        let plan = all_here (IsLinkPlan (length config.nodes)) config.links number link h.way.valid.links e in
        omega (arith, plan.delay.1)) in
        omega (arith, least, h.kept.span, start_within, horizon)

    pub length_some : 1 ≤ window_length config
    length_some = least_some (config.horizon.0 + 1) config.links (omega arith) (are_delayed config h.way.valid)
