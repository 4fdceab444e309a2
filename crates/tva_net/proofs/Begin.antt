-- What a network stands for before its first window.
use Rattle.tva_net.proofs.Common.{◌≡◌, ℕ, zero, suc, ◌+◌, ◌<◌, List, [], ◌∷◌, length, get_or, map, filter, Bool, true, false, cond, Option, Some, None, All, refl, sym, subst, ◌∙◌, ap, arith, ◌==◌, slice_get, option_map_or, AllByRecursion, eq-eqb, ne_eqb, length-map, All-head, All-tail, Totals, LinkPlan, Config, IsConfig, Row, AreTraceRows, IsRow, from_source, cut-early, cut-zero, each-filter, each-weaker, filter-all, filter-none, Input, FromTrace, Site, Entry, input_time, input_source, entry_time, due, events, NodeState, StandsFor, Logs, log_at, arrivals, arrivals_at, reaches, rows_at, site_at, AreEvents, totals_of, HasLog, IsRunTo, window_length, AreFirstNodes, IsNodeAt, WorksFor, HasGiven, each-map}
use Rattle.tva_net.proofs.Standing.{tell_of}

-- ## logs with nothing in them

abbrev pub no_entries : NodeState → List Entry
no_entries v = []

abbrev pub no_logs : List NodeState → Logs
no_logs nodes = map no_entries nodes

no_log : (nodes : List NodeState) (n : ℕ) → log_at (no_logs nodes) n ≡ []
no_log [] n = refl
no_log (v ∷ vs) zero = refl
no_log (v ∷ vs) (suc n) = no_log vs n

none_early : (until : ℕ) (es : List Entry) → until ≡ 0 → AllByRecursion (λ e. entry_time e < until) es → es ≡ []
none_early until [] z h = refl
none_early until (e ∷ es) z h = absurd (omega (arith, z, h.0))

cond_same : (b : Bool) → cond b (let is : List Input = [] in is) [] ≡ []
cond_same true = refl
cond_same false = refl

-- ## rows

rows_source : (rs : List Row) → AllByRecursion (λ i. input_source i ≡ 0) (map FromTrace rs)
rows_source [] = tt
rows_source (r ∷ rs) = (refl, rows_source rs)

rows_early : (config : Config) (rows : List Row) → All (IsRow config) rows → AllByRecursion (λ (r : Row). r.time.0 < config.horizon.0 + 1) rows
rows_early config [] h = tt
rows_early config (r ∷ rs) h =
    let row = All-head (IsRow config) r rs h in
    (omega (arith, row.time), rows_early config rs (All-tail (IsRow config) r rs h))

module _ (config : Config) (rows : List Row) (nodes : List NodeState) (valid : IsConfig config) (trace : AreTraceRows config rows) (first : AreFirstNodes config rows nodes) where
  abbrev logs : Logs
  logs = no_logs nodes

  rows_due : (n : ℕ) → due (config.horizon.0 + 1) (rows_at rows n) ≡ rows_at rows n
  rows_due n =
      let rs = filter (λ (row : Row). row.node == n) rows in
      cut-early input_time input_source (config.horizon.0 + 1) (rows_at rows n)
      (each-map FromTrace (λ i. input_time i < config.horizon.0 + 1) rs
      (each-filter (λ (r : Row). r.time.0 < config.horizon.0 + 1) (λ row. row.node == n) rows (rows_early config rows trace.each)))

  no_arrivals : (n k : ℕ) (o : Option LinkPlan) → option_map_or (arrivals_at logs n k) o [] ≡ []
  no_arrivals n k None = refl
  no_arrivals n k (Some link) =
      ap (λ (es : List Entry). cond (link.to == n) (arrivals k link es) []) (no_log nodes link.from) ∙ cond_same (link.to == n)

  reached : (n source : ℕ) → from_source input_source source (rows_at rows n) ≡ due (config.horizon.0 + 1) (reaches config rows logs n source)
  reached n zero =
      filter-all (λ i. input_source i == 0) (rows_at rows n)
      (each-weaker (λ i. input_source i ≡ 0) (λ i. (input_source i == 0) ≡ true) (λ i e. eq-eqb (input_source i) 0 e) (rows_at rows n) (rows_source (filter (λ row. row.node == n) rows)))
      ∙ sym (rows_due n)
  reached n (suc k) =
      filter-none (λ i. input_source i == suc k) (rows_at rows n)
      (each-weaker (λ i. input_source i ≡ 0) (λ i. (input_source i == suc k) ≡ false) (λ i e. ne_eqb (input_source i) (suc k) (λ f. omega (arith, e, f))) (rows_at rows n) (rows_source (filter (λ row. row.node == n) rows)))
      ∙ sym (ap (due (config.horizon.0 + 1)) (no_arrivals n k (slice_get config.links k)))

  nothing_run : IsRunTo config rows 0 logs
  nothing_run = record {
    within = omega arith;
    count = length-map nodes no_entries ∙ first.count;
    each = λ n site e. subst (λ (es : List Entry). HasLog config rows logs 0 site es) (sym (no_log nodes n)) (record {
      inputs = [];
      join = record { in_order = tt; each = λ s. sym (cut-zero input_time input_source (reaches config rows logs site.number s)) };
      is_log = record { in_order = tt; early = tt; steps = tt; none_left = λ time link l. absurd (omega (arith, l)) };
    });
  }

  first_at : (n : ℕ) (d : NodeState) → n < length nodes → IsNodeAt config rows logs 0 n (get_or nodes n d)
  first_at n d l =
      let v = get_or nodes n d in
      let f = first.each n d l in
      let (log, s) = f.stands in
      let none : log ≡ [] = none_early v.worked_to log f.nothing.2 s.whole.early in
      record {
        site = f.site;
        horizon = f.horizon;
        worked_to = let from = f.nothing.2 in omega (arith, from);
        stands = subst (StandsFor v) (none ∙ sym (no_log nodes n)) s;
        rests = λ t k w. absurd (omega (arith, k));
        mail = λ source. ap (from_source input_source source) f.inbox ∙ reached n source;
      }

  no_events : (n : ℕ) (o : Option Site) → option_map_or (λ site. events site (log_at logs n)) o [] ≡ []
  no_events n None = refl
  no_events n (Some site) = ap (events site) (no_log nodes n)

  nothing_told : AreEvents config logs []
  nothing_told = record { in_order = tt; each = λ n. sym (no_events n (site_at config n)) }

  pub begins : (horizon span : ℕ) (links : List LinkPlan) → horizon ≡ config.horizon.0 → links ≡ config.links → span ≡ window_length config
      → WorksFor config rows [] [] (record { horizon = horizon; links = links; span = span; nodes = nodes; worked_to = 0 })
  begins horizon span links horizon_is links_are span_is = record {
    way = record {
      valid = valid;
      trace = trace;
      sites = λ n d l. (first_at n d l).site;
      run = record {
        logs = logs;
        run = nothing_run;
        tell = tell_of config rows logs 0 nodes first.count first_at;
        events = nothing_told;
        begins = λ later longer l run. refl;
      };
      held = refl;
    };
    kept = record {
      horizon = horizon_is;
      links = links_are;
      span = span_is;
      count = first.count;
      nodes = first_at;
      news = λ n d l. (first.each n d l).news;
    };
  }

pub nothing_given : (config : Config) (totals : Totals) → totals ≡ record { events = 0; routed = 0; authorised = 0; demoted = 0; dropped = 0; started = 0; received = 0; bytes = 0 } → HasGiven config [] config.max_events totals
unfolding totals_of
nothing_given config totals e = rw e (record {
  most = refl;
  few = omega arith;
  sums = refl;
  within = record { routed = omega arith; authorised = omega arith; demoted = omega arith; dropped = omega arith; started = omega arith; received = omega arith; bytes = omega arith };
})
