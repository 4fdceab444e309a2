-- What reaches a node comes from each source in the order of time.
use Rattle.tva_run.proofs.Common.{◌≡◌, ℕ, zero, suc, ◌≤◌, List, [], ◌∷◌, Bool, true, false, cond, Option, Some, None, refl, arith, inl, inr, ◌==◌, slice_get, option_map_or, AllByRecursion, cases_Bool, LinkPlan, Config, IsConfig, Row, NeverFalls, Input, input_time, Logs, log_at, arrivals, arrivals_at, rows_at, reaches, IsRunTo}
use Rattle.tva_rows.specs.Valid.{NeverFall}
use Rattle.tva_run.proofs.Joins.{filter-true, filter-false, each-weaker}
use Rattle.tva_run.proofs.Rising.{arrivals_of_run}

module _ (node : ℕ) where
  rows_late : (last : ℕ) (rows : List Row) → NeverFall last rows → AllByRecursion (λ i. last ≤ input_time i) (rows_at rows node)
  rows_late last [] h = tt
  rows_late last (row ∷ rows) h =
      let first = h.0 in
      let rest = each-weaker (λ i. row.time.0 ≤ input_time i) (λ i. last ≤ input_time i) (λ i k. omega (arith, k, first)) (rows_at rows node) (rows_late row.time.0 rows h.1) in
      elim (cases_Bool (row.node == node)) [
        | inl a ↦ rw (filter-true (λ (r : Row). r.node == node) row rows a) (first, rest)
        | inr a ↦ rw (filter-false (λ (r : Row). r.node == node) row rows a) rest
      ]

  pub rows_rise : (last : ℕ) (rows : List Row) → NeverFall last rows → NeverFalls input_time (rows_at rows node)
  rows_rise last [] h = tt
  rows_rise last (row ∷ rows) h =
      elim (cases_Bool (row.node == node)) [
        | inl a ↦ rw (filter-true (λ (r : Row). r.node == node) row rows a) (rows_late row.time.0 rows h.1, rows_rise row.time.0 rows h.1)
        | inr a ↦ rw (filter-false (λ (r : Row). r.node == node) row rows a) (rows_rise row.time.0 rows h.1)
      ]

falls_cond : (b : Bool) (is : List Input) → NeverFalls input_time is → NeverFalls input_time (cond b is [])
falls_cond false is h = tt
falls_cond true is h = h

module _ (config : Config) (rows : List Row) (until : ℕ) (logs : Logs) (valid : IsConfig config) (order : NeverFall 0 rows) (run : IsRunTo config rows until logs) where
  on_link : (node number : ℕ) (o : Option LinkPlan) → slice_get config.links number ≡ o → NeverFalls input_time (option_map_or (arrivals_at logs node number) o [])
  on_link node number None h = tt
  on_link node number (Some link) h = falls_cond (link.to == node) (arrivals number link (log_at logs link.from)) (arrivals_of_run config rows until number logs link valid run h)

  pub reaches_rise : (node source : ℕ) → NeverFalls input_time (reaches config rows logs node source)
  reaches_rise node zero = rows_rise node 0 rows order
  reaches_rise node (suc number) = on_link node number (slice_get config.links number) refl
