-- A network has at most one run up to a time: by induction over that time, since what arrives before the next time was sent
-- before it. And a run before an earlier time is the run up to that.
use Rattle.tva_run.proofs.Common.{nat_tests, ◌≡◌, ℕ, zero, suc, ◌+◌, ◌≤◌, List, [], ◌∷◌, length, Bool, true, false, cond, Option, Some, None, refl, sym, subst, ◌∙◌, ap, arith, inl, inr, nat_lt, ◌==◌, slice_get, option_map, option_map_or, cons_option, ext_get_or, get_or_past, length-map, slice_get_cases, LinkPlan, Config, NodePlan, IsConfig, IsLinkPlan, all_here, Row, from_source, IsJoin, cut, Input, Site, site_of, Entry, input_time, input_source, entry_time, entry_rank, due, Logs, log_at, links_out, site_at, arrival_of, arrivals, arrivals_at, reaches, IsRunTo, logs_before}
use Rattle.tva_run.proofs.Joins.{filter-true, filter-false, filter_swap, in_order-filter, join_unique, cut-zero, cut-cut}
use Rattle.tva_run.proofs.Logs.{IsNodeLog-cut, IsNodeLog-same, IsNodeLog-unique, cut_same}

-- ## what arrives

due_cons : (until : ℕ) (o : Option Input) (xs ys : List Input) → due until xs ≡ due until ys → due until (cons_option o xs) ≡ due until (cons_option o ys)
due_cons until None xs ys h = h
due_cons until (Some i) xs ys h = ap (λ (zs : List Input). cond (nat_lt (input_time i) until) (i ∷ zs) zs) h

due_cond : (until : ℕ) (b : Bool) (xs ys : List Input) → due until xs ≡ due until ys → due until (cond b xs []) ≡ due until (cond b ys [])
due_cond until false xs ys h = refl
due_cond until true xs ys h = h

module _ (number : ℕ) (link : LinkPlan) where
  due_late : (t until : ℕ) (e : Entry) (o : Option Input) (xs : List Input) → until ≤ t + link.delay → arrival_of number link e ≡ o → t ≤ entry_time e → due until (cons_option o xs) ≡ due until xs
  due_late t until e v0 xs d h l = grind (arith, nat_tests)

  -- what arrives before a time was sent before the time that is the link's delay earlier
  pub arrivals-cut : (t until : ℕ) (log : List Entry) → until ≤ t + link.delay → due until (arrivals number link log) ≡ due until (arrivals number link (cut entry_time t log))
  arrivals-cut t until [] d = refl
  arrivals-cut t until (e ∷ es) d = grind (arith, nat_tests, filter-true, due_cons, filter-false, due_late, (arrivals-cut t until es d))

-- ## what reaches a node

pub are_delayed : (config : Config) → IsConfig config → (number : ℕ) (link : LinkPlan) → slice_get config.links number ≡ Some link → 1 ≤ link.delay
are_delayed config valid number link here = (all_here (IsLinkPlan (length config.nodes)) config.links number link valid.links here).delay.0

module _ (config : Config) (rows : List Row) (t until node : ℕ) (far : (number : ℕ) (link : LinkPlan) → slice_get config.links number ≡ Some link → until ≤ t + link.delay) (a b : Logs) (same : (m : ℕ) → cut entry_time t (log_at a m) ≡ cut entry_time t (log_at b m)) where
  arrivals_same : (number : ℕ) (o : Option LinkPlan) → slice_get config.links number ≡ o → due until (option_map_or (arrivals_at a node number) o []) ≡ due until (option_map_or (arrivals_at b node number) o [])
  arrivals_same number None h = refl
  arrivals_same number (Some link) h =
      let d = far number link h in
      due_cond until (link.to == node) (arrivals number link (log_at a link.from)) (arrivals number link (log_at b link.from))
      (arrivals-cut number link t until (log_at a link.from) d
      ∙ (ap (λ (log : List Entry). due until (arrivals number link log)) (same link.from)
      ∙ sym (arrivals-cut number link t until (log_at b link.from) d)))

  -- where logs agree before a time, the same reaches a node up to any time that is no further than each delay
  pub reaches_same : (source : ℕ) → due until (reaches config rows a node source) ≡ due until (reaches config rows b node source)
  reaches_same zero = refl
  reaches_same (suc number) = arrivals_same number (slice_get config.links number) refl

-- what holds of no log, and of that of each node, holds at each number
pub at_nodes : (config : Config) (rows : List Row) (until : ℕ) (logs : Logs) → IsRunTo config rows until logs → (Q : List Entry → Type 0) → Q []
    → ((node : ℕ) (site : Site) → site_at config node ≡ Some site → Q (log_at logs node)) → (node : ℕ) → Q (log_at logs node)
at_nodes config rows until logs run Q none some node = elim (slice_get_cases config.nodes node).1 [
  | inl in' ↦
      some node (site_of node in'.0 (links_out node config.links))
      (ap (option_map (λ (p : NodePlan). site_of node p (links_out node config.links))) in'.2)
  | inr past ↦
      let c = run.count in
      let p = past.0 in
      let nothing : log_at logs node ≡ [] = get_or_past logs node [] (omega arith) in
      subst Q (sym nothing) none
]

-- ## at most one run

pub source_due : (config : Config) (rows : List Row) (until t : ℕ) (logs : Logs) (node source : ℕ) (inputs : List Input) → t ≤ until
    → IsJoin input_time input_source (λ s. due until (reaches config rows logs node s)) inputs → from_source input_source source (due t inputs) ≡ due t (reaches config rows logs node source)
source_due config rows until t logs node source inputs l j = grind (arith, nat_tests, filter_swap, cut-cut, reaches)

-- inputs of what reaches a node in two ways that agree up to a time agree before it
pub inputs_same : (config : Config) (rows : List Row) (t u v : ℕ) (a b : Logs) (node : ℕ) (is js : List Input) → t ≤ u → t ≤ v
    → IsJoin input_time input_source (λ s. due u (reaches config rows a node s)) is → IsJoin input_time input_source (λ s. due v (reaches config rows b node s)) js
    → ((s : ℕ) → due t (reaches config rows a node s) ≡ due t (reaches config rows b node s)) → due t is ≡ due t js
inputs_same config rows t u v a b node is js l m j k e =
    join_unique input_time input_source (due t is) (due t js)
    (in_order-filter input_time input_source (λ i. nat_lt (input_time i) t) is j.in_order) (in_order-filter input_time input_source (λ i. nat_lt (input_time i) t) js k.in_order)
    (λ s. source_due config rows u t a node s is l j ∙ (e s ∙ sym (source_due config rows v t b node s js m k)))

module _ (config : Config) (rows : List Row) (until : ℕ) (a b : Logs) (delayed : (number : ℕ) (link : LinkPlan) → slice_get config.links number ≡ Some link → 1 ≤ link.delay) (ra : IsRunTo config rows until a) (rb : IsRunTo config rows until b) where
  at_site : (t : ℕ) → suc t ≤ until → ((m : ℕ) → cut entry_time t (log_at a m) ≡ cut entry_time t (log_at b m)) → (node : ℕ) (plan : NodePlan) → slice_get config.nodes node ≡ Some plan → cut entry_time (suc t) (log_at a node) ≡ cut entry_time (suc t) (log_at b node)
  at_site t l h node plan here =
      let site : Site = site_of node plan (links_out node config.links) in
      let there : site_at config node ≡ Some site = ap (option_map (λ (p : NodePlan). site_of node p (links_out node config.links))) here in
      let la = ra.each node site there in
      let lb = rb.each node site there in
      let same = inputs_same config rows (suc t) until until a b node la.inputs lb.inputs l l la.join lb.join
      (λ s. reaches_same config rows t (suc t) node (λ k link at. let d = delayed k link at in omega arith) a b h s) in
      IsNodeLog-unique site (suc t) la.inputs lb.inputs (cut entry_time (suc t) (log_at a node)) (cut entry_time (suc t) (log_at b node)) same
      (IsNodeLog-cut site la.inputs (suc t) until (log_at a node) la.join.in_order l la.is_log)
      (IsNodeLog-cut site lb.inputs (suc t) until (log_at b node) lb.join.in_order l lb.is_log)

  step : (t : ℕ) → suc t ≤ until → ((m : ℕ) → cut entry_time t (log_at a m) ≡ cut entry_time t (log_at b m)) → (node : ℕ) → cut entry_time (suc t) (log_at a node) ≡ cut entry_time (suc t) (log_at b node)
  step t l h node =
      elim (slice_get_cases config.nodes node).1 [
        | inl in' ↦ at_site t l h node in'.0 in'.2
        | inr past ↦
            let ca = ra.count in
            let cb = rb.count in
            let p = past.0 in
            ap (cut entry_time (suc t)) (get_or_past a node [] (omega arith) ∙ sym (get_or_past b node [] (omega arith)))
      ]

  agree : (t : ℕ) → t ≤ until → (node : ℕ) → cut entry_time t (log_at a node) ≡ cut entry_time t (log_at b node)
  agree zero l node = cut-zero entry_time entry_rank (log_at a node) ∙ sym (cut-zero entry_time entry_rank (log_at b node))
  agree (suc t) l node = step t l (agree t (omega arith)) node

  -- a run has nothing at its end or later
  ends : (logs : Logs) → IsRunTo config rows until logs → (node : ℕ) → cut entry_time until (log_at logs node) ≡ log_at logs node
  ends logs r node =
      at_nodes config rows until logs r (λ (log : List Entry). cut entry_time until log ≡ log) refl
      (λ n site there. let h = r.each n site there in cut_same site h.inputs until (log_at logs n) h.is_log) node

  pub one_run_is : a ≡ b
  one_run_is =
      let ca = ra.count in
      let cb = rb.count in
      ext_get_or [] a b (omega arith) (λ node l. sym (ends a ra node) ∙ (agree until (omega arith) node ∙ ends b rb node))

-- ## before an earlier time

pub log_at-before : (t : ℕ) (logs : Logs) (node : ℕ) → log_at (logs_before t logs) node ≡ cut entry_time t (log_at logs node)
log_at-before t (log ∷ logs) (suc node) = log_at-before t logs node
log_at-before t _ node = refl

module _ (config : Config) (rows : List Row) (delayed : (number : ℕ) (link : LinkPlan) → slice_get config.links number ≡ Some link → 1 ≤ link.delay) where
  -- what reaches a node before a time was sent before it
  pub reaches_early : (t node source : ℕ) (logs : Logs) → due t (reaches config rows logs node source) ≡ due t (reaches config rows (logs_before t logs) node source)
  reaches_early zero node source logs = cut-zero input_time input_source (reaches config rows logs node source) ∙ sym (cut-zero input_time input_source (reaches config rows (logs_before 0 logs) node source))
  reaches_early (suc t) node source logs =
      reaches_same config rows t (suc t) node (λ k link at. let d = delayed k link at in omega arith) logs (logs_before (suc t) logs)
      (λ m. sym (ap (cut entry_time t) (log_at-before (suc t) logs m) ∙ cut-cut entry_time entry_rank t (suc t) (log_at logs m) (omega arith))) source

  pub IsRunTo-cut : (t until : ℕ) (logs : Logs) → t ≤ until → IsRunTo config rows until logs → IsRunTo config rows t (logs_before t logs)
  IsRunTo-cut t until logs l r = record {
    within = let w = r.within in omega arith;
    count = length-map logs (cut entry_time t) ∙ r.count;
    each = λ node site there.
        let h = r.each node site there in
        let before = IsNodeLog-cut site h.inputs t until (log_at logs node) h.join.in_order l h.is_log in
        record {
          inputs = due t h.inputs;
          join = record {
            in_order = in_order-filter input_time input_source (λ i. nat_lt (input_time i) t) h.inputs h.join.in_order;
            each = λ s. source_due config rows until t logs site.number s h.inputs l h.join ∙ reaches_early t site.number s logs;
          };
          is_log = rw (log_at-before t logs node)
              (IsNodeLog-same site h.inputs (due t h.inputs) t (cut entry_time t (log_at logs node)) (sym (cut-cut input_time input_source t t h.inputs (omega arith))) before);
        };
  }
