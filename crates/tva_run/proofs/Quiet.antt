-- Where nothing is to be done at a node, its log stays as it is.
use Rattle.tva_run.proofs.Common.{◌≡◌, ℕ, suc, ◌<◌, ◌≤◌, List, [], ◌∷◌, Option, Some, None, refl, sym, subst, ap, arith, inl, inr, map, nat_lt, Contains, option_and_then, Contains-append_left, Contains-append_right, Contains-get_or, lt-ltb, le-ltb, cases_lt, LinkLimits, NoneLater, Input, Site, limits_out, Entry, input_time, entry_time, entry_rank, port_logs, starts, start_after, due, GoesOn, IsNodeLog, next_decision, next_on, IsQuiet}
use Rattle.tva_run.proofs.Joins.{filter-true, filter-false, each-weaker, cut-early}
use Rattle.tva_run.proofs.Legal.{none_later}
use Rattle.tva_run.proofs.Ports.{quiet_starts_none, next_late, none_decides}

-- inputs none of which comes in between
pub due_same : (from until : ℕ) (inputs : List Input) → from ≤ until → ((t : ℕ) → from ≤ t → t < until → Contains (map input_time inputs) t → ⊥) → due until inputs ≡ due from inputs
due_same from until [] l h = refl
due_same from until (i ∷ is) l h =
    let rest : due until is ≡ due from is = due_same from until is l (λ t a b c. h t a b (Contains-append_right (input_time i ∷ []) (map input_time is) t c)) in
    elim (cases_lt (input_time i) from) [
      | inl a ↦ rw (filter-true (λ x. nat_lt (input_time x) until) i is (lt-ltb (input_time i) until (omega arith)), filter-true (λ x. nat_lt (input_time x) from) i is (lt-ltb (input_time i) from a)) (ap (λ (ys : List Input). i ∷ ys) rest)
      | inr a ↦ elim (cases_lt (input_time i) until) [
        | inl b ↦ absurd (h (input_time i) a b (Contains-append_left (input_time i ∷ []) (map input_time is) (input_time i) (Contains-get_or (input_time i ∷ []) 0 0 (omega arith))))
        | inr b ↦ rw (filter-false (λ x. nat_lt (input_time x) until) i is (le-ltb (input_time i) until b), filter-false (λ x. nat_lt (input_time x) from) i is (le-ltb (input_time i) from a)) rest
      ]
    ]

module _ (site : Site) where
  -- nothing happens up to a later time
  pub passes : (inputs : List Input) (t u : ℕ) (log : List Entry) → t ≤ u → due u inputs ≡ due t inputs → ((v k : ℕ) → t ≤ v → v < u → starts site log k v ≡ None) → IsNodeLog site inputs t log → IsNodeLog site inputs u log
  passes inputs t u log l e quiet h = record {
    in_order = h.in_order;
    early = each-weaker (λ y. entry_time y < t) (λ y. entry_time y < u) (λ y k. omega arith) log h.early;
    steps = subst (λ (is : List Input). GoesOn site [] is log) (sym e) h.steps;
    none_left = λ v k a.
        elim (cases_lt v t) [
          | inl c ↦ h.none_left v k c
          | inr c ↦
              rw (cut-early entry_time entry_rank (suc v) log (each-weaker (λ y. entry_time y < t) (λ y. entry_time y < suc v) (λ y i. omega arith) log h.early)) (quiet v k c a)
        ];
  }

  none_on : (log : List Entry) (from until v link : ℕ) (o : Option (ℕ × LinkLimits)) → NoneLater from (port_logs log link) → from ≤ v → v < until
      → ((t : ℕ) → t < until → option_and_then (λ x. next_decision x.1 (port_logs log link) from) o ≡ Some t → ⊥)
      → option_and_then (λ x. start_after x.1 (port_logs log link) v) o ≡ None
  none_on log from until v link None n h k q = refl
  none_on log from until v link (Some x) n h k q =
      quiet_starts_none x.1 (port_logs log link) from v n h
      (λ t e. elim (cases_lt v t) [ inl c ↦ c | inr c ↦ absurd (q t (omega arith) e) ])

  pub late_on : (log : List Entry) (from t link : ℕ) (o : Option (ℕ × LinkLimits)) → option_and_then (λ x. next_decision x.1 (port_logs log link) from) o ≡ Some t → from ≤ t
  late_on log from t link None e = absurd (cc)
  late_on log from t link (Some x) e = next_late x.1 (port_logs log link) from t e

  -- where nothing is to be done, a log is also the log up to then
  pub quiet_log : (inputs : List Input) (from until : ℕ) (log : List Entry) → from ≤ until → IsQuiet site inputs log from until → IsNodeLog site inputs from log → IsNodeLog site inputs until log
  quiet_log inputs from until log l q h =
      passes inputs from until log l
      (due_same from until inputs l (λ t b c d. q t c (b, inl d)))
      (λ v link b c. none_on log from until v link (limits_out site link) (none_later site inputs from log link h) b c
      (λ t d e. q t d (late_on log from t link (limits_out site link) e, inr (link, e))))
      h

  decides_on : (log : List Entry) (from t link : ℕ) (o : Option (ℕ × LinkLimits)) → NoneLater from (port_logs log link) → from ≤ t
      → ((u : ℕ) → option_and_then (λ x. next_decision x.1 (port_logs log link) from) o ≡ Some u → t < u)
      → option_and_then (λ x. next_decision x.1 (port_logs log link) t) o ≡ Some t → ⊥
  decides_on log from t link None n h k e = absurd (cc)
  decides_on log from t link (Some x) n h k e = none_decides x.1 (port_logs log link) from t n h k e

  -- and no link decides by itself before then
  pub quiet_decides_none : (inputs : List Input) (from until t link : ℕ) (log : List Entry) → from ≤ t → t < until → IsQuiet site inputs log from until → IsNodeLog site inputs from log
      → next_on site log t link ≡ Some t → ⊥
  quiet_decides_none inputs from until t link log a b q h e =
      decides_on log from t link (limits_out site link) (none_later site inputs from log link h) a
      (λ u d. elim (cases_lt t u) [
        | inl c ↦ c
        | inr c ↦ absurd (q u (omega arith) (late_on log from u link (limits_out site link) d, inr (link, d)))
      ])
      e
