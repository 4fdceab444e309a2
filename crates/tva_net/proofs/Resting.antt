-- A node that is worked up to a time from which on nothing is to be done up to another: it stands as if worked up to that.
use Rattle.tva_net.proofs.Common.{◌≡◌, ℕ, ◌+◌, ◌<◌, ◌≤◌, List, map, Option, Some, None, refl, sym, subst, ◌∙◌, ap, arith, inl, inr, Contains, nat_lt, option_and_then, cases_lt, lt-ltb, LinkLimits, Input, limits_out, Entry, input_time, IsNodeLog, due, in_turn, IsQuiet, IsWorkAt, next_decision, next_on, port_logs, NodeState, StandsFor, legal, rests_until, contains_filter, contains_passes}
use Rattle.tva_run.proofs.Ports.{next_again, next_late}
use Rattle.tva_node.specs.Work.{IsNoneBefore, work_time}
use Rattle.tva_node.proofs.Finding.{link_valid}
use Rattle.tva_node.proofs.Posts.{work_some}

-- inputs that agree before a time come alike before it
pub comes_early : (until time : ℕ) (xs ys : List Input) → due until xs ≡ due until ys → time < until → Contains (map input_time xs) time → Contains (map input_time ys) time
comes_early until time xs ys e l c =
    let k : Contains (map input_time (due until xs)) time =
    contains_passes input_time (λ i. nat_lt (input_time i) until) time (λ i h. lt-ltb (input_time i) until (omega (arith, h, l))) xs c in
    contains_filter input_time (λ i. nat_lt (input_time i) until) time ys (subst (λ (is : List Input). Contains (map input_time is) time) e k)

module _ (v : NodeState) (log : List Entry) (h : StandsFor v log) (until : ℕ) (within : until ≤ v.horizon + 1) (late : v.worked_to ≤ until)
    (rests : IsQuiet v.site (in_turn v.inbox) log v.worked_to until) where
  none_early : (o : Option ℕ) → work_time v.waiting v.links ≡ o → IsNoneBefore until o
  none_early None e = tt
  none_early (Some t) e = elim (cases_lt t until) [ inl l ↦ absurd (rests t l (work_some v log t h e)) | inr l ↦ l ]

  caught_up : StandsFor (record v { worked_to = until }) log
  caught_up = rests_until v log h until within late (none_early (work_time v.waiting v.links) refl)

  pub log_then : IsNodeLog v.site (in_turn v.inbox) until log
  log_then = caught_up.whole

  next_then : (k : ℕ) (o : Option (ℕ × LinkLimits)) → limits_out v.site k ≡ o
      → option_and_then (λ x. next_decision x.1 (port_logs log k) until) o ≡ option_and_then (λ x. next_decision x.1 (port_logs log k) v.worked_to) o
  next_then k None e = refl
  next_then k (Some x) e =
      let g = legal v log h k x e in
      next_again x.1 (port_logs log k) v.worked_to until (link_valid v.site k x h.site e).0 g.0 g.1 late
      (λ t f. elim (cases_lt t until) [
        | inl l ↦
            let there : next_on v.site log v.worked_to k ≡ Some t = ap (option_and_then (λ y. next_decision y.1 (port_logs log k) v.worked_to)) e ∙ f in
            absurd (rests t l (next_late x.1 (port_logs log k) v.worked_to t f, inr (k, there)))
        | inr l ↦ l
      ])

  next_same : (k : ℕ) → next_on v.site log until k ≡ next_on v.site log v.worked_to k
  next_same k = next_then k (limits_out v.site k) refl

  -- so it has the same work from there on
  pub work_back : (t : ℕ) → IsWorkAt v.site (in_turn v.inbox) log until t → IsWorkAt v.site (in_turn v.inbox) log v.worked_to t
  work_back t w =
      let later = w.0 in (
        omega (arith, later, late),
        elim w.1 [ inl c ↦ inl c | inr d ↦ inr (d.0, sym (next_same d.0) ∙ d.1) ],
      )

  pub work_then : (t : ℕ) → IsWorkAt v.site (in_turn v.inbox) log v.worked_to t → IsWorkAt v.site (in_turn v.inbox) log until t
  work_then t w = (
    elim (cases_lt t until) [ inl l ↦ absurd (rests t l w) | inr l ↦ l ],
    elim w.1 [ inl c ↦ inl c | inr d ↦ inr (d.0, next_same d.0 ∙ d.1) ],
  )
