-- A node of the network: what it was given joins what reaches it.
use Rattle.tva_net.proofs.Common.{◌≡◌, ℕ, ◌+◌, ◌<◌, ◌≤◌, List, [], map, Some, refl, sym, subst, ◌∙◌, ap, arith, inl, inr, ◌==◌, nat_lt, Contains, Config, Row, IsJoin, NeverFalls, from_source, filter_swap, in_order-filter, cut-cut, Input, Entry, input_time, input_source, IsNodeLog, due, in_turn, IsWorkAt, IsNodeLog-same, NodeState, Logs, log_at, site_at, reaches, HasLog, HasWork, IsAtRest, contains_filter, site_number}
use Rattle.tva_run.proofs.Joined.{join-put_all}
use Rattle.tva_net.proofs.Lists.{contains_from, never_falls-filter}

abbrev nothing : ℕ → List Input
nothing source = []

module _ (config : Config) (rows : List Row) (sent : Logs) (place : ℕ) (node : NodeState) (there : site_at config place ≡ Some node.site)
    (mail : (source : ℕ) → from_source input_source source node.inbox ≡ due (config.horizon.0 + 1) (reaches config rows sent place source))
    (rises : (source : ℕ) → NeverFalls input_time (reaches config rows sent place source)) where
  pub joined : IsJoin input_time input_source (λ s. due (config.horizon.0 + 1) (reaches config rows sent place s)) (in_turn node.inbox)
  joined =
      let none : IsJoin input_time input_source nothing [] = record { in_order = tt; each = λ s. refl } in
      let j = join-put_all input_time input_source nothing node.inbox [] none
      (λ s. subst (λ (is : List Input). NeverFalls input_time is) (sym (mail s)) (never_falls-filter input_time (λ i. nat_lt (input_time i) (config.horizon.0 + 1)) (reaches config rows sent place s) (rises s))) in
      record { in_order = j.in_order; each = λ s. j.each s ∙ mail s }

  pub joined_to : (t : ℕ) → t ≤ config.horizon.0 + 1 → IsJoin input_time input_source (λ s. due t (reaches config rows sent node.site.number s)) (due t (in_turn node.inbox))
  joined_to t l = record {
    in_order = in_order-filter input_time input_source (λ i. nat_lt (input_time i) t) (in_turn node.inbox) joined.in_order;
    each = λ s.
        filter_swap (λ i. input_source i == s) (λ i. nat_lt (input_time i) t) (in_turn node.inbox)
        ∙ (ap (due t) (joined.each s)
        ∙ (cut-cut input_time input_source t (config.horizon.0 + 1) (reaches config rows sent place s) l
        ∙ ap (λ (n : ℕ). due t (reaches config rows sent n s)) (sym (site_number config place node.site there))));
  }

  -- where it has nothing to do up to a time, it is at rest
  pub rests : (log : List Entry) (from until : ℕ) → until ≤ config.horizon.0 + 1
      → ((t : ℕ) → t < until → IsWorkAt node.site (in_turn node.inbox) log from t → ⊥) → IsAtRest config rows sent from until node.site log
  rests log from until l none = record {
    inputs = due until (in_turn node.inbox);
    join = joined_to until l;
    quiet = λ t k w. none t k (
      w.0,
      elim w.1 [
        | inl c ↦ inl (contains_filter input_time (λ i. nat_lt (input_time i) until) t (in_turn node.inbox) c)
        | inr d ↦ inr d
      ],
    );
  }

  -- a log over what it was given is its log where so much was sent
  pub has_log : (log : List Entry) (until : ℕ) → until ≤ config.horizon.0 + 1 → IsNodeLog node.site (in_turn node.inbox) until log → HasLog config rows sent until node.site log
  has_log log until l h = record {
    inputs = due until (in_turn node.inbox);
    join = joined_to until l;
    is_log = IsNodeLog-same node.site (in_turn node.inbox) (due until (in_turn node.inbox)) until log (sym (cut-cut input_time input_source until until (in_turn node.inbox) (omega arith))) h;
  }

  -- where it has something to do, the network has
  pub has_work : (from time : ℕ) → IsWorkAt node.site (in_turn node.inbox) (log_at sent place) from time → HasWork config rows sent from time
  has_work from time w =
      elim w.1 [
        | inl c ↦
            let (source, d) = contains_from input_time input_source time (in_turn node.inbox) c in
            let e : Contains (map input_time (due (config.horizon.0 + 1) (reaches config rows sent place source))) time = subst (λ (is : List Input). Contains (map input_time is) time) (joined.each source) d in
            record {
              node = place;
              site = node.site;
              is_node = there;
              source = source;
              work = (w.0, inl (contains_filter input_time (λ i. nat_lt (input_time i) (config.horizon.0 + 1)) time (reaches config rows sent place source) e));
            }
        | inr d ↦ record { node = place; site = node.site; is_node = there; source = 0; work = (w.0, inr d) }
      ]
