-- A node's log up to a time goes on to the next: the node takes the inputs of that time, and each link decides.
use Rattle.tva_laws.proofs.Common.{◌≡◌, ℕ, zero, suc, ◌+◌, ◌<◌, ◌≤◌, List, [], ◌∷◌, ◌++◌, Option, Some, None, refl, sym, subst, ap, ◌∙◌, append-nil, append_assoc, arith, ◌==◌, nat_lt, option_map, option_and_then, AllByRecursion, find, cond-false, eq-eqb, ne_eqb, filter_map-append, LinkLimits, Class, PacketId, LinkPlan, RouterPlan, PacketData, made_packet, occupies, NodePlan, Router, Host, RowWhat, Send, Inject, File, Tick, IsInOrder, cut-cut, each-cut, each-filter, in_order-filter, each-both, Input, FromTrace, Arrival, Site, IsSite, limits_out, Content, Entry, Took, Started, input_time, input_source, port_logs, arrived, content, content_by, hosted, next_id, packet_of_row, IsNodeLog, due, start_after, starts, limits_valid, nat_tests}
use Rattle.tva_port.proofs.Logs.{free-started}
use Rattle.tva_run.specs.AtTime.{IsAt}
use Rattle.tva_run.proofs.Ports.{busy_starts_none}
use Rattle.tva_run.proofs.Steps.{begins, ends, rest_late, rests, starts_one, takes}
use Rattle.tva_run.proofs.Reports.{begins_cut}
use Rattle.tva_laws.proofs.Charges.{each-behind}

-- ## inputs

-- a row that injects a packet
abbrev pub IsInjected : RowWhat → Type 0
IsInjected (Send dst payload) = ⊥
IsInjected (Inject flow payload carried) = Unit {0}
IsInjected (File dst size segment) = ⊥
IsInjected (Tick dst) = ⊥

-- an input that a node can take: a row that isn't a packet of its own is for a host
abbrev pub IsTakable : NodePlan → Input → Type 0
IsTakable (Router plan) (FromTrace row) = IsInjected row.what
IsTakable (Router plan) (Arrival time link packet) = Unit {0}
IsTakable (Host plan) input = Unit {0}

row_content : (plan : RouterPlan) (before : List Entry) (now : ℕ) (id : PacketId) (what : RowWhat) → IsInjected what
    → (c : Content) × (option_map (arrived plan before now None) (packet_of_row id what) ≡ Some c)
row_content plan before now id (Send dst payload) t = absurd t
row_content plan before now id (File dst size segment) t = absurd t
row_content plan before now id (Tick dst) t = absurd t
row_content plan before now id (Inject flow payload carried) t =
    (arrived plan before now None (made_packet id flow payload carried), refl)

content_of_plan : (site : Site) (plan : NodePlan) (before : List Entry) (i : Input) → IsTakable plan i
    → (c : Content) × (content_by site plan before i ≡ Some c)
content_of_plan site (Router plan) before (FromTrace row) t = row_content plan before row.time.0 (next_id site.number before) row.what t
content_of_plan site (Router plan) before (Arrival time link packet) t = (arrived plan before time.0 (Some link) packet, refl)
content_of_plan site (Host plan) before i t = (hosted site plan before i, refl)

-- a node makes something of each such input
content_of : (site : Site) (before : List Entry) (i : Input) → IsTakable site.plan i → (c : Content) × (content site before i ≡ Some c)
content_of site before i t = content_of_plan site site.plan before i t

module _ (site : Site) where
  take_each : (t : ℕ) (new taken : List Input) (log : List Entry)
      → AllByRecursion (λ i. (input_time i ≡ t) × IsTakable site.plan i) new → IsAt site t 0 taken log
      → (longer : List Entry) × IsAt site t 0 (taken ++ new) longer
  take_each t [] taken log a h = (log, subst (λ (is : List Input). IsAt site t 0 is log) (sym (append-nil taken)) h)
  take_each t (i ∷ is) taken log a h =
      let made = content_of site log i a.0.1 in
      grind (arith, nat_tests, takes, append_assoc, take_each t is (taken ++ i ∷ []) (log ++ Took i made.0 ∷ []) a.1 (takes site t taken log i made.0 a.0.0 made.1 h))

-- ## links

module _ (site : Site) (valid : IsSite site) where
  busy_by : (t l : ℕ) (c : Class) (p : PacketData) (log : List Entry) (o : Option (ℕ × LinkLimits)) → limits_out site l ≡ o
      → option_and_then (λ (x : ℕ × LinkLimits). start_after x.1 (port_logs (log ++ Started t l c p ∷ []) l) t) o ≡ None
  busy_by t l c p log o e = grind (arith, nat_tests, free-started, busy_starts_none, occupies, limits_valid, eq-eqb, filter_map-append)

  -- a packet that starts keeps its link busy
  busy : (t l : ℕ) (c : Class) (p : PacketData) (log : List Entry) → starts site (log ++ Started t l c p ∷ []) l t ≡ None
  busy t l c p log = busy_by t l c p log (limits_out site l) refl

  decide_by : (t l : ℕ) (taken : List Input) (log : List Entry) (o : Option (Class × PacketData)) → starts site log l t ≡ o
      → IsAt site t l taken log
      → (longer : List Entry) × IsAt site t (suc l) taken longer
  decide_by t l taken log None e h = grind (arith, nat_tests, rests)
  decide_by t l taken log (Some x) e h = grind (arith, nat_tests, starts_one site t l x.0 x.1 taken log e (busy t l x.0 x.1 log) h, busy t l x.0 x.1 log)

  -- the links below a number decide
  decide_to : (n t : ℕ) (taken : List Input) (log : List Entry) → IsAt site t 0 taken log
      → (longer : List Entry) × IsAt site t n taken longer
  decide_to zero t taken log h = (log, h)
  decide_to (suc n) t taken log h =
      let before = decide_to n t taken log h in
      decide_by t n taken before.0 (starts site before.0 n t) refl before.1

-- from some number on there is no link
above : (os : List (ℕ × LinkPlan)) → (bound : ℕ) × ((k : ℕ) → bound ≤ k → find (λ (o : ℕ × LinkPlan). o.0 == k) os ≡ None)
above [] = (0, λ k l. refl)
above (o ∷ os) =
    let rest = above os in (
      o.0 + 1 + rest.0,
      λ k l.
          cond-false (o.0 == k) (Some o) (find (λ (x : ℕ × LinkPlan). x.0 == k) os) (ne_eqb o.0 k (λ e. omega (arith, l, e)))
          ∙ rest.1 k (omega (arith, l)),
    )

abbrev limited : ℕ × LinkPlan → ℕ × LinkLimits
limited o = (o.0, o.1.limits)

none_above : (site : Site) (log : List Entry) (t k : ℕ) → find (λ (o : ℕ × LinkPlan). o.0 == k) site.links ≡ None
    → starts site log k t ≡ None
none_above site log t k e = search

-- ## the next time

pub next_log : (site : Site) (inputs : List Input) (t : ℕ) (log : List Entry) → IsSite site → IsInOrder input_time input_source inputs
    → AllByRecursion (IsTakable site.plan) inputs
    → IsNodeLog site inputs t log → (longer : List Entry) × IsNodeLog site inputs (suc t) longer
next_log site inputs t log valid order takable h =
    let all : List Input = due (suc t) inputs in
    let (new, split) = begins_cut input_time input_source t all (in_order-filter input_time input_source (λ i. nat_lt (input_time i) (suc t)) inputs order) in
    let before : due t all ≡ due t inputs = cut-cut input_time input_source t (suc t) inputs (omega arith) in
    let late : AllByRecursion (λ i. t ≤ input_time i) new = rest_late t all new split in
    let early : AllByRecursion (λ i. input_time i < suc t) new = each-behind (λ i. input_time i < suc t) (due t all) new (subst (AllByRecursion (λ i. input_time i < suc t)) split (each-cut input_time input_source (suc t) inputs)) in
    let can : AllByRecursion (IsTakable site.plan) new = each-behind (IsTakable site.plan) (due t all) new
    (subst (AllByRecursion (IsTakable site.plan)) split (each-filter (IsTakable site.plan) (λ i. nat_lt (input_time i) (suc t)) inputs takable)) in
    let now : AllByRecursion (λ i. input_time i ≡ t) new =
    each-both (λ i. t ≤ input_time i) (λ i. input_time i < suc t) (λ i. input_time i ≡ t) (λ i a b. omega (arith, a, b)) new late early in
    let each : AllByRecursion (λ i. (input_time i ≡ t) × IsTakable site.plan i) new =
    each-both (λ i. input_time i ≡ t) (IsTakable site.plan) (λ i. (input_time i ≡ t) × IsTakable site.plan i) (λ i a b. (a, b)) new now can in
    let took = take_each site t new (due t inputs) log each (begins site inputs t log h) in
    let bound = above site.links in
    let decided = decide_to site valid bound.0 t (due t inputs ++ new) took.0 took.1 in
    let whole : due t inputs ++ new ≡ all = ap (λ (is : List Input). is ++ new) (sym before) ∙ sym split in (
      decided.0,
      ends site inputs t bound.0 decided.0 (λ k l. none_above site decided.0 t k (bound.1 k l)) (subst (λ (is : List Input). IsAt site t bound.0 is decided.0) whole decided.1),
    )
