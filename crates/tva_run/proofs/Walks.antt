-- What holds of each packet that is made or handed on holds of what starts. And what holds of what a node makes of inputs, where
-- it held of these, holds of each entry of a run: by induction over time, since what arrives before the next time was sent
-- before it.
use Rattle.tva_run.proofs.Common.{nat_tests, ◌≡◌, ℕ, zero, suc, ◌+◌, ◌*◌, ◌≤◌, Bool, true, false, cond, List, [], ◌∷◌, ◌++◌, map, Option, Some, None, refl, sym, ap, subst, ◌∙◌, arith, inl, inr, append_assoc, nat_lt, ◌==◌, slice_get, option_map_or, option_and_then, AllByRecursion, cons_option, cases_lt, lt-ltb, LinkLimits, Class, LinkPlan, PacketData, packet_length, Made, Config, IsConfig, Row, IsInOrder, cut, Input, FromTrace, Arrival, Site, limits_out, Content, Arrived, Sent, Ticked, Received, Entry, Took, Started, input_time, input_source, entry_time, entry_rank, port_entry, port_logs, due, starts, start_after, at_time, Logs, log_at, site_at, arrivals, arrivals_at, reaches, IsRunTo}
use Rattle.tva_port.specs.Log as port
use Rattle.tva_run.proofs.Joins.{each-filter, each_later, filter-true, cut-late, cut-zero}
use Rattle.tva_run.proofs.Putting.{each_from_sources}
use Rattle.tva_run.proofs.LogWalks.{each_place, IsMade, made_at}
use Rattle.tva_run.proofs.Logs.{IsNodeLog-cut, cut_same}
use Rattle.tva_run.proofs.Queued.{Brings, start_good}
use Rattle.tva_run.proofs.Runs.{at_nodes, are_delayed, arrivals-cut, source_due}

-- ## what starts

module _ (P : PacketData → Type 0) where
  abbrev pub IsReplyGood : Option Made → Type 0
  IsReplyGood None = Unit {0}
  IsReplyGood (Some made) = P made.packet

  -- it holds of the packet that goes on, or that a host makes
  abbrev pub Leaves : Content → Type 0
  Leaves (Arrived from packet fate onward) = P onward
  Leaves (Sent made outcome) = P made.packet
  Leaves Ticked = Unit {0}
  Leaves (Received from packet receipt went range) = IsReplyGood receipt.reply

  abbrev pub LeavesAt : Entry → Type 0
  LeavesAt (Took input content) = Leaves content
  LeavesAt (Started time link class packet) = Unit {0}

  abbrev IfBrings : Option port.Entry → Type 0
  IfBrings o = AllByRecursion (Brings P) (cons_option o [])

  entry_good : (link : ℕ) (e : Entry) → LeavesAt e → IfBrings (port_entry link e)
  entry_good link v0 k = grind (arith, nat_tests)

  one_more : (o : Option port.Entry) (xs : List port.Entry) → IfBrings o → AllByRecursion (Brings P) xs
      → AllByRecursion (Brings P) (cons_option o xs)
  one_more None xs h k = k
  one_more (Some e) xs h k = (h.0, k)

  -- so of each that a link queued
  pub logs_good : (E : Entry → Type 0) → ((e : Entry) → E e → LeavesAt e) → (link : ℕ) (log : List Entry) → AllByRecursion E log
      → AllByRecursion (Brings P) (port_logs log link)
  logs_good E w link [] k = tt
  logs_good E w link (e ∷ es) k = one_more (port_entry link e) (port_logs es link) (entry_good link e (w e k.0)) (logs_good E w link es k.1)

  starts_by : (before : List Entry) (time link : ℕ) (s : Class × PacketData) (r : Option (ℕ × LinkLimits))
      → AllByRecursion (Brings P) (port_logs before link)
      → option_and_then (λ (o : ℕ × LinkLimits). start_after o.1 (port_logs before link) time) r ≡ Some s → P s.1
  starts_by before time link s None k e = absurd (cc)
  starts_by before time link s (Some o) k e = start_good P o.1 (port_logs before link) time s k e

  -- and of what one starts
  pub starts_good : (E : Entry → Type 0) → ((e : Entry) → E e → LeavesAt e) → (site : Site) (before : List Entry)
      (time link : ℕ) (class : Class) (packet : PacketData) → AllByRecursion E before → starts site before link time ≡ Some (class, packet) → P packet
  starts_good E w site before time link class packet k e =
      let s : Class × PacketData = (class, packet) in
      starts_by before time link s (limits_out site link) (logs_good E w link before k) e

-- ## a run

-- what stands in order begins with what comes before a time
record Begins (time : ℕ) (log : List Entry) : Type 0 where
  rest : List Entry
  is : log ≡ cut entry_time time log ++ rest

begins : (time : ℕ) (log : List Entry) → IsInOrder entry_time entry_rank log → Begins time log
begins time [] o = record { rest = []; is = refl }
begins time (e ∷ es) o = elim (cases_lt (entry_time e) time) [
  | inl l ↦
      let b = begins time es o.1 in
      record {
        rest = b.rest;
        is = ap (λ (xs : List Entry). e ∷ xs) b.is ∙ ap (λ (xs : List Entry). xs ++ b.rest)
            (sym (filter-true (λ (x : Entry). nat_lt (entry_time x) time) e es (lt-ltb (entry_time e) time l)));
      }
  | inr l ↦ record {
    rest = e ∷ es;
    is = ap (λ (xs : List Entry). xs ++ e ∷ es) (sym
        (cut-late entry_time entry_rank time (e ∷ es) (each_later entry_time entry_rank time e es o l)));
  }
]

module _ (config : Config) (rows : List Row) (until : ℕ) (logs : Logs) (valid : IsConfig config) (run : IsRunTo config rows until logs)
    (P : Input → Type 0) (E : Entry → Type 0) (given : AllByRecursion (λ (row : Row). P (FromTrace row)) rows)
    (arrives : (number : ℕ) (link : LinkPlan) → slice_get config.links number ≡ Some link → (time on at : ℕ) (class : Class) (packet : PacketData)
    → E (Started time on class packet) → P (Arrival (at_time at) number packet)) where
  abbrev HoldsTo : ℕ → Type 0
  HoldsTo t = (node : ℕ) → AllByRecursion E (cut entry_time t (log_at logs node))

  taken : (rs : List Row) → AllByRecursion (λ (row : Row). P (FromTrace row)) rs → AllByRecursion P (map FromTrace rs)
  taken [] k = tt
  taken (row ∷ rs) k = (k.0, taken rs k.1)

  module _ (number : ℕ) (link : LinkPlan) (here : slice_get config.links number ≡ Some link) where
    arrives_on : (b : Bool) (time on at : ℕ) (class : Class) (packet : PacketData) (is : List Input) → E (Started time on class packet)
        → AllByRecursion P is → AllByRecursion P (cons_option (cond b (Some (Arrival (at_time at) number packet)) None) is)
    arrives_on true time on at class packet is k rest = (arrives number link here time on at class packet k, rest)
    arrives_on false time on at class packet is k rest = rest

    all_arrive : (log : List Entry) → AllByRecursion E log → AllByRecursion P (arrivals number link log)
    all_arrive [] k = tt
    all_arrive (Took j c ∷ es) k = all_arrive es k.1
    all_arrive (Started u on c p ∷ es) k =
        arrives_on (on == number) u on (u + packet_length p * link.limits.ns_per_byte + link.delay) c p (arrivals number link es) k.0 (all_arrive es k.1)

    by_link : (t : ℕ) → HoldsTo t → (b : Bool) → AllByRecursion P (due (suc t) (cond b (arrivals number link (log_at logs link.from)) []))
    by_link t h false = tt
    by_link t h true =
        let d = are_delayed config valid number link here in
        let sent = cut entry_time t (log_at logs link.from) in
        subst (AllByRecursion P) (sym (arrivals-cut number link t (suc t) (log_at logs link.from) (omega arith)))
        (each-filter P (λ (i : Input). nat_lt (input_time i) (suc t)) (arrivals number link sent) (all_arrive sent (h link.from)))

  by_number : (t : ℕ) → HoldsTo t → (node number : ℕ) (o : Option LinkPlan) → slice_get config.links number ≡ o
      → AllByRecursion P (due (suc t) (option_map_or (arrivals_at logs node number) o []))
  by_number t h node number None here = tt
  by_number t h node number (Some link) here = by_link number link here t h (link.to == node)

  reached : (t : ℕ) → HoldsTo t → (node source : ℕ) → AllByRecursion P (due (suc t) (reaches config rows logs node source))
  reached t h node v0 = grind (arith, nat_tests, each-filter, taken, by_number)

  -- where it holds of all entries before a time, it holds of all that reaches a node up to it
  pub inputs_to : (t : ℕ) → suc t ≤ until → HoldsTo t → (node : ℕ) (site : Site) (there : site_at config node ≡ Some site)
      → AllByRecursion P (due (suc t) (run.each node site there).inputs)
  inputs_to t l h node site there =
      let has = run.each node site there in
      each_from_sources input_time input_source P (due (suc t) has.inputs)
      (λ s. subst (AllByRecursion P) (sym (source_due config rows until (suc t) logs site.number s has.inputs l has.join)) (reached t h site.number s))

  module _ (makes : (node : ℕ) (site : Site) → site_at config node ≡ Some site → (before : List Entry) (e : Entry) (rest : List Entry)
      → log_at logs node ≡ before ++ e ∷ rest → AllByRecursion E before → IsMade P site before e → E e) where
    holds_to : (t : ℕ) → t ≤ until → HoldsTo t
    holds_to zero l node = subst (AllByRecursion E) (sym (cut-zero entry_time entry_rank (log_at logs node))) tt
    holds_to (suc t) l node =
        at_nodes config rows until logs run (λ (log : List Entry). AllByRecursion E (cut entry_time (suc t) log)) tt
        (λ n site there. at_site n site there (inputs_to t l (holds_to t (omega arith)) n site there)) node
      where
        at_site : (n : ℕ) (site : Site) (there : site_at config n ≡ Some site) → AllByRecursion P (due (suc t) (run.each n site there).inputs)
            → AllByRecursion E (cut entry_time (suc t) (log_at logs n))
        at_site n site there inputs =
            let has = run.each n site there in
            let log = IsNodeLog-cut site has.inputs (suc t) until (log_at logs n) has.join.in_order l has.is_log in
            let b = begins (suc t) (log_at logs n) has.is_log.in_order in
            each_place E (cut entry_time (suc t) (log_at logs n))
            (λ before e rest split k.
            makes n site there before e (rest ++ b.rest)
            (b.is ∙ (ap (λ (z : List Entry). z ++ b.rest) split ∙ append_assoc before (e ∷ rest) b.rest)) k
            (made_at P site (due (suc t) has.inputs) (cut entry_time (suc t) (log_at logs n)) before e rest log.steps inputs split))

    -- it holds of each entry
    pub holds : (node : ℕ) (site : Site) → site_at config node ≡ Some site → AllByRecursion E (log_at logs node)
    holds node site there =
        let has = run.each node site there in
        subst (AllByRecursion E) (cut_same site has.inputs until (log_at logs node) has.is_log) (holds_to until (omega arith) node)

    -- and of each input
    pub inputs_hold : (node : ℕ) (site : Site) (there : site_at config node ≡ Some site) → AllByRecursion P (due until (run.each node site there).inputs)
    inputs_hold node site there = up_to until refl
      where
        up_to : (t : ℕ) → until ≡ t → AllByRecursion P (due t (run.each node site there).inputs)
        up_to zero e = subst (AllByRecursion P) (sym (cut-zero input_time input_source (run.each node site there).inputs)) tt
        up_to (suc t) e = inputs_to t (omega (arith, e)) (holds_to t (omega (arith, e))) node site there
