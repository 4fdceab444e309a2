-- What comes to a node is true by what all nodes did before: a packet that arrives was sent before that.
use Rattle.tva_laws.proofs.Common.{◌≡◌, ℕ, suc, ◌+◌, ◌<◌, ◌≤◌, List, [], ◌∷◌, ◌++◌, Some, refl, ap, subst, ◌∙◌, arith, nat_lt, AllByRecursion, lt-ltb, filter-append, PacketData, Config, IsConfig, Row, files_at, IsInOrder, cut, cut-early, filter-true, each-weaker, IsNodeLog-cut, Input, FromTrace, Arrival, Site, Entry, Took, Started, entry_time, entry_rank, due, Logs, log_at, site_at, IsRunTo, logs_before, at_nodes, IsRunTo-cut, are_delayed, log_at-before, inputs_to, at_place, each_front, each_place, past_at, IsMade, made_at, nat_tests}
use Rattle.tva_laws.proofs.Origins.{AnyRow, any_rows}
use Rattle.tva_laws.proofs.PathWalks.{IsEntryGood}
use Rattle.tva_laws.proofs.Above.{IsTruePacket, all_true}
use Rattle.tva_laws.proofs.Bytes.{HasBytes}

module _ (P : PacketData → Type 0) where
  -- what comes in
  abbrev pub IsComing : Input → Type 0
  IsComing (FromTrace row) = Unit {0}
  IsComing (Arrival time link p) = P p

  abbrev pub IsTaken : Entry → Type 0
  IsTaken (Took input content) = IsComing input
  IsTaken (Started time link class p) = Unit {0}

  abbrev Goes : Entry → Type 0
  Goes e = IsEntryGood P AnyRow e

  pub taken_of : (e : Entry) → Goes e → IsTaken e
  taken_of e g = grind (arith, nat_tests)

  made_taken : (site : Site) (before : List Entry) (e : Entry) → IsMade IsComing site before e → IsTaken e
  made_taken site before e m = grind (arith, nat_tests)

-- up to an entry, a log is cut just behind its time
cut_at : (before : List Entry) (e : Entry) (rest : List Entry) → IsInOrder entry_time entry_rank (before ++ e ∷ rest)
    → cut entry_time (suc (entry_time e)) (before ++ e ∷ rest) ≡ before ++ e ∷ cut entry_time (suc (entry_time e)) rest
cut_at before e rest o =
    let t = suc (entry_time e) in
    let early : entry_time e < t = omega arith in
    filter-append (λ (x : Entry). nat_lt (entry_time x) t) before (e ∷ rest)
    ∙ ap (λ (xs : List Entry). xs ++ cut entry_time t (e ∷ rest)) (cut-early entry_time entry_rank t before
    (each-weaker (λ (x : Entry). entry_time x ≤ entry_time e) (λ (x : Entry). entry_time x < t) (λ x k. omega arith) before (past_at (before ++ e ∷ rest) before e rest o refl)))
    ∙ ap (λ (xs : List Entry). before ++ xs) (filter-true (λ (x : Entry). nat_lt (entry_time x) t) e rest (lt-ltb (entry_time e) t early))

split_again : (before : List Entry) (e : Entry) (rest : List Entry) → before ++ e ∷ rest ≡ (before ++ e ∷ []) ++ rest
split_again [] e rest = refl
split_again (x ∷ xs) e rest = ap (λ (ys : List Entry). x ∷ ys) (split_again xs e rest)

module _ (config : Config) (rows : List Row) (until : ℕ) (logs : Logs) (valid : IsConfig config) (few : (node : ℕ) → files_at node rows ≤ 65536)
    (bytes : AllByRecursion (λ (row : Row). HasBytes row.what) rows) (run : IsRunTo config rows until logs) where
  -- true by what was done before a time
  abbrev pub IsTrueBefore : ℕ → PacketData → Type 0
  IsTrueBefore t p = IsTruePacket config (logs_before t logs) p

  module _ (t : ℕ) (l : suc t ≤ until) where
    true_before : (node : ℕ) → AllByRecursion (Goes (IsTrueBefore t)) (cut entry_time t (log_at logs node))
    true_before =
        at_nodes config rows until logs run (λ (log : List Entry). AllByRecursion (Goes (IsTrueBefore t)) (cut entry_time t log)) tt
        (λ node site there.
        subst (AllByRecursion (Goes (IsTrueBefore t))) (log_at-before t logs node)
        (all_true config rows t (logs_before t logs) valid few bytes
        (IsRunTo-cut config rows (are_delayed config valid) t until logs (omega (arith, l)) run) node site there))

    taken_to : (node : ℕ) (site : Site) → site_at config node ≡ Some site
        → AllByRecursion (IsTaken (IsTrueBefore t)) (cut entry_time (suc t) (log_at logs node))
    taken_to node site is =
        let has = run.each node site is in
        let log = IsNodeLog-cut site has.inputs (suc t) until (log_at logs node) has.join.in_order l has.is_log in
        let inputs : AllByRecursion (IsComing (IsTrueBefore t)) (due (suc t) has.inputs) =
        inputs_to config rows until logs valid run (IsComing (IsTrueBefore t)) (Goes (IsTrueBefore t)) (any_rows rows)
        (λ number link here time on at class packet k. k) t l true_before node site is in
        each_place (IsTaken (IsTrueBefore t)) (cut entry_time (suc t) (log_at logs node))
        (λ before e rest split k.
        made_taken (IsTrueBefore t) site before e
        (made_at (IsComing (IsTrueBefore t)) site (due (suc t) has.inputs) (cut entry_time (suc t) (log_at logs node)) before e rest log.steps inputs split))

  -- up to each entry of a log, what came in is true by what was done before that entry's time
  pub taken_by : (node : ℕ) (site : Site) → site_at config node ≡ Some site → (before : List Entry) (e : Entry) (rest : List Entry)
      → log_at logs node ≡ before ++ e ∷ rest → AllByRecursion (IsTaken (IsTrueBefore (entry_time e))) (before ++ e ∷ [])
  taken_by node site is before e rest split =
      let t = entry_time e in
      let has = run.each node site is in
      grind (arith, nat_tests, at_place, cut_at, split_again, each_front, taken_to)
