-- Every run keeps files.
use Rattle.tva_laws.proofs.Common.{◌≡◌, ℕ, ◌≤◌, ◌⊎◌, List, [], ◌∷◌, ◌++◌, Option, Some, None, inl, inr, refl, sym, ap, subst, ◌∙◌, append_assoc, arith, slice_get, option_and_then, option_map, AllByRecursion, and_parts, eqb-true, get_or_past, recursion_from_All, slice_get_cases, same_Some, Address, DataLine, Upper, Nothing, Data, Ack, HostPlan, RouterPlan, PacketData, Config, NodePlan, IsConfig, Transfer, Files, Act, Filed, Came, heard, range_of, Follow, to_from, HasCome, acked_came, address_is, Row, AreTraceRows, files_at, Input, FromTrace, Arrival, Site, site_of, Content, Entry, Took, Started, entry_time, acts, files, arrived, content, hosted, due, each-weaker, Logs, links_out, log_at, site_at, IsRunTo, logs_before, at_place, content_at_place, IsHostAt, IsOfFile, KeepsFiles, bytes_delivered, range_at, range_by, range_in, ranges, nat_tests, ⊎_elim}
use Rattle.tva_plan.specs.declared.config.NodePlan.TheVariants as plans
use Rattle.tva_transfer.specs.Files.{Ticked}
use Rattle.tva_laws.proofs.Origins.{AnyRow}
use Rattle.tva_laws.proofs.PathWalks.{IsEntryGood}
use Rattle.tva_laws.proofs.Apart.{hosts_apart}
use Rattle.tva_laws.proofs.Ranges.{host_makes, log_follows, sent_none}
use Rattle.tva_laws.proofs.Above.{IsAnswer, IsSegment, IsTruePacket, IsTrueUpper, all_true}
use Rattle.tva_laws.proofs.Bytes.{HasBytes}
use Rattle.tva_laws.proofs.Earlier.{IsTaken, taken_by, taken_of}

-- ## what came in at a host is true

module _ (config : Config) (logs : Logs) where
  abbrev IsTrueAct : Act → Type 0
  IsTrueAct (Filed dst size segment) = Unit {0}
  IsTrueAct (Ticked dst) = Unit {0}
  IsTrueAct (Came p) = IsTruePacket config logs p

  heard_true : (home : Address) (p : PacketData) (source : Address) (above : Upper) → (above ≡ Nothing → ⊥) → p.flow.src.0 ≡ source.0
      → heard home p ≡ above → IsTruePacket config logs p → IsTrueUpper config logs (to_from home source) above
  heard_true home p source above some from brings packet = grind (arith, nat_tests, address_is)

  true_acts : (log : List Entry) → AllByRecursion (IsTaken (IsTruePacket config logs)) log → AllByRecursion IsTrueAct (acts log)
  true_acts [] h = tt
  true_acts (z0 ∷ es) h = grind (arith, nat_tests, true_acts es h.1)

  come_true : (home : Address) (log : List Entry) (source : Address) (above : Upper) → (above ≡ Nothing → ⊥)
      → AllByRecursion (IsTaken (IsTruePacket config logs)) log → HasCome home (acts log) source above
      → IsTrueUpper config logs (to_from home source) above
  come_true home log source above some h come = grind (arith, nat_tests, heard_true, at_place, true_acts)

-- ## a router tells no range

abbrev TellsNone : Content → Type 0
TellsNone c = (s : Address) (t : ℕ) → range_in s t c ≡ None

arrived_none : (plan : RouterPlan) (before : List Entry) (now : ℕ) (from : Option ℕ) (p : PacketData)
    → TellsNone (arrived plan before now from p)
unfolding arrived
arrived_none plan before now from p s t = refl

module _ (site : Site) (plan : RouterPlan) (router : site.plan ≡ plans.Router plan) where
  content_none : (before : List Entry) (i : Input) (c : Content) → content site before i ≡ Some c → TellsNone c
  content_none before i c e = grind (arith, nat_tests, same_Some, arrived_none)

-- a router's log tells none
none_told : (log : List Entry)
    → ((before : List Entry) (e : Entry) (rest : List Entry) → log ≡ before ++ e ∷ rest → (s : Address) (t : ℕ) → range_at s t e ≡ None)
    → (s : Address) (t : ℕ) → ranges s t log ≡ []
none_told log none s t = go [] log refl
  where
    go : (before es : List Entry) → log ≡ before ++ es → ranges s t es ≡ []
    go before [] split = refl
    go before (e ∷ es) split = grind (arith, nat_tests, append_assoc, go (before ++ e ∷ []) es (split ∙ sym (append_assoc before (e ∷ []) es)))

-- a packet that delivers a range brought it from the source
brought : (known : Files) (p : PacketData) (s : Address) (t : ℕ) (above : Upper) (r : DataLine)
    → option_and_then (range_by s t p) (range_of known p.flow.src above) ≡ Some r → (p.flow.src.0 ≡ s.0) × (above ≡ Data t r.first r.bytes)
unfolding range_of
brought known p s t above r e = grind (arith, nat_tests, and_parts, same_Some, eqb-true)

-- ## in a run

none_here : (before : List Entry) (e : Entry) (rest : List Entry) → [] ≡ before ++ e ∷ rest → ⊥
none_here [] e rest is = absurd (cc)
none_here (x ∷ xs) e rest is = absurd (cc)

module _ (config : Config) (rows : List Row) (until : ℕ) (logs : Logs) (valid : IsConfig config) (few : (node : ℕ) → files_at node rows ≤ 65536)
    (bytes : AllByRecursion (λ (row : Row). HasBytes row.what) rows) (run : IsRunTo config rows until logs) where
  abbrev IsOfItsFile : ℕ → Entry → Type 0
  IsOfItsFile node e = (s : Address) (t : ℕ) (r : DataLine) → range_at s t e ≡ Some r
      → IsOfFile config (logs_before (entry_time e) logs) node s t r

  record IsKept (node : ℕ) : Type 0 where
    in_order : (s : Address) (t : ℕ) → Follow 0 (ranges s t (log_at logs node))
    of_file : (before : List Entry) (e : Entry) (rest : List Entry) → log_at logs node ≡ before ++ e ∷ rest → IsOfItsFile node e

  segment_of_file : (now : Logs) (node : ℕ) (plan : HostPlan) (s : Address) (t : ℕ) (r : DataLine) → IsHostAt config node plan
      → IsSegment config now (to_from plan.address s) t r.first r.bytes → IsOfFile config now node s t r
  segment_of_file now node plan s t r at g = search

  -- at a router
  router_tells : (node : ℕ) (site : Site) (plan : RouterPlan) → site.plan ≡ plans.Router plan → site_at config node ≡ Some site
      → (before : List Entry) (e : Entry) (rest : List Entry) → log_at logs node ≡ before ++ e ∷ rest
      → (s : Address) (t : ℕ) → range_at s t e ≡ None
  router_tells node site plan kind is before (Started u l c p) rest split s t = refl
  router_tells node site plan kind is before (Took i c) rest split s t =
      let has = run.each node site is in
      content_none site plan kind before i c (content_at_place site (due until has.inputs) (log_at logs node) before i c rest has.is_log.steps split) s t

  -- at a host
  host_tells : (node : ℕ) (site : Site) (plan : HostPlan) → site.plan ≡ plans.Host plan → site_at config node ≡ Some site
      → (before : List Entry) (i : Input) (rest : List Entry) → log_at logs node ≡ before ++ Took i (hosted site plan before i) ∷ rest
      → IsOfItsFile node (Took i (hosted site plan before i))
  host_tells node site plan kind is before (FromTrace row) rest split s t r e = grind (arith, nat_tests, sent_none)
  host_tells node site plan kind is before (Arrival time link p) rest split s t r e =
      let took = Took (Arrival time link p) (hosted site plan before (Arrival time link p)) in
      let came = brought (files plan before) p s t (heard plan.address p) r e in
      let now = logs_before time.0 logs in
      let true_now = at_place (IsTaken (IsTruePacket config now)) (before ++ took ∷ []) before took [] refl
      (taken_by config rows until logs valid few bytes run node site is before took rest split) in
      segment_of_file now node plan s t r (site, is, kind)
      (heard_true config now plan.address p s (Data t r.first r.bytes) (λ e. absurd (cc)) came.0 came.1 true_now)

  tells : (node : ℕ) (site : Site) (plan : HostPlan) → site.plan ≡ plans.Host plan → site_at config node ≡ Some site
      → (before : List Entry) (e : Entry) (rest : List Entry) → log_at logs node ≡ before ++ e ∷ rest → IsOfItsFile node e
  tells node site plan kind is before (Started u l c p) rest split = λ s t r e. absurd (cc)
  tells node site plan kind is before (Took i c) rest split =
      let has = run.each node site is in
      let made = host_makes site plan kind before i c (content_at_place site (due until has.inputs) (log_at logs node) before i c rest has.is_log.steps split) in
      grind (arith, nat_tests, host_tells)

  node_kept : (node : ℕ) (site : Site) (plan : NodePlan) → site.plan ≡ plan → site_at config node ≡ Some site → IsKept node
  node_kept node site (plans.Router plan) kind is =
      let none = router_tells node site plan kind is in
      record {
        in_order = λ s t. subst (Follow 0) (sym (none_told (log_at logs node) none s t)) tt;
        of_file = λ before e rest split s t r told. let nothing = none before e rest split s t in absurd (cc (nothing, told));
      }
  node_kept node site (plans.Host plan) kind is =
      let log = log_at logs node in
      let has = run.each node site is in
      record {
        in_order = λ s t. log_follows site plan kind (due until has.inputs) log has.is_log.steps s t;
        of_file = tells node site plan kind is;
      }

  all_kept : (node : ℕ) → IsKept node
  all_kept node = elim (slice_get_cases config.nodes node).1 [
    | inl in' ↦
        let site : Site = site_of node in'.0 (links_out node config.links) in
        let there : site_at config node ≡ Some site =
        ap (option_map (λ (p : NodePlan). site_of node p (links_out node config.links))) in'.2 in
        node_kept node site in'.0 refl there
    | inr past ↦
        let c = run.count in
        let p = past.0 in
        let none : log_at logs node ≡ [] = get_or_past logs node [] (omega arith) in
        record {
          in_order = λ s t. subst (λ (log : List Entry). Follow 0 (ranges s t log)) (sym none) tt;
          of_file = λ before e rest split s t r told. absurd (none_here before e rest (sym none ∙ split));
        }
  ]

  -- where it was acknowledged, it was delivered at the host of that address
  was_delivered : (now : Logs) (node : ℕ) (to : HostPlan) (source dst : Address) (transfer next : ℕ) → IsHostAt config node to → dst ≡ to.address
      → IsAnswer config now (to_from source dst) transfer next → next ≤ bytes_delivered source transfer (log_at now node)
  was_delivered now node to source dst transfer next at same a = grind (arith, nat_tests, hosts_apart config a.other node a.to to valid a.receiver at (a.address ∙ same))

  -- of a transfer nothing is acknowledged after these entries, or what its destination told by then
  answered_by : (now : Logs) (from : HostPlan) (log : List Entry) → AllByRecursion (IsTaken (IsTruePacket config now)) log
      → (transfer : ℕ) (file : Transfer) → slice_get (files from log).transfers transfer ≡ Some file
      → (file.acked ≡ 0) ⊎ IsAnswer config now (to_from from.address file.dst) transfer file.acked
  answered_by now from log h transfer file is =
      ⊎_elim (λ none. inl none)
      (λ come. inr (come_true config now from.address log file.dst (Ack transfer file.acked) (λ e. absurd (cc)) h come))
      (acked_came from.address (acts log) transfer file is)

  file_delivered : (node other : ℕ) (to from : HostPlan) → IsHostAt config node to → IsHostAt config other from
      → (before : List Entry) (e : Entry) (rest : List Entry) → log_at logs other ≡ before ++ e ∷ rest
      → (transfer : ℕ) (file : Transfer)
      → slice_get (files from (before ++ e ∷ [])).transfers transfer ≡ Some file → file.dst ≡ to.address
      → file.acked ≤ bytes_delivered from.address transfer (log_at (logs_before (entry_time e) logs) node)
  file_delivered node other to from at sender before e rest split transfer file is same =
      let now = logs_before (entry_time e) logs in
      ⊎_elim (λ none. omega (arith, none))
      (λ answer. was_delivered now node to from.address file.dst transfer file.acked at same answer)
      (answered_by now from (before ++ e ∷ [])
      (taken_by config rows until logs valid few bytes run other sender.0 sender.1 before e rest split) transfer file is)

  none_answers : (other : ℕ) (from : HostPlan) → IsHostAt config other from → (transfer : ℕ) (file : Transfer)
      → slice_get (files from (log_at logs other)).transfers transfer ≡ Some file
      → ((node : ℕ) (to : HostPlan) → IsHostAt config node to → file.dst ≡ to.address → ⊥) → file.acked ≡ 0
  none_answers other from sender transfer file is nobody =
      let log = log_at logs other in
      ⊎_elim (λ none. none)
      (λ answer. absurd (nobody answer.other answer.to answer.receiver (sym answer.address)))
      (answered_by logs from log
      (each-weaker (IsEntryGood (IsTruePacket config logs) AnyRow) (IsTaken (IsTruePacket config logs)) (taken_of (IsTruePacket config logs)) log
      (all_true config rows until logs valid few bytes run other sender.0 sender.1)) transfer file is)

  pub keeps : KeepsFiles config logs
  keeps = record {
    in_order = λ node s t. (all_kept node).in_order s t;
    of_file = λ node before e rest split s t r told. (all_kept node).of_file before e rest split s t r told;
    acknowledged = λ node other to from at sender before e rest split transfer file is same.
        file_delivered node other to from at sender before e rest split transfer file is same;
    nobody = λ other from sender transfer file is none. none_answers other from sender transfer file is none;
  }

-- ## the rows of a trace have bytes

pub rows_have : (config : Config) (rows : List Row) → AreTraceRows config rows → AllByRecursion (λ (row : Row). HasBytes row.what) rows
rows_have config rows trace = grind (arith, nat_tests, recursion_from_All)
