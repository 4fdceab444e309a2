-- Each upper part under way in a run is true: a range is of a transfer of its source, and what is acknowledged was
-- delivered. A host makes no other, and no router changes one.
use Rattle.tva_laws.proofs.Common.{◌≡◌, ℕ, ◌+◌, ◌<◌, ◌≤◌, List, [], ◌∷◌, ◌++◌, Option, Some, None, refl, sym, ap, subst, ◌∙◌, append_assoc, arith, slice_get, option_map, IfSome, AllByRecursion, filter_map-append, slice_get_within, same_Some, Address, Flow, Upper, Nothing, Data, Ack, HostPlan, RouterPlan, PacketData, Charge, handle, Made, Receipt, History, history_of, intended, receipt_of, Config, NodePlan, IsConfig, Transfer, Files, Act, Came, Filed, answered, first_segment, next_of, number_of, segment_due, sent_by, to_from, IsKept, sent_ack, sent_data, stays, Row, RowWhat, Send, Inject, File, Tick, files_at, Input, FromTrace, Arrival, Site, Content, Entry, Took, act_of, act_of_row, calls, files, arrived, content, content_by, hosted, made_for, next_id, packet_of_row, routed, sent_with, sent_out, due, Logs, log_at, site_at, IsRunTo, made_in, HasMade, IsHostAt, bytes_delivered, transfer_at, nat_tests}
use Rattle.tva_router.specs.Handling as handling
use Rattle.tva_plan.specs.declared.config.NodePlan.TheVariants as plans
use Rattle.tva_transfer.specs.Files.{Ticked}
use Rattle.tva_laws.proofs.Origins.{AnyRow, any_rows, onward_keeps}
use Rattle.tva_laws.proofs.PathWalks.{IsEntryGood, all_good}
use Rattle.tva_laws.proofs.Bytes.{HasBytes, IsFull, all_full, some_sent}
use Rattle.tva_laws.proofs.Ranges.{bytes-more, bytes_at, files_act, host_makes}
use Rattle.tva_laws.proofs.Counting.{few_transfers}

-- ## what is true

-- a range is of a transfer of that number at a host of that source's address, to that destination, which sent it; it has
-- a byte at least and ends within the transfer
pub record IsSegment (config : Config) (logs : Logs) (flow : Flow) (transfer first bytes : ℕ) : Type 0 where
  pub other : ℕ
  pub from : HostPlan
  pub sender : IsHostAt config other from
  pub address : from.address ≡ flow.src
  pub file : Transfer
  pub is : transfer_at from (log_at logs other) transfer ≡ Some file
  pub dst : file.dst ≡ flow.dst
  pub within : first + bytes ≤ file.size
  pub some : 1 ≤ bytes
  pub sent : HasMade (log_at logs other) flow (Data transfer first bytes)

-- at a host of that source's address so much of the destination's transfer was delivered
pub record IsAnswer (config : Config) (logs : Logs) (flow : Flow) (transfer next : ℕ) : Type 0 where
  pub other : ℕ
  pub to : HostPlan
  pub receiver : IsHostAt config other to
  pub address : to.address ≡ flow.src
  pub most : next ≤ bytes_delivered flow.dst transfer (log_at logs other)

abbrev pub IsTrueUpper : Config → Logs → Flow → Upper → Type 0
IsTrueUpper config logs flow Nothing = Unit {0}
IsTrueUpper config logs flow (Data transfer first bytes) = IsSegment config logs flow transfer first bytes
IsTrueUpper config logs flow (Ack transfer next) = IsAnswer config logs flow transfer next

abbrev pub IsTruePacket : Config → Logs → PacketData → Type 0
IsTruePacket config logs p = IsTrueUpper config logs p.flow p.upper

small : (n : ℕ) → n < 65536 → number_of n ≡ n
small n l = omega arith

module _ (config : Config) (logs : Logs) where
  -- no router changes it
  hands_on : (plan : RouterPlan) (h : List Charge) (links : handling.PortLogs) (now : ℕ) (from : Option ℕ) (p : PacketData)
      → IsTruePacket config logs p → IsTruePacket config logs (handle plan h links now from p).onward
  hands_on plan h links now from p k = grind (arith, nat_tests, onward_keeps)

  abbrev MakesTrue : Content → Type 0
  MakesTrue c = (p : PacketData) → made_in c ≡ Some p → IsTruePacket config logs p

  -- ## a router

  some_true : (q : PacketData) → IsTruePacket config logs q → (p : PacketData) → Some q ≡ Some p → IsTruePacket config logs p
  some_true q k p e = subst (IsTruePacket config logs) (same_Some q p e) k

  none_true : (p : PacketData) → None ≡ Some p → IsTruePacket config logs p
  none_true p e = absurd (cc)

  injected_true : (plan : RouterPlan) (before : List Entry) (now : ℕ) (q : PacketData) → IsTruePacket config logs q
      → MakesTrue (arrived plan before now None q)
  unfolding arrived
  injected_true plan before now q k p e = some_true q k p e

  passed_true : (plan : RouterPlan) (before : List Entry) (now link : ℕ) (q : PacketData)
      → MakesTrue (arrived plan before now (Some link) q)
  unfolding arrived
  passed_true plan before now link q p e = none_true p e

  row_true : (number : ℕ) (plan : RouterPlan) (before : List Entry) (now : ℕ) (w : RowWhat) (c : Content)
      → option_map (arrived plan before now None) (packet_of_row (next_id number before) w) ≡ Some c → MakesTrue c
  row_true number plan before now w c e = grind (arith, nat_tests, same_Some, injected_true)

  routed_true : (number : ℕ) (plan : RouterPlan) (before : List Entry) (i : Input) (c : Content)
      → routed number plan before i ≡ Some c → MakesTrue c
  routed_true number plan before (FromTrace row) c e = row_true number plan before row.time.0 row.what c e
  routed_true number plan before (Arrival time link packet) c e = grind (arith, nat_tests, same_Some, passed_true)

  -- ## a host

  module _ (rows : List Row) (until : ℕ) (few : (node : ℕ) → files_at node rows ≤ 65536) (run : IsRunTo config rows until logs)
      (node : ℕ) (site : Site) (plan : HostPlan) (is : site_at config node ≡ Some site) (host : site.plan ≡ plans.Host plan)
      (full : AllByRecursion IsFull (log_at logs node)) where
    -- what the host made is true
    abbrev Own : Flow → Upper → Type 0
    Own flow above = HasMade (log_at logs node) flow above → IsTrueUpper config logs flow above

    abbrev OwnPacket : PacketData → Type 0
    OwnPacket p = Own p.flow p.upper

    abbrev MakesOwn : Content → Type 0
    MakesOwn c = (p : PacketData) → made_in c ≡ Some p → OwnPacket p

    none_own : (p : PacketData) → None ≡ Some p → OwnPacket p
    none_own p e = absurd (cc)

    at_host : IsHostAt config node plan
    at_host = (site, is, host)

    -- as much is delivered in the whole log as after some entries
    delivered_most : (front back : List Entry) → log_at logs node ≡ front ++ back → (s : Address) (t : ℕ)
        → next_of (files plan front) s t ≤ bytes_delivered s t (log_at logs node)
    delivered_most front back split s t =
        let has = run.each node site is in
        grind (arith, nat_tests, bytes_at site plan host (due until has.inputs) (log_at logs node) front back has.is_log.steps split s t, bytes-more s t front back)

    -- a transfer is at its place in the whole log as it is after some entries
    kept : (front back : List Entry) → log_at logs node ≡ front ++ back → (place : ℕ) (t : Transfer)
        → slice_get (files plan front).transfers place ≡ Some t → IsKept (files plan (log_at logs node)).transfers place t
    kept front back split place t here = grind (arith, nat_tests, filter_map-append, stays)

    -- what is sent by an act is true
    act_true : (before : List Entry) (e : Entry) (rest : List Entry) → log_at logs node ≡ before ++ e ∷ rest → (act : Act)
        → act_of e ≡ Some act
        → (dst : Address) (above : Upper) → sent_by plan.address (files plan before) act ≡ Some (to_from dst plan.address, above)
        → Own (to_from dst plan.address) above
    act_true before e rest split act does dst Nothing sent made = tt
    act_true before e rest split act does dst (Data transfer first bytes) sent made =
        let own = sent_data plan.address (files plan before) act (to_from dst plan.address) transfer first bytes sent in
        let after = files_act plan before e act does in
        let here : slice_get (files plan (before ++ e ∷ [])).transfers own.place ≡ Some own.transfer =
        ap (λ (f : Files). slice_get f.transfers own.place) after ∙ own.at in
        let all = kept (before ++ e ∷ []) rest (split ∙ sym (append_assoc before (e ∷ []) rest)) own.place own.transfer here in
        grind (arith, nat_tests, few_transfers config rows until logs few run node site plan is, slice_get_within (files plan (log_at logs node)).transfers own.place all.now all.at, some_sent plan (log_at logs node) before e rest full split act does (to_from dst plan.address) transfer first bytes sent)
    act_true before e rest split act does dst (Ack transfer next) sent made = grind (arith, nat_tests, sent_ack plan.address (files plan before) act (to_from dst plan.address) transfer next sent, files_act plan before e act does, delivered_most (before ++ e ∷ []) rest (split ∙ sym (append_assoc before (e ∷ []) rest)) dst transfer, append_assoc before (e ∷ []) rest)

    -- ## for a row

    due_true : (h : History) (now : ℕ) (dst : Address) (o : Option Upper)
        → ((above : Upper) → option_map {U = Flow × Upper} (λ u. (to_from dst plan.address, u)) o ≡ Some (to_from dst plan.address, above)
        → Own (to_from dst plan.address) above)
        → IfSome (option_map (sent_with site.number plan h now dst) o) (λ (made : Made). OwnPacket made.packet)
    unfolding intended
    due_true h now dst o lifts = grind (arith, nat_tests)

    made_true : (h : History) (known : Files) (now : ℕ) (w : RowWhat)
        → ((act : Act) → act_of_row w ≡ Some act → (dst : Address) (above : Upper)
        → sent_by plan.address known act ≡ Some (to_from dst plan.address, above)
        → Own (to_from dst plan.address) above)
        → IfSome (made_for site.number plan h known now w) (λ (made : Made). OwnPacket made.packet)
    unfolding intended
    made_true h known now (Send dst payload) lifts = λ made. tt
    made_true h known now (Inject flow payload carries) lifts = λ made. tt
    made_true h known now (File dst size segment) lifts =
        lifts (Filed dst size segment) refl dst (first_segment known dst size segment) refl
    made_true h known now (Tick dst) lifts =
        due_true h now dst (segment_due known dst) (λ above e. lifts (Ticked dst) refl dst above e)

    sent_true : (before : List Entry) (made : Option Made) → IfSome made (λ (m : Made). OwnPacket m.packet)
        → MakesOwn (sent_out site plan before made)
    sent_true before made k p e = grind (arith, nat_tests, none_own)

    -- ## for a packet that comes in

    abbrev RepliesTrue : Receipt → Type 0
    RepliesTrue r = (p : PacketData) → option_map (λ (made : Made). made.packet) r.reply ≡ Some p → OwnPacket p

    receipt_true : (h : History) (now : ℕ) (q : PacketData) (above : Upper)
        → Own (to_from q.flow.src plan.address) above
        → RepliesTrue (receipt_of site.number plan h now q above)
    unfolding receipt_of
    receipt_true h now q above k = search (arith, nat_tests, none_own)

    hosted_true : (before : List Entry) (input : Input) (rest : List Entry)
        → log_at logs node ≡ before ++ Took input (hosted site plan before input) ∷ rest → MakesOwn (hosted site plan before input)
    hosted_true before (FromTrace row) rest split = search (arith, nat_tests, sent_true, made_true, act_true)
    hosted_true before (Arrival time link q) rest split =
        let h = history_of plan (calls before) in
        let above = answered plan.address (files plan before) q in
        let e = Took (Arrival time link q) (hosted site plan before (Arrival time link q)) in
        receipt_true h time.0 q above (act_true before e rest split (Came q) refl q.flow.src above refl)

    host_true : (before : List Entry) (input : Input) (c : Content) (rest : List Entry) → log_at logs node ≡ before ++ Took input c ∷ rest
        → content site before input ≡ Some c → MakesTrue c
    host_true before input c rest split e =
        let makes = host_makes site plan host before input c e in
        let own = hosted_true before input rest (split ∙ ap (λ (x : Content). before ++ Took input x ∷ rest) (sym makes)) in
        λ p made. subst MakesOwn makes own p made (record {
          before = before;
          input = input;
          content = c;
          rest = rest;
          here = split;
          packet = p;
          makes = made;
          flow = refl;
          upper = refl;
        })

-- ## in a run

module _ (config : Config) (rows : List Row) (until : ℕ) (logs : Logs) (valid : IsConfig config) (few : (node : ℕ) → files_at node rows ≤ 65536)
    (bytes : AllByRecursion (λ (row : Row). HasBytes row.what) rows) (run : IsRunTo config rows until logs) where
  makes_by : (node : ℕ) (site : Site) (plan : NodePlan) → site.plan ≡ plan → site_at config node ≡ Some site
      → (before : List Entry) (input : Input) (c : Content) (rest : List Entry) → log_at logs node ≡ before ++ Took input c ∷ rest
      → content site before input ≡ Some c → MakesTrue config logs c
  makes_by node site (plans.Router plan) kind is before input c rest split e =
      routed_true config logs site.number plan before input c (subst (λ (p : NodePlan). content_by site p before input ≡ Some c) kind e)
  makes_by node site (plans.Host plan) kind is before input c rest split e = search (arith, nat_tests, host_true, all_full)

  -- each packet that a node's log names has a true upper part
  pub all_true : (node : ℕ) (site : Site) → site_at config node ≡ Some site
      → AllByRecursion (IsEntryGood (IsTruePacket config logs) AnyRow) (log_at logs node)
  all_true node site is =
      all_good (IsTruePacket config logs) AnyRow (hands_on config logs) config rows until logs valid run (any_rows rows)
      (λ m there at before input c rest split e given. makes_by m there there.plan refl at before input c rest split e) node site is
