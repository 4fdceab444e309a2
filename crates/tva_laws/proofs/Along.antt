-- What a node's log keeps, entry by entry.
use Rattle.tva_laws.proofs.Common.{◌≡◌, ℕ, ◌≤◌, ◌<◌, Bool, true, false, cond, List, [], ◌∷◌, ◌++◌, Option, Some, None, refl, sym, ap, ◌∙◌, subst, arith, append-nil, ◌==◌, IfSome, AllByRecursion, cons_option, eqb-true, filter-append, filter_map-append, All-from_recursion, All-nil, All-push, LinkLimits, RouterPlan, HostPlan, boot_at, IsHostPlan, IsSizedPacket, Charge, NoChargeLater, AreNext, IsWithinSeconds, AreTimely, IsLegal, charges_of_boot, charges_at, Call, history_of, history_of-push, Input, Site, IsSite, limits_out, Content, Entry, Took, Started, input_time, entry_time, charge_of, charges, call_of_input, call_of, calls, port_logs, content, due, IsNodeLog, each-weaker, each-filter, at_place, by_place, each_place, past_at, IsMade, made_at, Leaves, LeavesAt, logs_good, starts_good, IsSizedInput, IsSizedEntry, nat_tests}
use Rattle.tva_flow.proofs.Pushes.{next-push}
use Rattle.tva_port.specs.Log as port
use Rattle.tva_plan.specs.declared.config.NodePlan.TheVariants as plans
use Rattle.tva_run.specs.Legal.{IsShort, AreShort}
use Rattle.tva_run.proofs.Legal.{node_log_legal}
use Rattle.tva_run.proofs.Queued.{Brings}
use Rattle.tva_laws.proofs.Packets.{sized_length}
use Rattle.tva_laws.proofs.Transfers.{IsSizedTaken, files_sized, input_taken}
use Rattle.tva_laws.proofs.Made.{AreMet, IsSizedCall, call_met}
use Rattle.tva_laws.proofs.Entries.{HasMet, IsNextCharge, host_valid, took_sized, took_charge}

-- an entry is within the sizes: an input with what a node makes of it, or what starts
abbrev pub IsSizedPlace : Entry → Type 0
IsSizedPlace (Took input made) = IsSizedInput input × Leaves IsSizedPacket made
IsSizedPlace (Started time link class packet) = IsSizedPacket packet

leaves : (e : Entry) → IsSizedPlace e → LeavesAt IsSizedPacket e
leaves e k = grind (arith, nat_tests)

taken : (e : Entry) → IsSizedPlace e → IsSizedTaken e
taken e k = grind (arith, nat_tests, input_taken)

-- what starts is within the sizes
pub sent_sized : (e : Entry) → IsSizedPlace e → IsSizedEntry e
sent_sized e k = grind (arith, nat_tests)

short : (x : port.Entry) → Brings IsSizedPacket x → IsShort x
short x s = grind (arith, nat_tests, sized_length)

-- ## the charges before

charge_time : (e : Entry) → IfSome (charge_of e) (λ c. c.time ≡ entry_time e)
charge_time e = grind (arith, nat_tests)

past_option : (now t : ℕ) (o : Option Charge) (cs : List Charge) → t ≤ now → IfSome o (λ c. c.time ≡ t) → AllByRecursion (λ c. c.time ≤ now) cs → AllByRecursion (λ c. c.time ≤ now) (cons_option o cs)
past_option now t o cs l e a = grind (arith, nat_tests)

past_all : (now : ℕ) (log : List Entry) → AllByRecursion (λ e. entry_time e ≤ now) log → AllByRecursion (λ c. c.time ≤ now) (charges log)
past_all now [] a = tt
past_all now (e ∷ es) a = past_option now (entry_time e) (charge_of e) (charges es) a.0 (charge_time e) (past_all now es a.1)

charges_past : (plan : RouterPlan) (boot now : ℕ) (log : List Entry) → AllByRecursion (λ e. entry_time e ≤ now) log → NoChargeLater now (charges_of_boot plan boot (charges log))
charges_past plan boot now log a =
    All-from_recursion (λ (c : Charge). c.time ≤ now) (charges_of_boot plan boot (charges log))
    (each-filter (λ (c : Charge). c.time ≤ now) (λ c. boot_at plan c.time == boot) (charges log) (past_all now log a))

charges_more : (plan : RouterPlan) (boot : ℕ) (log : List Entry) (e : Entry)
    → charges_of_boot plan boot (charges (log ++ e ∷ [])) ≡ charges_of_boot plan boot (charges log) ++ charges_of_boot plan boot (cons_option (charge_of e) [])
charges_more plan boot log e = grind (arith, nat_tests, filter_map-append, filter-append)

abbrev AreCharged : RouterPlan → List Charge → Type 0
AreCharged plan h = AreNext plan.slots plan.clock_offset [] h × AreTimely plan.clock_offset h

charged_where : (plan : RouterPlan) (h : List Charge) (c : Charge) (b : Bool) → AreCharged plan h → (b ≡ true → IsNextCharge plan h c) → AreCharged plan (h ++ cond b (c ∷ []) [])
charged_where plan h c false a k = subst (λ (z : List Charge). AreCharged plan z) (sym (append-nil h)) a
charged_where plan h c true a k =
    let n : IsNextCharge plan h c = k refl in
    (next-push plan.slots plan.clock_offset [] h c a.0 n.0, All-push (λ (x : Charge). IsWithinSeconds plan.clock_offset x.time x.grant) h c a.1 n.1)

-- a charge is one more of its own boot, and none of another
charged_option : (plan : RouterPlan) (boot now : ℕ) (h : List Charge) (o : Option Charge) → AreCharged plan (charges_of_boot plan boot h) → IfSome o (λ c. c.time ≡ now)
    → IfSome o (IsNextCharge plan (charges_at plan now h)) → AreCharged plan (charges_of_boot plan boot h ++ charges_of_boot plan boot (cons_option o []))
charged_option plan boot now h None a t k = subst (λ (z : List Charge). AreCharged plan z) (sym (append-nil (charges_of_boot plan boot h))) a
charged_option plan boot now h (Some c) a t k =
    charged_where plan (charges_of_boot plan boot h) c (boot_at plan c.time == boot) a
    (λ e. let same : boot_at plan now ≡ boot = ap (boot_at plan) (sym t) ∙ eqb-true (boot_at plan c.time) boot e in
    subst (λ (n : ℕ). IsNextCharge plan (charges_of_boot plan n h) c) same k)

-- ## the calls before

calls_more : (log : List Entry) (e : Entry) → calls (log ++ e ∷ []) ≡ calls log ++ cons_option (call_of e) []
calls_more log e = filter_map-append call_of log (e ∷ [])

met_option : (plan : HostPlan) (cs : List Call) (o : Option Call) → IsHostPlan plan → AreMet plan.version (history_of plan cs).contacts → IfSome o IsSizedCall → AreMet plan.version (history_of plan (cs ++ cons_option o [])).contacts
met_option plan cs o v k s = grind (arith, nat_tests, append-nil, history_of-push, call_met)

input_call : (input : Input) (made : Content) → IsSizedInput input → IfSome (call_of_input input made) IsSizedCall
input_call input made s = grind (arith, nat_tests)

module _ (site : Site) (valid : IsSite site) where
  entry_call : (e : Entry) → IsSizedPlace e → IfSome (call_of e) IsSizedCall
  entry_call e k = grind (arith, nat_tests)

  all_met : (before : List Entry) → AllByRecursion IsSizedPlace before → HasMet site before
  all_met before s plan is =
      by_place (λ (z : List Entry). AreMet plan.version (history_of plan (calls z)).contacts) [] before
      (λ front e rest split k.
      subst (λ (z : List Call). AreMet plan.version (history_of plan z).contacts) (sym (calls_more front e))
      (met_option plan (calls front) (call_of e) (host_valid site plan valid is) k (entry_call e (at_place IsSizedPlace before front e rest split s))))
      (record { showable = tt; caps = tt })

  -- what a node makes of what is within the sizes is so too
  pub place_sized : (before : List Entry) (e : Entry) → AllByRecursion IsSizedPlace before → IsMade IsSizedInput site before e → IsSizedPlace e
  place_sized before (Took input made) s m = search (arith, nat_tests, took_sized, all_met, files_sized, each-weaker, taken)
  place_sized before (Started time link class packet) s m = starts_good IsSizedPacket IsSizedPlace leaves site before time link class packet s m

  -- ## the whole log

  module _ (inputs : List Input) (until : ℕ) (log : List Entry) (small : until ≤ 1000000000000001) (z : AllByRecursion IsSizedInput (due until inputs)) (h : IsNodeLog site inputs until log) where
    made : (before : List Entry) (e : Entry) (rest : List Entry) → log ≡ before ++ e ∷ rest → IsMade IsSizedInput site before e
    made before e rest split = made_at IsSizedInput site (due until inputs) log before e rest h.steps z split

    pub all_sized : AllByRecursion IsSizedPlace log
    all_sized = each_place IsSizedPlace log (λ before e rest split s. place_sized before e s (made before e rest split))

    -- the log of each link is legal
    pub legal : (link : ℕ) (o : ℕ × LinkLimits) → limits_out site link ≡ Some o → IsLegal o.1 (port_logs log link)
    legal link o out =
        let all_short : AreShort site log =
        λ k x is. All-from_recursion IsShort (port_logs log k)
        (each-weaker (Brings IsSizedPacket) IsShort short (port_logs log k) (logs_good IsSizedPacket IsSizedPlace leaves k log all_sized)) in
        (node_log_legal site inputs until log valid all_short h link o out).0

    entry_charge : (plan : RouterPlan) → site.plan ≡ plans.Router plan → (before : List Entry) (e : Entry) (rest : List Entry) → log ≡ before ++ e ∷ rest
        → ((boot : ℕ) → AreCharged plan (charges_of_boot plan boot (charges before))) → IfSome (charge_of e) (IsNextCharge plan (charges_at plan (entry_time e) (charges before)))
    entry_charge plan is before (Took input content) rest split g =
        let boot : ℕ = boot_at plan (input_time input) in
        let m = made before (Took input content) rest split in
        let early = at_place (λ (x : Entry). entry_time x < until) log before (Took input content) rest split h.early in
        took_charge site plan before input content valid is (omega (arith, early, small))
        (charges_past plan boot (input_time input) before (past_at log before (Took input content) rest h.in_order split)) (g boot).0 (g boot).1 m.1 m.0
    entry_charge plan is before (Started time link class packet) rest split g = tt

    -- the charges of each boot are a list that a cache can have, and are timely
    pub all_charged : (plan : RouterPlan) → site.plan ≡ plans.Router plan → (boot : ℕ) → AreCharged plan (charges_of_boot plan boot (charges log))
    all_charged plan is =
        by_place (λ (es : List Entry). (boot : ℕ) → AreCharged plan (charges_of_boot plan boot (charges es))) [] log
        (λ before e rest split g boot.
        subst (λ (cs : List Charge). AreCharged plan cs) (sym (charges_more plan boot before e))
        (charged_option plan boot (entry_time e) (charges before) (charge_of e) (g boot) (charge_time e) (entry_charge plan is before e rest split g)))
        (λ boot. (tt, All-nil (λ (c : Charge). IsWithinSeconds plan.clock_offset c.time c.grant)))
