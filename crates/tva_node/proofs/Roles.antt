-- What a router or a host that stands for a node's log tells of its links' logs, and how it goes on.
use Rattle.tva_node.proofs.Common.{nat_tests, ap₂, ◌≡◌, ℕ, ◌+◌, ◌≤◌, Bool, true, false, cond, List, [], ◌∷◌, ◌++◌, Option, Some, None, Result, refl, sym, subst, ◌∙◌, ap, arith, inl, inr, append-nil, ◌==◌, IfOk, option_map, AllByRecursion, find, cons_option, cond-true, cond-false, cases_Bool, eq-eqb, eqb-true, filter_map-append, All-weaker, sum_by_push, LinkLimits, LinkPlan, RouterPlan, Class, Time, HostPlan, Happened, Upper, Outcome, links_of, boot_at, in_force, PacketData, packet_length, class_by_shim, key_of, nonce_in, Charge, Decision, Start, queued_by, Made, Call, Received, history_of, Files, Act, Came, answer_to, answered, delivered, CourierData, charges_at, charges_of_boot, PortLogs, charged_by, entered_by, handle, outcome_of, outgoing_link, ◌with◌, started_on, NodePlan, Input, FromTrace, Arrival, Site, IsSite, IsPlanned, limits_out, Content, Arrived, Sent, Entry, Took, Started, input_time, act_of, act_of_input, act_of_row, acts, call_of, call_of_input, call_of_row, files, reply_at, calls, charge_of, charged, charges, content_at, is_row, port_entry, port_logs, queued_at, count_of_rows, arrived, content_by, goes_out, handled, hosted, made_for, routed, sent_out, content_told, reply_told, each-append, each-weaker, AreLegal, charges_now, Changes, Role, Routed, Hosted, RoleStands, StandsAsRouter, StandsAsHost, IsBy, role_plan, IsUpTo, HostTook, RouterTook, Takes, reply_went, started_by, went_out}
use Rattle.std.specs.Prelude.{min}
use Rattle.tva_base.specs.declared.event.Happened.TheVariants as happens
use Rattle.tva_base.specs.declared.event.DataLine.{DataLine}
use Rattle.tva_base.specs.declared.event.ReplyLine.{ReplyLine}
use Rattle.tva_base.specs.declared.packet.Upper.TheVariants as upper
use Rattle.tva_base.specs.declared.packet.PacketId.{PacketId}
use Rattle.tva_base.specs.declared.packet.Grant.{Grant}
use Rattle.tva_base.specs.Ordinals.{ordinal_behind}
use Rattle.tva_drr.specs.declared.offered.Offered.{Offered}
use Rattle.tva_drr.specs.declared.offered.Offered.TheVariants as offers
use Rattle.tva_port.specs.Log as port
use Rattle.tva_port.specs.Decide.{started_by as port_started}
use Rattle.tva_port.specs.Stands as port_stands
use Rattle.tva_host.specs.declared.made.Receipt.{Receipt}
use Rattle.tva_host.specs.History.{History}
use Rattle.tva_host.specs.Receiving.{receipt_of, upper_of}
use Rattle.tva_host.proofs.Shown.{answer_is_shown, nothing_is_shown}
use Rattle.tva_transfer.specs.Stands as courier
use Rattle.tva_rows.specs.declared.rows.Row.{Row}
use Rattle.tva_router.specs.Stands as router
use Rattle.tva_router.proofs.Known.{known}
use Rattle.tva_router.proofs.Fates.{charges_told, queued_told}
use Rattle.tva_plan.specs.declared.config.NodePlan.TheVariants as plans
use Rattle.tva_run.specs.Entries as entry
use Rattle.tva_node.specs.declared.role.Role.TheVariants as roles
use Rattle.tva_node.proofs.Making.{routed_later, same_links}
use Rattle.tva_run.proofs.Links.{router_out, numbered_out}

-- a time is no earlier
pub by-later : (now later : ℕ) (role : Role) → now ≤ later → IsBy now role → IsBy later role
by-later now later (roles.Router r) l h = routed_later now later r l h
by-later now later (roles.Host x) l h = (let a = h.0 in omega arith, let a = h.1 in omega arith)

-- ## links

-- the only link out of a host is its uplink
only_out : (links : List (ℕ × LinkPlan)) (uplink link : ℕ) (o : ℕ × LinkLimits) → links_of links ≡ uplink ∷ [] → option_map (λ (x : ℕ × LinkPlan). let y : ℕ × LinkLimits = (x.0, x.1.limits) in y) (find (λ x. x.0 == link) links) ≡ Some o → uplink ≡ link
only_out [] uplink link o e f = absurd (cc)
only_out (x ∷ xs) uplink link o e f =
    let here : x.0 ≡ uplink = cc in
    let none : links_of xs ≡ [] = cc in
    elim (cases_Bool (x.0 == link)) [
      | inl a ↦ sym here ∙ eqb-true x.0 link a
      | inr a ↦ absurd (nowhere xs none (sym (ap (option_map (λ (y : ℕ × LinkPlan). let z : ℕ × LinkLimits = (y.0, y.1.limits) in z)) (cond-false (x.0 == link) (Some x) (find (λ y. y.0 == link) xs) a)) ∙ f))
    ]
  where
    nowhere : (xs : List (ℕ × LinkPlan)) → links_of xs ≡ [] → option_map (λ (x : ℕ × LinkPlan). let y : ℕ × LinkLimits = (x.0, x.1.limits) in y) (find (λ x. x.0 == link) xs) ≡ Some o → ⊥
    nowhere [] n g = cc
    nowhere (y ∷ ys) n g = cc

pub host_out : (site : Site) (h : Hosted) (log : List Entry) (link : ℕ) (o : ℕ × LinkLimits) → IsSite site → site.plan ≡ plans.Host h.courier.host.plan → StandsAsHost site h log → limits_out site link ≡ Some o → (h.uplink ≡ link) × (o ≡ (link, h.port.limits))
host_out site h log link o s e st f =
    let planned : IsPlanned (plans.Host h.courier.host.plan) site.links = subst (λ (p : NodePlan). IsPlanned p site.links) e s.planned in
    let same : h.uplink ≡ link = st.uplink ∙ only_out site.links h.courier.host.plan.uplink link o planned.1 f in
    let there : limits_out site link ≡ Some (link, h.port.limits) = subst (λ k. limits_out site k ≡ Some (k, h.port.limits)) same st.limits in
    let k : Some o ≡ Some (link, h.port.limits) = sym f ∙ there in
    (same, some_same o (link, h.port.limits) k)
  where
    some_same : (a b : ℕ × LinkLimits) → Some a ≡ Some b → a ≡ b
    some_same a b e = cc

later-weaker : (time now : ℕ) (log : List port.Entry) → time ≤ now → port.NoneLater time log → port.NoneLater now log
later-weaker time now log h n = All-weaker (λ (x : port.Entry). port.entry_time x ≤ time) (λ (x : port.Entry). port.entry_time x ≤ now) (λ x q. omega arith) log n

-- the log of each link is legal
pub role_legal : (site : Site) (role : Role) (log : List Entry) (now : ℕ) → IsSite site → site.plan ≡ role_plan role → RoleStands site role log → IsBy now role → AreLegal site now log
role_legal site (roles.Router r) log now s e h b = λ link o f.
    let is = known r.router (charges_of_boot r.router.built r.changes.boot (charges log)) (port_logs log) link o.1 now h.router (same_links now r b link ∙ (router_out site r.router.built link s e ∙ numbered_out site link o f)) b.last in
    (is.legal, is.later)
role_legal site (roles.Host h) log now s e st b = λ link o f.
    let out = host_out site h log link o s e st f in
    let limits : h.port.limits ≡ o.1 = ap (λ (p : ℕ × LinkLimits). p.1) (sym out.1) in
    rw (← limits, ← out.0) (st.port.legal, later-weaker h.port.last now (port_logs log h.uplink) b.1 st.port.past)

-- ## one more entry

-- what is queued, as one entry and as a list
pub entered_is : (link time : ℕ) (outcome : Outcome) (class : Class) (packet : PacketData) → cons_option (queued_at link time outcome class packet) [] ≡ entered_by outcome time class packet link
entered_is link time outcome class packet = grind (arith, nat_tests)

-- a link's log with one more entry
pub logs_more : (log : List Entry) (e : Entry) (link : ℕ) → port_logs (log ++ e ∷ []) link ≡ port_logs log link ++ cons_option (port_entry link e) []
logs_more log e link = filter_map-append (port_entry link) log (e ∷ [])

pub charges_more : (log : List Entry) (e : Entry) → charges (log ++ e ∷ []) ≡ charges log ++ cons_option (charge_of e) []
charges_more log e = filter_map-append charge_of log (e ∷ [])

charged_is : (time : ℕ) (packet : PacketData) (o : Option Grant) → cons_option (option_map (charged time packet) o) [] ≡ charged_by o time (nonce_in packet.carried) (packet_length packet)
charged_is time packet o = grind (arith, nat_tests)

-- the ordinal behind one more row
rows_more : (log : List Entry) (e : Entry) → count_of_rows (log ++ e ∷ []) ≡ count_of_rows log + cond (is_row e) 1 0
rows_more log e = sum_by_push (λ x. cond (is_row x) 1 0) log e

pub ordinal_row : (log : List Entry) (row : Row) (made : Content) (next : ℕ) → next ≡ ordinal_behind (count_of_rows log) → min (next + 1) 18446744073709551615 ≡ ordinal_behind (count_of_rows (log ++ Took (FromTrace row) made ∷ []))
ordinal_row log row made next e = omega (arith, e, rows_more log (Took (FromTrace row) made))

pub ordinal_arrival : (log : List Entry) (time : Time) (link : ℕ) (packet : PacketData) (made : Content) (next : ℕ) → next ≡ ordinal_behind (count_of_rows log) → next ≡ ordinal_behind (count_of_rows (log ++ Took (Arrival time link packet) made ∷ []))
ordinal_arrival log time link packet made next e = omega (arith, e, rows_more log (Took (Arrival time link packet) made))

-- what is charged at a time
charged_then : (o : Option Grant) (now nonce bytes : ℕ) → AllByRecursion (λ (c : Charge). c.time ≡ now) (charged_by o now nonce bytes)
charged_then o now nonce bytes = grind (arith, nat_tests)

-- a router goes on with an arrival, after all changes up to then
pub router_took : (r new : Routed) (log : List Entry) (input : Input) (from : Option ℕ) (packet : PacketData) → IsUpTo (input_time input) r → StandsAsRouter r log
    → (let h = charges_of_boot r.router.built r.changes.boot (charges log) in
    let is = handle r.router.plan h (port_logs log) (input_time input) from packet in router.StandsFor new.router (h ++ is.charges) (port_logs log with is.queued))
    → new.router.built ≡ r.router.built → new.changes ≡ r.changes
    → new.next ≡ ordinal_behind (count_of_rows (log ++ Took input (arrived r.router.built log (input_time input) from packet) ∷ []))
    → StandsAsRouter new (log ++ Took input (arrived r.router.built log (input_time input) from packet) ∷ [])
unfolding arrived
router_took r new log input from packet up h st built changes next =
    let time = input_time input in
    let plan = r.router.built in
    let boot = r.changes.boot in
    let g = charges_at plan time (charges log) in
    let is = handled plan log time from packet in
    let entry = Took input (Arrived from packet is.fate is.onward) in
    let here : charges_of_boot plan boot (charges log) ≡ g = ap (λ (k : ℕ). charges_of_boot plan k (charges log)) up.boot in
    let st' : router.StandsFor new.router (g ++ is.charges) (port_logs log with is.queued) =
    subst (λ (p : RouterPlan). router.StandsFor new.router (g ++ (handle p g (port_logs log) time from packet).charges) (port_logs log with (handle p g (port_logs log) time from packet).queued)) up.plan
    (subst (λ (k : List Charge). router.StandsFor new.router (k ++ (handle r.router.plan k (port_logs log) time from packet).charges) (port_logs log with (handle r.router.plan k (port_logs log) time from packet).queued)) here st) in
    let told : is.charges ≡ charged_by is.fate.charge time (nonce_in packet.carried) (packet_length packet) = charges_told (in_force plan time) g (port_logs log) time from packet in
    let now : AllByRecursion (λ (c : Charge). c.time ≡ time) is.charges =
    subst (AllByRecursion (λ (c : Charge). c.time ≡ time)) (sym told) (charged_then is.fate.charge time (nonce_in packet.carried) (packet_length packet)) in
    let more : charges (log ++ entry ∷ []) ≡ charges log ++ is.charges =
    charges_more log entry ∙ ap (λ (k : List Charge). charges log ++ k) (charged_is time packet is.fate.charge ∙ sym told) in
    let in_boot : charges_of_boot new.router.built new.changes.boot (charges (log ++ entry ∷ [])) ≡ g ++ is.charges =
    ap (λ (p : RouterPlan). charges_of_boot p new.changes.boot (charges (log ++ entry ∷ []))) built
    ∙ (ap (λ (c : Changes). charges_of_boot plan c.boot (charges (log ++ entry ∷ []))) changes
    ∙ (ap (λ (k : ℕ). charges_of_boot plan k (charges (log ++ entry ∷ []))) up.boot
    ∙ (ap (charges_at plan time) more ∙ charges_now plan time (charges log) is.charges now))) in
    let no_later : AllByRecursion (λ (c : Charge). boot_at plan c.time ≤ boot) (charges log ++ is.charges) =
    each-append (λ (c : Charge). boot_at plan c.time ≤ boot) (charges log) is.charges h.boots
    (each-weaker (λ (c : Charge). c.time ≡ time) (λ (c : Charge). boot_at plan c.time ≤ boot) (λ c e. let k : boot_at plan c.time ≡ boot_at plan time = ap (boot_at plan) e in let b = up.boot in omega (arith, k, b)) is.charges now) in
    let logs : (link : ℕ) → port_logs (log ++ entry ∷ []) link ≡ port_logs log link ++ is.queued link =
    (λ link. logs_more log entry link ∙ ap (λ (es : List port.Entry). port_logs log link ++ es) (entered_is link time is.fate.outcome is.fate.class is.onward ∙ sym (queued_told (in_force plan time) g (port_logs log) time from packet link))) in
    record {
      router = subst (λ (k : List Charge). router.StandsFor new.router k (port_logs (log ++ entry ∷ []))) (sym in_boot)
          (subst (λ (k : PortLogs). router.StandsFor new.router (g ++ is.charges) k) (λ i link. sym (logs link) i) st');
      boots = subst (λ (p : RouterPlan). AllByRecursion (λ (c : Charge). boot_at p c.time ≤ new.changes.boot) (charges (log ++ entry ∷ []))) (sym built)
          (subst (λ (k : Changes). AllByRecursion (λ (c : Charge). boot_at plan c.time ≤ k.boot) (charges (log ++ entry ∷ []))) (sym changes)
          (subst (AllByRecursion (λ (c : Charge). boot_at plan c.time ≤ boot)) (sym more) no_later));
      next = next;
    }

pub arrived_told : (plan : RouterPlan) (log : List Entry) (time : ℕ) (from : Option ℕ) (packet : PacketData) → content_told (arrived plan log time from packet) ≡ happens.Arrived packet.id (packet_length packet) from (handled plan log time from packet).fate
unfolding arrived
arrived_told plan log time from packet = refl

-- ## decisions

-- a start on a link is no charge, no row, no call and nothing of files
charges_started : (log : List Entry) (now link : ℕ) (d : Decision) → charges (log ++ started_by link now d) ≡ charges log
charges_started log now link d = grind (arith, nat_tests, charges_more, append-nil)

rows_started : (log : List Entry) (now link : ℕ) (d : Decision) → count_of_rows (log ++ started_by link now d) ≡ count_of_rows log
rows_started log now link d = grind (arith, nat_tests, rows_more, append-nil)

calls_started : (log : List Entry) (now link : ℕ) (d : Decision) → calls (log ++ started_by link now d) ≡ calls log
calls_started log now link d = grind (arith, nat_tests, filter_map-append, append-nil)

acts_started : (log : List Entry) (now link : ℕ) (d : Decision) → acts (log ++ started_by link now d) ≡ acts log
acts_started log now link d = grind (arith, nat_tests, filter_map-append, append-nil)

-- a link's log after a decision on one
logs_started : (log : List Entry) (now on : ℕ) (d : Decision) (link : ℕ) → port_logs (log ++ started_by on now d) link ≡ port_logs log link ++ started_on on d now link
logs_started log now on (Start class packet) link = logs_more log (Started now on class packet) link ∙ ap (λ (es : List port.Entry). port_logs log link ++ es) (by_test (link == on))
  where
    by_test : (b : Bool) → cons_option (cond b (Some (port.Started now class packet)) None) [] ≡ cond b (port.Started now class packet ∷ []) []
    by_test true = refl
    by_test false = refl
logs_started log now on _ link = ap (λ (es : List Entry). port_logs es link) (append-nil log) ∙ nothing (link == on)
  where
    nothing : (b : Bool) → port_logs log link ≡ port_logs log link ++ cond b [] []
    nothing true = sym (append-nil (port_logs log link))
    nothing false = sym (append-nil (port_logs log link))

pub router_decided : (r new : Routed) (log : List Entry) (link now : ℕ) (d : Decision) → StandsAsRouter r log
    → router.StandsFor new.router (charges_of_boot r.router.built r.changes.boot (charges log)) (port_logs log with started_on link d now)
    → new.router.built ≡ r.router.built → new.changes ≡ r.changes → new.next ≡ r.next → StandsAsRouter new (log ++ started_by link now d)
router_decided r new log link now d h st built changes next =
    let same : charges (log ++ started_by link now d) ≡ charges log = charges_started log now link d in
    let boot : charges_of_boot new.router.built new.changes.boot (charges (log ++ started_by link now d)) ≡ charges_of_boot r.router.built r.changes.boot (charges log) =
    ap (λ (p : RouterPlan). charges_of_boot p new.changes.boot (charges (log ++ started_by link now d))) built
    ∙ (ap (λ (c : Changes). charges_of_boot r.router.built c.boot (charges (log ++ started_by link now d))) changes
    ∙ ap (charges_of_boot r.router.built r.changes.boot) same) in
    record {
      router = subst (λ (g : List Charge). router.StandsFor new.router g (port_logs (log ++ started_by link now d))) (sym boot)
          (subst (λ (k : PortLogs). router.StandsFor new.router (charges_of_boot r.router.built r.changes.boot (charges log)) k) (λ i on. sym (logs_started log now link d on) i) st);
      boots = subst (λ (p : RouterPlan). AllByRecursion (λ (c : Charge). boot_at p c.time ≤ new.changes.boot) (charges (log ++ started_by link now d))) (sym built)
          (subst (λ (k : Changes). AllByRecursion (λ (c : Charge). boot_at r.router.built c.time ≤ k.boot) (charges (log ++ started_by link now d))) (sym changes)
          (subst (AllByRecursion (λ (c : Charge). boot_at r.router.built c.time ≤ r.changes.boot)) (sym same) h.boots));
      next = next ∙ (h.next ∙ ap ordinal_behind (sym (rows_started log now link d)));
    }

started_here : (link : ℕ) (d : Decision) (now : ℕ) → started_on link d now link ≡ port_started d now
started_here link d now = cond-true (link == link) (port_started d now) [] (eq-eqb link link refl)

pub host_decided : (site : Site) (h new : Hosted) (log : List Entry) (now : ℕ) (d : Decision) → StandsAsHost site h log → port_stands.StandsFor new.port (port_logs log h.uplink ++ port_started d now) → new.courier ≡ h.courier → new.uplink ≡ h.uplink → new.port.limits ≡ h.port.limits
    → StandsAsHost site new (log ++ started_by h.uplink now d)
host_decided site h new log now d st p e u l = record {
  courier = subst (λ (cs : List Call). courier.StandsFor new.courier cs (acts (log ++ started_by h.uplink now d))) (sym (calls_started log now h.uplink d))
      (subst (λ (xs : List Act). courier.StandsFor new.courier (calls log) xs) (sym (acts_started log now h.uplink d))
      (subst (λ (x : CourierData). courier.StandsFor x (calls log) (acts log)) (sym e) st.courier));
  node = ap (λ (x : CourierData). x.host.node) e ∙ st.node;
  uplink = u ∙ (st.uplink ∙ ap (λ (x : CourierData). x.host.plan.uplink) (sym e));
  limits = subst (λ (k : ℕ). limits_out site k ≡ Some (k, new.port.limits)) (sym u) (st.limits ∙ ap (λ (x : LinkLimits). Some (h.uplink, x)) (sym l));
  port = subst (λ (es : List port.Entry). port_stands.StandsFor new.port es) (sym (ap (port_logs (log ++ started_by h.uplink now d)) u ∙ (logs_started log now h.uplink d h.uplink ∙ ap (λ (es : List port.Entry). port_logs log h.uplink ++ es) (started_here h.uplink d now)))) p;
}

-- ## a host's inputs

calls_more : (log : List Entry) (input : Input) (made : Content) → calls (log ++ Took input made ∷ []) ≡ calls log ++ cons_option (call_of_input input made) []
calls_more log input made = filter_map-append call_of log (Took input made ∷ [])

acts_more : (log : List Entry) (input : Input) (made : Content) → acts (log ++ Took input made ∷ []) ≡ acts log ++ cons_option (act_of_input input) []
acts_more log input made = filter_map-append act_of log (Took input made ∷ [])

-- a host goes on with an input
pub host_took : (site : Site) (h new : Hosted) (log : List Entry) (input : Input) (made : Content) → StandsAsHost site h log
    → courier.StandsFor new.courier (calls log ++ cons_option (call_of_input input made) []) (acts log ++ cons_option (act_of_input input) [])
    → port_stands.StandsFor new.port (port_logs log h.uplink ++ cons_option (content_at h.uplink (input_time input) made) [])
    → new.courier.host.node ≡ h.courier.host.node → new.courier.host.plan ≡ h.courier.host.plan → new.uplink ≡ h.uplink → new.port.limits ≡ h.port.limits
    → StandsAsHost site new (log ++ Took input made ∷ [])
host_took site h new log input made st cs p n e u l = record {
  courier = subst (λ (xs : List Call). courier.StandsFor new.courier xs (acts (log ++ Took input made ∷ []))) (sym (calls_more log input made))
      (subst (λ (xs : List Act). courier.StandsFor new.courier (calls log ++ cons_option (call_of_input input made) []) xs) (sym (acts_more log input made)) cs);
  node = n ∙ st.node;
  uplink = u ∙ (st.uplink ∙ ap (λ (x : HostPlan). x.uplink) (sym e));
  limits = subst (λ (k : ℕ). limits_out site k ≡ Some (k, new.port.limits)) (sym u) (st.limits ∙ ap (λ (x : LinkLimits). Some (h.uplink, x)) (sym l));
  port = subst (λ (es : List port.Entry). port_stands.StandsFor new.port es) (sym (ap (port_logs (log ++ Took input made ∷ [])) u ∙ logs_more log (Took input made) h.uplink)) p;
}

-- where a packet goes out of a host
pub out_is : (site : Site) (h : Hosted) (log : List Entry) (packet : PacketData) → StandsAsHost site h log → goes_out site h.courier.host.plan log packet ≡ went_out h.uplink h.port.limits (port_logs log h.uplink) packet
out_is site h log packet st = grind (arith, nat_tests)

-- where a queueing ends up and what it adds
pub queued_to : (uplink now : ℕ) (class : Class) (packet : PacketData) (o : Offered PacketData) → entered_by (outcome_of uplink o) now class packet uplink ≡ queued_by o now class (key_of class packet) packet
queued_to uplink now class packet o = grind (arith, nat_tests)

-- ## what the code tells

pub if_ok : {T E : Type 0} (P Q : T → Type 0) (r : Result T E) → ((x : T) → P x → Q x) → IfOk r P → IfOk r Q
if_ok P Q r f h = grind (arith, nat_tests)

-- a router has its link
pub router_has_out : (site : Site) (role : Role) (r : Routed) (link : ℕ) (limits : LinkLimits) (now : ℕ) → IsBy now role → IsSite site → site.plan ≡ role_plan role → role ≡ roles.Router r → limits_out site link ≡ Some (link, limits) → outgoing_link r.router.plan link ≡ Some (link, limits)
router_has_out site role r link limits now by s e is out = grind (arith, nat_tests, same_links, router_out)

pub not_none : (o : Option (ℕ × LinkLimits)) (x : ℕ × LinkLimits) → o ≡ Some x → o ≡ None → ⊥
not_none o x e f = cc

-- a router takes an input, after all changes up to then
pub router_takes : (r mid new : Routed) (number : ℕ) (plan : RouterPlan) (log : List Entry) (input : Input) (from : Option ℕ) (packet : PacketData) (told : Happened) → IsUpTo (input_time input) r → StandsAsRouter r log
    → r.router.built ≡ plan → mid.router ≡ r.router → mid.changes ≡ r.changes
    → routed number plan log input ≡ Some (arrived plan log (input_time input) from packet)
    → (let h = charges_of_boot r.router.built r.changes.boot (charges log) in told ≡ happens.Arrived packet.id (packet_length packet) from (handle mid.router.plan h (port_logs log) (input_time input) from packet).fate)
    → (let h = charges_of_boot r.router.built r.changes.boot (charges log) in
    let is = handle mid.router.plan h (port_logs log) (input_time input) from packet in router.StandsFor new.router (h ++ is.charges) (port_logs log with is.queued))
    → new.router.built ≡ mid.router.built → new.changes ≡ mid.changes
    → new.next ≡ ordinal_behind (count_of_rows (log ++ Took input (arrived plan log (input_time input) from packet) ∷ []))
    → RouterTook number plan log input told new
router_takes r mid new number plan log input from packet told up h own e f content is st built changes next =
    let time = input_time input in
    let k = charges_of_boot r.router.built r.changes.boot (charges log) in
    let same : mid.router.plan ≡ r.router.plan = ap (λ (v : router.RouterData). v.plan) e in
    let there : k ≡ charges_at plan time (charges log) = ap (λ (b : ℕ). charges_of_boot r.router.built b (charges log)) up.boot ∙ ap (λ (p : RouterPlan). charges_at p time (charges log)) own in
    let plan_now : mid.router.plan ≡ in_force plan time = same ∙ (up.plan ∙ ap (λ (p : RouterPlan). in_force p time) own) in (
      arrived plan log time from packet,
      content,
      is ∙ (ap₂ (λ (p : RouterPlan) (g : List Charge). happens.Arrived packet.id (packet_length packet) from (handle p g (port_logs log) time from packet).fate) plan_now there ∙ sym (arrived_told plan log time from packet)),
      subst (λ (p : RouterPlan). new.next ≡ ordinal_behind (count_of_rows (log ++ Took input (arrived p log time from packet) ∷ [])) → StandsAsRouter new (log ++ Took input (arrived p log time from packet) ∷ [])) own
          (router_took r new log input from packet up h
          (subst (λ (p : RouterPlan). router.StandsFor new.router (k ++ (handle p k (port_logs log) time from packet).charges) (port_logs log with (handle p k (port_logs log) time from packet).queued)) same st)
          (built ∙ ap (λ (v : router.RouterData). v.built) e) (changes ∙ f)) next,
    )

-- a host takes an input
pub host_takes : (site : Site) (role : Role) (h new : Hosted) (log : List Entry) (input : Input) (told : Happened) → site.plan ≡ role_plan role → role ≡ roles.Host h → HostTook site h.courier.host.plan log input told new → Takes site log input told (roles.Host new)
host_takes site role h new log input told e is t = (hosted site h.courier.host.plan log input, ap (λ (p : NodePlan). content_by site p log input) (e ∙ ap role_plan is), t.0, t.1)

-- a row at a host for which it makes these packets
abbrev RowTook : Site → HostPlan → List Entry → Row → Happened → Hosted → Option Made → Type 0
RowTook site plan log row told new made = (told ≡ content_told (sent_out site plan log made)) × StandsAsHost site new (log ++ Took (FromTrace row) (sent_out site plan log made) ∷ [])

-- so it is with what it makes
by_made : (site : Site) (h new : Hosted) (log : List Entry) (row : Row) (told : Happened) (made : Option Made) → StandsAsHost site h log
    → made ≡ made_for h.courier.host.node h.courier.host.plan (history_of h.courier.host.plan (calls log)) (files h.courier.host.plan log) row.time.0 row.what
    → RowTook site h.courier.host.plan log row told new made → HostTook site h.courier.host.plan log (FromTrace row) told new
by_made site h new log row told made st e took = grind (arith, nat_tests)

-- a row at a host for which it makes a packet
pub host_row : (site : Site) (h new : Hosted) (log : List Entry) (row : Row) (made : Made) (id : PacketId) (bytes : ℕ) (outcome : Outcome) → StandsAsHost site h log
    → Some made ≡ made_for h.courier.host.node h.courier.host.plan (history_of h.courier.host.plan (calls log)) (files h.courier.host.plan log) row.time.0 row.what
    → id ≡ made.packet.id → bytes ≡ packet_length made.packet
    → outcome ≡ went_out h.uplink h.port.limits (port_logs log h.uplink) made.packet
    → courier.StandsFor new.courier (calls log ++ call_of_row row.time.0 row.what made.packet ∷ []) (acts log ++ cons_option (act_of_row row.what) [])
    → port_stands.StandsFor new.port (port_logs log h.uplink ++ entered_by outcome row.time.0 (class_by_shim made.packet.carried) made.packet h.uplink)
    → new.courier.host.node ≡ h.courier.host.node → new.courier.host.plan ≡ h.courier.host.plan → new.uplink ≡ h.uplink → new.port.limits ≡ h.port.limits
    → HostTook site h.courier.host.plan log (FromTrace row) (happens.Sent id bytes made.shape outcome) new
host_row site h new log row made id bytes outcome st e ei eb eo cs ps n p u l =
    let plan = h.courier.host.plan in
    let now = row.time.0 in
    let out : outcome ≡ goes_out site plan log made.packet = eo ∙ sym (out_is site h log made.packet st) in
    by_made site h new log row (happens.Sent id bytes made.shape outcome) (Some made) st e (
      (λ i. happens.Sent (ei i) (eb i) made.shape (out i)),
      host_took site h new log (FromTrace row) (Sent made (goes_out site plan log made.packet)) st cs
          (subst (λ (es : List port.Entry). port_stands.StandsFor new.port (port_logs log h.uplink ++ es)) (sym (entered_is h.uplink now (goes_out site plan log made.packet) (class_by_shim made.packet.carried) made.packet))
          (subst (λ (o : Outcome). port_stands.StandsFor new.port (port_logs log h.uplink ++ entered_by o now (class_by_shim made.packet.carried) made.packet h.uplink)) out ps))
          n p u l,
    )

-- a tick for which it makes none
pub host_tick : (site : Site) (h new : Hosted) (log : List Entry) (row : Row) → StandsAsHost site h log
    → None ≡ made_for h.courier.host.node h.courier.host.plan (history_of h.courier.host.plan (calls log)) (files h.courier.host.plan log) row.time.0 row.what
    → courier.StandsFor new.courier (calls log ++ []) (acts log ++ cons_option (act_of_row row.what) [])
    → port_stands.StandsFor new.port (port_logs log h.uplink)
    → new.courier.host.node ≡ h.courier.host.node → new.courier.host.plan ≡ h.courier.host.plan → new.uplink ≡ h.uplink → new.port.limits ≡ h.port.limits
    → HostTook site h.courier.host.plan log (FromTrace row) happens.Ticked new
host_tick site h new log row st e cs ps n p u l =
    by_made site h new log row happens.Ticked None st e (
      refl,
      host_took site h new log (FromTrace row) entry.Ticked st cs
          (subst (λ (es : List port.Entry). port_stands.StandsFor new.port es) (sym (append-nil (port_logs log h.uplink))) ps) n p u l,
    )

-- the upper part of the reply is the answer; a packet for another host has none
answer_shown : (node : ℕ) (plan : HostPlan) (h : History) (known : Files) (now : ℕ) (p : PacketData)
    → upper_of (receipt_of node plan h now p (answered plan.address known p)).reply ≡ answered plan.address known p
unfolding answer_to
answer_shown node plan h known now p = grind (arith, nat_tests, answer_is_shown, answered, known, nothing_is_shown)

-- an arrival at a host
pub host_arrival : (site : Site) (h new : Hosted) (log : List Entry) (now : Time) (link : ℕ) (packet : PacketData) (receipt : Receipt) (range : Option DataLine) (id : PacketId) (bytes payload : ℕ) (told : Option ReplyLine) → StandsAsHost site h log
    → receipt ≡ receipt_of h.courier.host.node h.courier.host.plan (history_of h.courier.host.plan (calls log)) now.0 packet (answered h.courier.host.plan.address (files h.courier.host.plan log) packet)
    → range ≡ delivered h.courier.host.plan.address (files h.courier.host.plan log) packet
    → id ≡ packet.id → bytes ≡ packet_length packet → payload ≡ packet.payload
    → told ≡ reply_told receipt.reply (reply_went h.uplink h.port.limits (port_logs log h.uplink) receipt.reply)
    → courier.StandsFor new.courier (calls log ++ Received now.0 packet (answered h.courier.host.plan.address (files h.courier.host.plan log) packet) ∷ []) (acts log ++ Came packet ∷ [])
    → port_stands.StandsFor new.port (port_logs log h.uplink ++ cons_option (reply_at h.uplink now.0 receipt.reply (reply_went h.uplink h.port.limits (port_logs log h.uplink) receipt.reply)) [])
    → new.courier.host.node ≡ h.courier.host.node → new.courier.host.plan ≡ h.courier.host.plan → new.uplink ≡ h.uplink → new.port.limits ≡ h.port.limits
    → HostTook site h.courier.host.plan log (Arrival now link packet) (happens.Received id bytes link payload receipt.what receipt.back told range) new
host_arrival site h new log now link packet receipt range id bytes payload told st e er ei eb ep et cs ps n p u l =
    let plan = h.courier.host.plan in
    let above = answered plan.address (files plan log) packet in
    let r = receipt_of site.number plan (history_of plan (calls log)) now.0 packet above in
    let same : receipt ≡ r = e ∙ ap (λ (k : ℕ). receipt_of k plan (history_of plan (calls log)) now.0 packet above) st.node in
    let went : (o : Option Made) → reply_went h.uplink h.port.limits (port_logs log h.uplink) o ≡ option_map (λ made. goes_out site plan log made.packet) o = (λ o. replies o) in
    let shown : upper_of r.reply ≡ above = answer_shown site.number plan (history_of plan (calls log)) (files plan log) now.0 packet in (
      (λ i. happens.Received (ei i) (eb i) link (ep i) (same i).what (same i).back ((et ∙ (ap (λ (x : Receipt). reply_told x.reply (reply_went h.uplink h.port.limits (port_logs log h.uplink) x.reply)) same ∙ ap (reply_told r.reply) (went r.reply))) i) (er i)),
      host_took site h new log (Arrival now link packet) (entry.Received link packet r (option_map (λ made. goes_out site plan log made.packet) r.reply) (delivered plan.address (files plan log) packet)) st
          (subst (λ (a : Upper). courier.StandsFor new.courier (calls log ++ Received now.0 packet a ∷ []) (acts log ++ Came packet ∷ [])) (sym shown) cs)
          (subst (λ (o : Option Outcome). port_stands.StandsFor new.port (port_logs log h.uplink ++ cons_option (reply_at h.uplink now.0 r.reply o) [])) (went r.reply)
          (subst (λ (x : Receipt). port_stands.StandsFor new.port (port_logs log h.uplink ++ cons_option (reply_at h.uplink now.0 x.reply (reply_went h.uplink h.port.limits (port_logs log h.uplink) x.reply)) [])) same ps))
          n p u l,
    )
  where
    replies : (o : Option Made) → reply_went h.uplink h.port.limits (port_logs log h.uplink) o ≡ option_map (λ made. goes_out site h.courier.host.plan log made.packet) o
    replies None = refl
    replies (Some made) = ap Some (sym (out_is site h log made.packet st))
