-- What the log of a node is to its links: what is queued there had its place, and what starts is the free link's decision.
use Rattle.tva_run.proofs.Common.{nat_tests, ◌≡◌, ℕ, suc, ◌+◌, ◌≤◌, ◌<◌, Bool, true, false, cond, List, [], ◌∷◌, Option, Some, None, refl, sym, ap, ◌∙◌, subst, arith, ◌==◌, nat_lt, nat_le, option_map, option_and_then, IfSome, AllByRecursion, find, cons_option, lt-ltb, le-ltb, All-from_recursion, same_Some, Address, LinkLimits, Class, LinkPlan, RouterPlan, HostPlan, in_force, PacketData, class_by_shim, Start, decision, RestsAt, MissesNone, Follows, Judged, judge, PortLogs, offered, outcome_of, sent, outgoing_link, way_to, arrival, goes_on, stopped, forwarded, handle, link_to, charges_at, Made, answered, NodePlan, cut, Input, FromTrace, Arrival, Site, IsSite, limits_out, Content, Entry, Started, input_time, entry_time, charges, content_at, queued_at, reply_at, port_entry, port_logs, arrived, routed, goes_out, hosted, content_by, content, sent_out, IsShort, start_of, start_after, starts, LeavesNone}
use Rattle.tva_base.proofs.Each.{find-map}
use Rattle.tva_drr.specs.declared.offered.Offered.{Offered}
use Rattle.tva_port.specs.Log as port
use Rattle.tva_plan.specs.declared.config.NodePlan.TheVariants as plans
use Rattle.tva_run.proofs.Joins.{filter-true, filter-false}

-- ## links out

abbrev limited : ℕ × LinkPlan → ℕ × LinkLimits
limited o = (o.0, o.1.limits)

found_number : (link : ℕ) (o : ℕ × LinkPlan) (os : List (ℕ × LinkPlan)) → find (λ x. x.0 == link) os ≡ Some o → o.0 ≡ link
found_number link o [] e = absurd (cc)
found_number link o (x ∷ xs) e = grind (arith, nat_tests, same_Some, (found_number link o xs))

-- a link out has its number
pub number_is : (site : Site) (link : ℕ) (x : ℕ × LinkLimits) → limits_out site link ≡ Some x → x.0 ≡ link
number_is site link x e = grind (arith, nat_tests, same_Some, found_number)

pub numbered_out : (site : Site) (link : ℕ) (x : ℕ × LinkLimits) → limits_out site link ≡ Some x → limits_out site link ≡ Some (link, x.1)
numbered_out site link x e = grind (arith, nat_tests, number_is)

-- a router's links out are its plan's
pub router_out : (site : Site) (plan : RouterPlan) (link : ℕ) → IsSite site → site.plan ≡ plans.Router plan → outgoing_link plan link ≡ limits_out site link
router_out site plan link s e = grind (arith, nat_tests, find-map)

-- a way out of the node
abbrev IsWayOut : Site → Option (ℕ × LinkLimits) → Type 0
IsWayOut site None = Unit {0}
IsWayOut site (Some o) = limits_out site o.0 ≡ Some o

own_way : (site : Site) (link : ℕ) (way : Option (ℕ × LinkLimits)) → limits_out site link ≡ way → IsWayOut site way
own_way site link None e = tt
own_way site link (Some o) e = subst (λ k. limits_out site k ≡ Some o) (sym (number_is site link o e)) e

link_way : (site : Site) (link : ℕ) → IsWayOut site (limits_out site link)
link_way site link = own_way site link (limits_out site link) refl

-- whatever changes, a router's links out stay
pub same_out : (plan : RouterPlan) (now link : ℕ) → outgoing_link (in_force plan now) link ≡ outgoing_link plan link
unfolding in_force
same_out plan now link = refl

router_way : (site : Site) (plan : RouterPlan) (now : ℕ) (dst : Address) → IsSite site → site.plan ≡ plans.Router plan → IsWayOut site (way_to (in_force plan now) dst)
router_way site plan now dst s e = by_link (link_to (in_force plan now).routes dst)
  where
    by_link : (o : Option ℕ) → IsWayOut site (option_and_then (outgoing_link (in_force plan now)) o)
    by_link None = tt
    by_link (Some link) = own_way site link (outgoing_link (in_force plan now) link) (sym (same_out plan now link ∙ router_out site plan link s e))

-- ## times

pub port_time : (link : ℕ) (e : Entry) → IfSome (port_entry link e) (λ x. port.entry_time x ≡ entry_time e)
port_time link v0 = grind (arith, nat_tests)

past_option : (now t : ℕ) (o : Option port.Entry) (xs : List port.Entry) → t ≤ now → IfSome o (λ x. port.entry_time x ≡ t) → AllByRecursion (λ x. port.entry_time x ≤ now) xs → AllByRecursion (λ x. port.entry_time x ≤ now) (cons_option o xs)
past_option now t None xs l e a = a
past_option now t (Some x) xs l e a = (let k : port.entry_time x ≡ t = e in omega (arith, k), a)

past_all : (link time : ℕ) (log : List Entry) → AllByRecursion (λ e. entry_time e ≤ time) log → AllByRecursion (λ x. port.entry_time x ≤ time) (port_logs log link)
past_all link time [] a = tt
past_all link time (e ∷ es) a = past_option time (entry_time e) (port_entry link e) (port_logs es link) a.0 (port_time link e) (past_all link time es a.1)

-- none of a link's log is later than all of the node's
pub logs_past : (link time : ℕ) (log : List Entry) → AllByRecursion (λ e. entry_time e ≤ time) log → port.NoneLater time (port_logs log link)
logs_past link time log a = All-from_recursion (λ (x : port.Entry). port.entry_time x ≤ time) (port_logs log link) (past_all link time log a)

cut_keep : (until t : ℕ) (o : Option port.Entry) (xs : List port.Entry) → t < until → IfSome o (λ x. port.entry_time x ≡ t) → port.entries_before until (cons_option o xs) ≡ cons_option o (port.entries_before until xs)
cut_keep until t None xs l e = refl
cut_keep until t (Some x) xs l e = filter-true (λ (y : port.Entry). nat_lt (port.entry_time y) until) x xs (lt-ltb (port.entry_time x) until (let k : port.entry_time x ≡ t = e in omega (arith, k)))

cut_drop : (until t : ℕ) (o : Option port.Entry) (xs : List port.Entry) → until ≤ t → IfSome o (λ x. port.entry_time x ≡ t) → port.entries_before until (cons_option o xs) ≡ port.entries_before until xs
cut_drop until t None xs l e = refl
cut_drop until t (Some x) xs l e = filter-false (λ (y : port.Entry). nat_lt (port.entry_time y) until) x xs (le-ltb (port.entry_time x) until (let k : port.entry_time x ≡ t = e in omega (arith, k)))

-- what a link's log has before a time
pub logs-cut : (link until : ℕ) (log : List Entry) → port_logs (cut entry_time until log) link ≡ port.entries_before until (port_logs log link)
logs-cut link until [] = refl
logs-cut link until (e ∷ es) = grind (arith, nat_tests, filter-true, cut_keep, port_time, filter-false, cut_drop, (logs-cut link until es))

-- ## what is queued

-- where it is short, an entry follows those of a port's log
abbrev pub MayFollow : LinkLimits → List port.Entry → port.Entry → Type 0
MayFollow l log e = IsShort e → Follows l log e

queued_by_offer : (site : Site) (link : ℕ) (l : LinkLimits) (logs : PortLogs) (time : ℕ) (class : Class) (p : PacketData) (k : ℕ) (m : LinkLimits) (o : Offered PacketData)
    → limits_out site link ≡ Some (link, l) → limits_out site k ≡ Some (k, m) → port.NoneLater time (logs link) → offered m (logs k) class p ≡ o
    → IfSome (queued_at link time (outcome_of k o) class p) (MayFollow l (logs link))
queued_by_offer site link l logs time class p k m v0 out way past e = grind (arith, nat_tests)

-- a packet that goes its way
sent_follows : (site : Site) (link : ℕ) (l : LinkLimits) (logs : PortLogs) (time : ℕ) (class : Class) (p : PacketData) (way : Option (ℕ × LinkLimits))
    → limits_out site link ≡ Some (link, l) → IsWayOut site way → port.NoneLater time (logs link)
    → IfSome (queued_at link time (sent logs class p way) class p) (MayFollow l (logs link))
sent_follows site link l logs time class p None out way past = tt
sent_follows site link l logs time class p (Some o) out way past = queued_by_offer site link l logs time class p o.0 o.1 (offered o.1 (logs o.0) class p) out way past refl

-- ## at a router

record Came (plan : RouterPlan) (before : List Entry) (now : ℕ) (made : Content) : Type 0 where
  from : Option ℕ
  packet : PacketData
  is : arrived plan before now from packet ≡ made

came : (number : ℕ) (plan : RouterPlan) (before : List Entry) (input : Input) (made : Content) → routed number plan before input ≡ Some made → Came plan before (input_time input) made
came number plan before v0 made e = grind (arith, nat_tests)

-- what an input leaves in the log of a link follows those before
abbrev FollowsAt : LinkLimits → List Entry → ℕ → ℕ → Content → Type 0
FollowsAt l before link now made = IfSome (content_at link now made) (MayFollow l (port_logs before link))

arrived_follows : (site : Site) (plan : RouterPlan) (link : ℕ) (l : LinkLimits) (before : List Entry) (now : ℕ) (from : Option ℕ) (p : PacketData) → IsSite site → site.plan ≡ plans.Router plan → limits_out site link ≡ Some (link, l)
    → port.NoneLater now (port_logs before link) → FollowsAt l before link now (arrived plan before now from p)
unfolding arrived handle
arrived_follows site plan link l before now from p valid e out past =
    let force = in_force plan now in
    let j : Judged = judge force (charges_at plan now (charges before)) (arrival now from p) p.carried in
    elim (nat_le 32 p.hops) as (λ b. IfSome (queued_at link now (cond b (stopped p) (forwarded force (port_logs before) now p j)).fate.outcome
    (cond b (stopped p) (forwarded force (port_logs before) now p j)).fate.class (cond b (stopped p) (forwarded force (port_logs before) now p j)).onward) (MayFollow l (port_logs before link))) [
      | true ↦ tt
      | false ↦ sent_follows site link l (port_logs before) now j.class (goes_on p j.carried) (way_to force p.flow.dst) out (router_way site plan now p.flow.dst valid e) past
    ]

-- ## at a host

out_follows : (site : Site) (plan : HostPlan) (link : ℕ) (l : LinkLimits) (before : List Entry) (now : ℕ) (p : PacketData) → limits_out site link ≡ Some (link, l) → port.NoneLater now (port_logs before link)
    → IfSome (queued_at link now (goes_out site plan before p) (class_by_shim p.carried) p) (MayFollow l (port_logs before link))
out_follows site plan link l before now p out past = sent_follows site link l (port_logs before) now (class_by_shim p.carried) p (limits_out site plan.uplink) out (link_way site plan.uplink) past

reply_follows : (site : Site) (plan : HostPlan) (link : ℕ) (l : LinkLimits) (before : List Entry) (now : ℕ) (reply : Option Made) → limits_out site link ≡ Some (link, l) → port.NoneLater now (port_logs before link)
    → IfSome (reply_at link now reply (option_map (λ m. goes_out site plan before m.packet) reply)) (MayFollow l (port_logs before link))
reply_follows site plan link l before now None out past = tt
reply_follows site plan link l before now (Some m) out past = out_follows site plan link l before now m.packet out past

sent_out_follows : (site : Site) (plan : HostPlan) (link : ℕ) (l : LinkLimits) (before : List Entry) (now : ℕ) (made : Option Made) → limits_out site link ≡ Some (link, l) → port.NoneLater now (port_logs before link)
    → FollowsAt l before link now (sent_out site plan before made)
sent_out_follows site plan link l before now None out past = tt
sent_out_follows site plan link l before now (Some m) out past = out_follows site plan link l before now m.packet out past

hosted_follows : (site : Site) (plan : HostPlan) (link : ℕ) (l : LinkLimits) (before : List Entry) (input : Input) → limits_out site link ≡ Some (link, l) → port.NoneLater (input_time input) (port_logs before link)
    → FollowsAt l before link (input_time input) (hosted site plan before input)
hosted_follows site plan link l before (FromTrace row) out past = search (sent_out_follows)
hosted_follows site plan link l before (Arrival time from packet) out past = search (reply_follows, answered)

-- ## at a node

took_by : (site : Site) (plan : NodePlan) (link : ℕ) (l : LinkLimits) (before : List Entry) (input : Input) (made : Content) → IsSite site → site.plan ≡ plan → limits_out site link ≡ Some (link, l)
    → port.NoneLater (input_time input) (port_logs before link) → content_by site plan before input ≡ Some made → FollowsAt l before link (input_time input) made
took_by site (plans.Router plan) link l before input made valid e out past c =
    let k = came site.number plan before input made c in
    subst (FollowsAt l before link (input_time input)) k.is (arrived_follows site plan link l before (input_time input) k.from k.packet valid e out past)
took_by site (plans.Host plan) link l before input made valid e out past c =
    subst (FollowsAt l before link (input_time input)) (same_Some (hosted site plan before input) made c) (hosted_follows site plan link l before input out past)

-- what a node takes, where it queues a packet on a link, has its place there
pub took_follows : (site : Site) (link : ℕ) (l : LinkLimits) (before : List Entry) (input : Input) (made : Content) → IsSite site → limits_out site link ≡ Some (link, l)
    → port.NoneLater (input_time input) (port_logs before link) → content site before input ≡ Some made → FollowsAt l before link (input_time input) made
took_follows site link l before input made valid out past c = took_by site site.plan link l before input made valid refl out past c

-- ## starts

started_by : (l : LinkLimits) (log : List port.Entry) (now : ℕ) (class : Class) (p : PacketData) (b : Bool) → nat_le (port.free_after l log) now ≡ b → cond b (start_of (decision l log now)) None ≡ Some (class, p)
    → (port.free_after l log ≤ now) × (decision l log now ≡ Start class p)
started_by l log now class p v0 t e = grind (arith, nat_tests)

start_follows : (site : Site) (link on : ℕ) (l : LinkLimits) (before : List Entry) (now : ℕ) (class : Class) (p : PacketData) (b : Bool) → limits_out site link ≡ Some (link, l) → port.NoneLater now (port_logs before link)
    → starts site before on now ≡ Some (class, p) → (link == on) ≡ b → IfSome (cond b (Some (port.Started now class p)) None) (MayFollow l (port_logs before link))
unfolding start_after
start_follows site link on l before now class p v0 out past e t = grind (arith, nat_tests)

-- what a link starts is the decision of the free link
pub started_follows : (site : Site) (link on : ℕ) (l : LinkLimits) (before : List Entry) (now : ℕ) (class : Class) (p : PacketData) → limits_out site link ≡ Some (link, l) → port.NoneLater now (port_logs before link)
    → starts site before on now ≡ Some (class, p) → IfSome (port_entry link (Started now on class p)) (MayFollow l (port_logs before link))
started_follows site link on l before now class p out past e = start_follows site link on l before now class p (link == on) out past e refl

-- ## no start is missed

rests_by : (l : LinkLimits) (log : List port.Entry) (now : ℕ) → start_after l log now ≡ None → RestsAt l log now
unfolding start_after
rests_by l log now e = grind arith

pub misses_none : (site : Site) (until : ℕ) (log : List Entry) (link : ℕ) (l : LinkLimits) → limits_out site link ≡ Some (link, l) → LeavesNone site until log → MissesNone l until (port_logs log link)
misses_none site until log link l out none time before =
    let before_now : List Entry = cut entry_time (suc time) log in
    let k : start_after l (port_logs before_now link) time ≡ None = sym (ap (option_and_then (λ (o : ℕ × LinkLimits). start_after o.1 (port_logs before_now link) time)) out) ∙ none time link before in
    let more : suc time ≡ time + 1 = omega arith in
    subst (λ (z : List port.Entry). RestsAt l z time) (logs-cut link (suc time) log ∙ ap (λ n. port.entries_before n (port_logs log link)) more) (rests_by l (port_logs before_now link) time k)
