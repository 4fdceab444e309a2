-- The nodes and links that the events of a run name are the configuration's.
use Rattle.tva_run.proofs.Common.{nat_tests, ◌≡◌, ℕ, ◌+◌, ◌<◌, ◌≤◌, Bool, true, false, cond, List, [], ◌∷◌, length, map, Option, Some, None, All, refl, sym, ap, subst, arith, ◌==◌, slice_get, option_map, option_map_or, option_and_then, AllByRecursion, cons_option, find, All-from_recursion, slice_get_within, same_Some, Address, Event, LinkLimits, Class, HostPlan, LinkPlan, RouterPlan, in_force, PacketData, class_by_shim, made_packet, upper_size, Charge, Handled, goes_on, handle, offered, outgoing_link, outcome_of, sent, receipt_of, reply_of, answered, Config, NodePlan, picked, IsConfig, Row, HasEvent, HasHappened, HasLink, HasNode, HasOutcome, HasSource, Input, FromTrace, Arrival, Site, site_of, limits_out, IsPlanned, Content, Entry, Took, Started, port_logs, arrived, content, content_by, goes_out, hosted, next_id, packet_of_row, routed, sent_with, start_after, content_told, events, Logs, log_at, links_out, link_from, site_at, IsRunTo, AreEvents, AreEventsTo, event_node, event_time}
use Rattle.tva_base.specs.declared.packet.Upper.{Upper}
use Rattle.tva_shim.specs.declared.kinds.ReturnInfo.{ReturnInfo}
use Rattle.tva_drr.specs.declared.offered.Offered as offer
use Rattle.tva_port.specs.Log as port
use Rattle.tva_router.specs.Handling as handling
use Rattle.tva_host.specs.declared.made.Receipt.{Receipt}
use Rattle.tva_host.specs.History.{History}
use Rattle.tva_host.specs.Sending.{intended}
use Rattle.tva_plan.specs.declared.config.NodePlan.TheVariants as plans
use Rattle.tva_rows.specs.declared.rows.RowWhat.{RowWhat}
use Rattle.tva_rows.specs.declared.rows.RowWhat.TheVariants.{Inject}
use Rattle.tva_run.proofs.Putting.{each_from_sources}
use Rattle.tva_run.proofs.LogWalks.{IsMade}
use Rattle.tva_run.proofs.Walks.{IsReplyGood, Leaves, LeavesAt, starts_good, holds}
use Rattle.tva_run.proofs.Sites.{site_is}
use Rattle.tva_run.proofs.Joins.{each-map}

-- what is found passes the test, and what holds of each holds of it
found_here : {X : Type 0} (p : X → Bool) (Q : X → Type 0) (y x : X) (ys : List X) (b : Bool) → p y ≡ b → Q y
    → (find p ys ≡ Some x → Q x × (p x ≡ true)) → cond b (Some y) (find p ys) ≡ Some x → Q x × (p x ≡ true)
found_here p v0 y x ys v1 is q rest e = grind (arith, nat_tests)

found : {X : Type 0} (p : X → Bool) (Q : X → Type 0) (xs : List X) (x : X) → AllByRecursion Q xs → find p xs ≡ Some x → Q x × (p x ≡ true)
found p Q [] x h e = absurd (cc)
found p Q (y ∷ ys) x h e = found_here p Q y x ys (p y) refl h.0 (found p Q ys x h.1) e

module _ (config : Config) where
  -- ## packets, and what is made of them

  -- the node that a packet was made at
  abbrev IsKnown : PacketData → Type 0
  IsKnown p = HasNode config p.id.node

  -- a content names nodes and links of the configuration, and so does what it makes
  abbrev IsNamed : Content → Type 0
  IsNamed made = HasHappened config (content_told made) × Leaves IsKnown made

  abbrev IsEntryNamed : Entry → Type 0
  IsEntryNamed (Took input content) = IsNamed content
  IsEntryNamed (Started time link class packet) = IsKnown packet × HasLink config link

  abbrev IsInputKnown : Input → Type 0
  IsInputKnown (FromTrace row) = Unit {0}
  IsInputKnown (Arrival time link packet) = IsKnown packet × HasLink config link

  -- ## where packets go

  outcome_known : (link : ℕ) (a : offer.Offered PacketData) → HasLink config link → HasOutcome config (outcome_of link a)
  outcome_known link v0 h = grind arith

  sent_known : (logs : handling.PortLogs) (class : Class) (p : PacketData) (way : Option (ℕ × LinkLimits))
      → ((o : ℕ × LinkLimits) → way ≡ Some o → HasLink config o.0) → HasOutcome config (sent logs class p way)
  sent_known logs class p None known = tt
  sent_known logs class p (Some (link, limits)) known = outcome_known link (offered limits (logs link) class p) (known (link, limits) refl)

  way_known : (plan : RouterPlan) (o : Option ℕ) → AllByRecursion (λ (x : ℕ × LinkLimits). HasLink config x.0) plan.outgoing
      → (way : ℕ × LinkLimits) → option_and_then (outgoing_link plan) o ≡ Some way → HasLink config way.0
  way_known plan None h way e = absurd (cc)
  way_known plan (Some link) h way e = (found (λ (x : ℕ × LinkLimits). x.0 == link) (λ (x : ℕ × LinkLimits). HasLink config x.0) plan.outgoing way h e).0

  abbrev IsHandledWell : PacketData → Handled → Type 0
  IsHandledWell p h = HasOutcome config h.fate.outcome × (h.onward.id ≡ p.id)

  handled_known : (plan : RouterPlan) (h : List Charge) (logs : handling.PortLogs) (now : ℕ) (from : Option ℕ) (p : PacketData)
      → AllByRecursion (λ (x : ℕ × LinkLimits). HasLink config x.0) plan.outgoing → IsHandledWell p (handle plan h logs now from p)
  unfolding handle
  handled_known plan h logs now from p out = grind (arith, nat_tests, sent_known, goes_on, way_known)

  -- ## what a node makes

  -- the numbers of a node and of its links out are the configuration's
  record IsPlaced (site : Site) : Type 0 where
    number : HasNode config site.number
    links : AllByRecursion (λ (o : ℕ × LinkPlan). HasLink config o.0) site.links

  limits_known : (site : Site) (link : ℕ) (o : ℕ × LinkLimits) → IsPlaced site → limits_out site link ≡ Some o → HasLink config o.0 × (o.0 ≡ link)
  limits_known site link o h e = grind (arith, nat_tests, found, same_Some)

  module _ (site : Site) (placed : IsPlaced site) (before : List Entry) where
    -- at a router
    arrived_named : (plan : RouterPlan) (now : ℕ) (from : Option ℕ) (packet : PacketData) → AllByRecursion (λ (x : ℕ × LinkLimits). HasLink config x.0) plan.outgoing
        → IsKnown packet → HasSource config from → IsNamed (arrived plan before now from packet)
    unfolding arrived in_force
    arrived_named plan now from packet out node source = grind (arith, nat_tests, handled_known)

    row_named : (plan : RouterPlan) (now : ℕ) (w : RowWhat) (made : Content) → AllByRecursion (λ (x : ℕ × LinkLimits). HasLink config x.0) plan.outgoing
        → option_map (arrived plan before now None) (packet_of_row (next_id site.number before) w) ≡ Some made → IsNamed made
    row_named plan now (Inject flow payload carried) made out e =
        let packet : PacketData = made_packet (next_id site.number before) flow payload carried in
        subst IsNamed (same_Some (arrived plan before now None packet) made e) (arrived_named plan now None packet out placed.number tt)
    row_named plan now _ made out e = absurd (cc)

    routed_named : (plan : RouterPlan) (i : Input) (made : Content) → AllByRecursion (λ (x : ℕ × LinkLimits). HasLink config x.0) plan.outgoing
        → IsInputKnown i → routed site.number plan before i ≡ Some made → IsNamed made
    routed_named plan (FromTrace row) made out k e = row_named plan row.time.0 row.what made out e
    routed_named plan (Arrival time link packet) made out k e =
        subst IsNamed (same_Some (arrived plan before time.0 (Some link) packet) made e) (arrived_named plan time.0 (Some link) packet out k.0 k.1)

    -- at a host
    out_known : (plan : HostPlan) (packet : PacketData) → HasOutcome config (goes_out site plan before packet)
    out_known plan packet =
        sent_known (port_logs before) (class_by_shim packet.carried) packet (limits_out site plan.uplink) (λ o e. (limits_known site plan.uplink o placed e).0)

    intended_known : (plan : HostPlan) (h : History) (now : ℕ) (dst : Address) (payload : ℕ) (above : Upper)
        → IsKnown (intended site.number plan h now dst payload above).packet
    unfolding intended
    intended_known plan h now dst payload above = placed.number

    with_known : (plan : HostPlan) (h : History) (now : ℕ) (dst : Address) (due : Option Upper) → IsReplyGood IsKnown (option_map (sent_with site.number plan h now dst) due)
    with_known plan h now dst None = tt
    with_known plan h now dst (Some above) = intended_known plan h now dst (upper_size above) above

    reply_made : (plan : HostPlan) (h : History) (now : ℕ) (src : Address) (back : Option ReturnInfo) (above : Upper)
        → IsReplyGood IsKnown (reply_of site.number plan h now src back above)
    reply_made plan h now src None above = tt
    reply_made plan h now src (Some back) above = placed.number

    receipt_by : (b : Bool) (r s : Receipt) → IsReplyGood IsKnown r.reply → IsReplyGood IsKnown s.reply → IsReplyGood IsKnown (cond b r s).reply
    receipt_by true r s h k = h
    receipt_by false r s h k = k

    hosted_named : (plan : HostPlan) (i : Input) → IsInputKnown i → IsNamed (hosted site plan before i)
    unfolding receipt_of
    hosted_named plan v0 k = grind (arith, nat_tests, answered, out_known, intended_known, with_known, receipt_by, reply_made)

    -- at a node
    outgoing_known : (plan : RouterPlan) → plan.outgoing ≡ map (λ (o : ℕ × LinkPlan). (o.0, o.1.limits)) site.links → AllByRecursion (λ (x : ℕ × LinkLimits). HasLink config x.0) plan.outgoing
    outgoing_known plan e =
        subst (λ (xs : List (ℕ × LinkLimits)). AllByRecursion (λ (x : ℕ × LinkLimits). HasLink config x.0) xs) (sym e)
        (each-map (λ (o : ℕ × LinkPlan). (let x : ℕ × LinkLimits = (o.0, o.1.limits) in x)) (λ (x : ℕ × LinkLimits). HasLink config x.0) site.links placed.links)

    named_by : (plan : NodePlan) (i : Input) (made : Content) → IsPlanned plan site.links → IsInputKnown i → content_by site plan before i ≡ Some made → IsNamed made
    named_by (plans.Router plan) i made planned k e = routed_named plan i made (outgoing_known plan planned.1) k e
    named_by (plans.Host plan) i made planned k e = subst IsNamed (same_Some (hosted site plan before i) made e) (hosted_named plan i k)

    -- what starts
    out_by : (log : List port.Entry) (time link : ℕ) (s : Class × PacketData) (r : Option (ℕ × LinkLimits)) → ((o : ℕ × LinkLimits) → r ≡ Some o → HasLink config o.0 × (o.0 ≡ link))
        → option_and_then (λ (o : ℕ × LinkLimits). start_after o.1 log time) r ≡ Some s → HasLink config link
    out_by log time link s None out e = absurd (cc)
    out_by log time link s (Some o) out e = let here = out o refl in subst (HasLink config) here.1 here.0

  leaves : (e : Entry) → IsEntryNamed e → LeavesAt IsKnown e
  leaves (Took input content) k = k.1
  leaves (Started time link class packet) k = tt

  -- ## a node's log

  module _ (site : Site) (placed : IsPlaced site) (planned : IsPlanned site.plan site.links) where
    entry_named : (before : List Entry) (e : Entry) → AllByRecursion IsEntryNamed before → IsMade IsInputKnown site before e → IsEntryNamed e
    entry_named before (Took i made) k m = named_by site placed before site.plan i made planned m.1 m.0
    entry_named before (Started time link class packet) k m =
        let s : Class × PacketData = (class, packet) in (
          starts_good IsKnown IsEntryNamed leaves site before time link class packet k m,
          out_by site placed before (port_logs before link) time link s (limits_out site link) (λ o f. limits_known site link o placed f) m,
        )

    -- what is told of a log
    told_named : (log : List Entry) → AllByRecursion IsEntryNamed log → AllByRecursion (HasEvent config) (events site log)
    told_named [] k = tt
    told_named (Took j c ∷ es) k = ((placed.number, k.0.0), told_named es k.1)
    told_named (Started u l c p ∷ es) k = ((placed.number, k.0), told_named es k.1)

  -- ## a run

  within_here : (k m : ℕ) (b : Bool) (l : LinkPlan) (rest : List (ℕ × LinkPlan)) → k < m → AllByRecursion (λ (o : ℕ × LinkPlan). o.0 < m) rest
      → AllByRecursion (λ (o : ℕ × LinkPlan). o.0 < m) (cons_option (cond b (Some (k, l)) None) rest)
  within_here k m true l rest h r = (h, r)
  within_here k m false l rest h r = r

  within : (n k m : ℕ) (links : List LinkPlan) → k + length links ≤ m → AllByRecursion (λ (o : ℕ × LinkPlan). o.0 < m) (picked (link_from n) k links)
  within n k m [] h = tt
  within n k m (l ∷ ls) h = within_here k m (l.from == n) l (picked (link_from n) (k + 1) ls) (omega arith) (within n (k + 1) m ls (omega arith))

  site_placed : (n : ℕ) (p : NodePlan) → n < length config.nodes → IsPlaced (site_of n p (links_out n config.links))
  site_placed n p l = record { number = l; links = within n 0 (length config.links) config.links (omega arith) }

  placed_by : (n : ℕ) (site : Site) (o : Option NodePlan) → slice_get config.nodes n ≡ o
      → option_map (λ (p : NodePlan). site_of n p (links_out n config.links)) o ≡ Some site → IsPlaced site
  placed_by n site None here e = absurd (cc)
  placed_by n site (Some p) here e =
      subst IsPlaced (same_Some (site_of n p (links_out n config.links)) site e) (site_placed n p (slice_get_within config.nodes n p here))

  site_at_placed : (n : ℕ) (site : Site) → site_at config n ≡ Some site → IsPlaced site
  site_at_placed n site there = placed_by n site (slice_get config.nodes n) refl there

  module _ (rows : List Row) (until : ℕ) (logs : Logs) (valid : IsConfig config) (run : IsRunTo config rows until logs) where
    rows_known : (rs : List Row) → AllByRecursion (λ (row : Row). IsInputKnown (FromTrace row)) rs
    rows_known [] = tt
    rows_known (row ∷ rs) = (tt, rows_known rs)

    all_named : (node : ℕ) (site : Site) → site_at config node ≡ Some site → AllByRecursion IsEntryNamed (log_at logs node)
    all_named = holds config rows until logs valid run IsInputKnown IsEntryNamed (rows_known rows)
        (λ number link here time on at class packet k. (k.0, slice_get_within config.links number link here))
        (λ node site there before e rest split k m. entry_named site (site_at_placed node site there) (site_is config node site valid there).1.planned before e k m)

    node_named : (node : ℕ) (plan : NodePlan) → slice_get config.nodes node ≡ Some plan
        → AllByRecursion (HasEvent config) (events (site_of node plan (links_out node config.links)) (log_at logs node))
    node_named node plan here =
        let site : Site = site_of node plan (links_out node config.links) in
        let there : site_at config node ≡ Some site = ap (option_map (λ (p : NodePlan). site_of node p (links_out node config.links))) here in
        told_named site (site_placed node plan (slice_get_within config.nodes node plan here)) (site_is config node site valid there).1.planned (log_at logs node) (all_named node site there)

    events_by : (node : ℕ) (o : Option NodePlan) → slice_get config.nodes node ≡ o
        → AllByRecursion (HasEvent config)
        (option_map_or (λ (site : Site). events site (log_at logs node)) (option_map (λ (p : NodePlan). site_of node p (links_out node config.links)) o) [])
    events_by node None here = tt
    events_by node (Some plan) here = node_named node plan here

    pub told_known_all : (told : List Event) → AreEvents config logs told → All (HasEvent config) told
    told_known_all told are =
        All-from_recursion (HasEvent config) told
        (each_from_sources event_time event_node (HasEvent config) told
        (λ s. subst (λ (es : List Event). AllByRecursion (HasEvent config) es) (sym (are.each s)) (events_by s (slice_get config.nodes s) refl)))

pub events_named : (config : Config) (rows : List Row) (until : ℕ) (told : List Event) → IsConfig config → AreEventsTo config rows until told → All (HasEvent config) told
events_named config rows until told valid are = told_known_all config rows until are.logs valid are.run told are.events
