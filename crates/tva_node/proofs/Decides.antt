-- What a link of a node does at a time, and what the node stands for then.
use Rattle.tva_node.proofs.Common.{nat_tests, ◌≡◌, ℕ, ◌+◌, ◌*◌, ◌<◌, ◌≤◌, false, List, [], ◌∷◌, ◌++◌, length, get_or, map, set, All, Option, Some, Result, refl, sym, subst, ◌∙◌, ap, arith, append-nil, OnOk, option_map_or, option_and_then, get_or-map, length-map, filter_map-append, All-get_or, Event, LinkLimits, LinkPlan, Class, AreLinkLimits, links_of, PacketData, packet_length, Decision, Start, IsLegal, is_start, Input, Sending, Site, IsLinkOut, AreRising, link_out, limits_out, site_of, Entry, Started, port_logs, starts, start_of, start_after, at_time, next_by, next_decision, next_on, busy_starts_none, free_starts, next_busy, next_rested, Link, Parts, Role, Memory, with_next, link_pair, RoleStands, IsBy, Gone, Keeps, NodeState, gone_in, role_plan, site_at, state_of, StandsAt, Decides, started_by, IsRank, AwaitsAt, DecidesAt, IsStartable, all_taken, end_on, start_event, start_sending}
use Rattle.std.proofs.Math.Nat.{mul-le-mul_right}
use Rattle.tva_base.specs.declared.event.Happened.TheVariants as happens
use Rattle.tva_port.specs.Log as port
use Rattle.tva_port.proofs.Logs.{free-started}
use Rattle.tva_node.proofs.Finding.{find-at, link_valid}
use Rattle.tva_node.proofs.Roles.{role_legal}
use Rattle.tva_node.proofs.Works.{found, pairs_put, rested, started_one}
use Rattle.tva_node.proofs.Zips.{begins_same}
use Rattle.tva_run.proofs.Ports.{not_start}

-- a start is the last entry of its link's log
logs-own : (log : List Entry) (now link : ℕ) (class : Class) (packet : PacketData) → port_logs (log ++ Started now link class packet ∷ []) link ≡ port_logs log link ++ port.Started now class packet ∷ []
logs-own log now link class packet = grind (arith, nat_tests, filter_map-append)

module _ (p : Parts) (now place rank : ℕ) (log : List Entry) (d : Link) (ranked : IsRank rank place p.links) (st : StandsAt (state_of p) now rank (all_taken (state_of p) now) log) (waits : AwaitsAt (state_of p) now rank log) (within : place < length p.links) where
  abbrev v : NodeState
  v = state_of p

  abbrev site : Site
  site = site_at p

  -- the link in that place
  abbrev here : Link
  here = get_or p.links place d

  abbrev limits : LinkLimits
  limits = here.plan.limits

  abbrev ports : List port.Entry
  ports = port_logs log here.number

  pub is_out : limits_out site here.number ≡ Some (here.number, limits)
  is_out = found v now place rank log d ranked st waits within

  pub valid : AreLinkLimits limits
  valid = (link_valid site here.number (here.number, limits) st.site is_out).0

  legal : IsLegal limits ports × port.NoneLater now ports
  legal = role_legal site p.role log now st.site st.plan st.role st.past here.number (here.number, limits) is_out

  starts_is : (es : List Entry) → starts site es here.number now ≡ start_after limits (port_logs es here.number) now
  starts_is es = ap (option_and_then (λ o. start_after o.1 (port_logs es here.number) now)) is_out

  next_is : (es : List Entry) → next_on site es (now + 1) here.number ≡ next_decision limits (port_logs es here.number) (now + 1)
  next_is es = ap (option_and_then (λ o. next_decision o.1 (port_logs es here.number) (now + 1))) is_out

  -- the links with that next decision of this one
  abbrev pub put : Option ℕ → List Link
  put next = set p.links place (record here { next = next })

  -- what the node is then
  abbrev pub state : Option ℕ → Role → List Event → List Sending → NodeState
  state next role events sendings = record v {
    site = site_of p.number (role_plan role) (map link_pair (put next));
    links = put next;
    role = role;
    events = events;
    sendings = sendings;
  }

  at_site : (next : Option ℕ) (role : Role) (events : List Event) (sendings : List Sending) → role_plan role ≡ role_plan p.role
      → DecidesAt (record v { links = put next; role = role; events = events; sendings = sendings }) now (place + 1) → DecidesAt (state next role events sendings) now (place + 1)
  at_site next role events sendings e h = grind (arith, nat_tests)

  -- it is busy
  pub busy : (free : ℕ) → free ≡ port.free_after limits ports → now < free → DecidesAt (state (Some free) p.role p.log.all p.outbox.all) now (place + 1)
  busy free e h =
      let late : now < port.free_after limits ports = omega arith in
      at_site (Some free) p.role p.log.all p.outbox.all refl
      (rested v now place rank log d ranked st waits within (Some free) p.role
      (starts_is log ∙ busy_starts_none limits ports now late)
      (ap Some e ∙ (sym (next_busy limits ports (now + 1) (omega arith) (omega arith)) ∙ sym (next_is log)))
      st.role refl st.past)

  no_entry : (decides : Decision) → is_start decides ≡ false → log ++ started_by here.number now decides ≡ log
  no_entry decides e = grind (arith, nat_tests, append-nil)

  -- it starts nothing
  pub rest : (decides : Decision) (role : Role) → port.free_after limits ports ≤ now → Decides site log here.number now limits decides role → is_start decides ≡ false → role_plan role ≡ role_plan p.role → IsBy now role
      → DecidesAt (state (next_by now decides) role p.log.all p.outbox.all) now (place + 1)
  rest decides role free h none e by =
      at_site (next_by now decides) role p.log.all p.outbox.all e
      (rested v now place rank log d ranked st waits within (next_by now decides) role
      (starts_is log ∙ (free_starts limits ports now free ∙ (ap start_of (sym h.0) ∙ not_start decides none)))
      (sym (next_rested limits ports now decides valid legal.0 legal.1 free h.0 none) ∙ sym (next_is log))
      (subst (RoleStands site role) (no_entry decides none) h.1) e by)

  link_is : link_out site here.number ≡ Some (link_pair here)
  link_is = find-at p.links place d (subst (λ (os : List (ℕ × LinkPlan)). AreRising (links_of os)) st.out st.site.rising) within

  -- it starts a packet
  pub start : (class : Class) (packet : PacketData) (role : Role) → port.free_after limits ports ≤ now → Decides site log here.number now limits (Start class packet) role → role_plan role ≡ role_plan p.role → IsBy now role
      → DecidesAt (state (Some (end_on here now packet)) role (p.log.all ++ start_event p.number here now class packet ∷ []) (p.outbox.all ++ start_sending here now packet ∷ [])) now (place + 1)
  start class packet role free h e by =
      let entry = Started now here.number class packet in
      let after = port_logs (log ++ entry ∷ []) here.number in
      let end = end_on here now packet in
      let freed : port.free_after limits after ≡ end = ap (port.free_from limits 0) (logs-own log now here.number class packet) ∙ free-started limits 0 ports now class packet in
      let rate : 1 ≤ limits.ns_per_byte = valid.ns_per_byte.0 in
      let some : 1 ≤ packet_length packet * limits.ns_per_byte = (let a : 1 * limits.ns_per_byte ≤ packet_length packet * limits.ns_per_byte = mul-le-mul_right limits.ns_per_byte (let b : 1 ≤ packet_length packet = omega arith in b) in omega arith) in
      let later : now < port.free_after limits after = omega (arith, freed) in
      at_site (Some end) role (p.log.all ++ start_event p.number here now class packet ∷ []) (p.outbox.all ++ start_sending here now packet ∷ []) e
      (started_one v now place rank log d ranked st waits within class packet (Some end) role (start_event p.number here now class packet) (start_sending here now packet)
      (starts_is log ∙ (free_starts limits ports now free ∙ ap start_of (sym h.0)))
      (starts_is (log ++ entry ∷ []) ∙ busy_starts_none limits after now later)
      (ap Some (sym freed) ∙ (sym (next_busy limits after (now + 1) (omega arith) (omega arith)) ∙ sym (next_is (log ++ entry ∷ []))))
      h.1 e by
      (λ i. record {
        time = at_time now;
        node = p.number;
        happened = happens.Started packet.id (packet_length packet) here.number class (at_time (option_map_or (λ x. now + packet_length packet * x.1.limits.ns_per_byte) (sym link_is i) now));
      })
      (λ i. Some (record {
        link = here.number;
        arrive = at_time (option_map_or (λ x. now + packet_length packet * x.1.limits.ns_per_byte + x.1.delay) (sym link_is i) now);
        packet = packet;
      })))

-- ## by what the code reads

-- what a node was that is now
pub from_fields : (q : Parts) (number horizon worked : ℕ) (role : Role) (links : List Link) (inbox : List Input) (waiting : List Input) (keeps : Memory) (gone : Gone) (es : List Event) (ss : List Sending)
    → q.number ≡ number → q.horizon ≡ horizon → q.worked_to ≡ worked → q.role ≡ role → q.links ≡ links → q.inbox.all ≡ inbox → q.waiting ≡ waiting → q.log.all ≡ es → q.outbox.all ≡ ss → q.outbox.keeps ≡ keeps → gone_in q ≡ gone
    → record { site = site_of number (role_plan role) (map link_pair links); horizon = horizon; inbox = inbox; events = es; sendings = ss; worked_to = worked; keeps = keeps; gone = gone; role = role; links = links; waiting = waiting } ≡ state_of q
from_fields q number horizon worked role links inbox waiting keeps gone es ss e1 e2 e3 e4 e5 e6 e7 e8 e9 e10 e11 = grind (arith, nat_tests)

pub on_both : {T E : Type 0} (A B C : Type 0) (r : Result T E) → (A → B → C) → OnOk r A → OnOk r B → OnOk r C
on_both A B C r f a b = grind (arith, nat_tests)

module _ (p : Parts) (now place : ℕ) (a : Link) (ea : a ≡ get_or p.links place a) (within : place < length p.links) (d : DecidesAt (state_of p) now place) where
  abbrev site' : Site
  site' = site_at p

  abbrev log' : List Entry
  log' = d.1

  abbrev stands' : StandsAt (state_of p) now d.0 (all_taken (state_of p) now) d.1
  stands' = d.3

  pub read_out : limits_out site' a.number ≡ Some (a.number, a.plan.limits)
  read_out = subst (λ (x : Link). limits_out site' x.number ≡ Some (x.number, x.plan.limits)) (sym ea) (is_out p now place d.0 d.1 a d.2 d.3 d.4 within)

  -- the node with these links, of which that one has another next decision
  abbrev pub with_links : List Link → Role → NodeState
  with_links links role = record (state_of p) { site = site_of p.number (role_plan role) (map link_pair links); links = links; role = role }

  put_there : (links : List Link) (next : Option ℕ) (role : Role) → links ≡ with_next place next p.links a → DecidesAt (with_links (with_next place next p.links a) role) now (place + 1) → DecidesAt (with_links links role) now (place + 1)
  put_there links next role e h = subst (λ (ls : List Link). DecidesAt (with_links ls role) now (place + 1)) (sym e) h

  pub read_busy : (links : List Link) (free : ℕ) → links ≡ with_next place (Some free) p.links a → free ≡ port.free_after a.plan.limits (port_logs log' a.number) → now < free → DecidesAt (with_links links p.role) now (place + 1)
  read_busy links free e f h =
      put_there links (Some free) p.role e
      (busy p now place d.0 d.1 a d.2 d.3 d.4 within free (subst (λ (x : Link). free ≡ port.free_after x.plan.limits (port_logs log' x.number)) ea f) h)

  pub read_rest : (decides : Decision) (links : List Link) (role : Role) → links ≡ with_next place (next_by now decides) p.links a → port.free_after a.plan.limits (port_logs log' a.number) ≤ now
      → Decides site' log' a.number now a.plan.limits decides role → is_start decides ≡ false → role_plan role ≡ role_plan p.role → IsBy now role
      → DecidesAt (with_links links role) now (place + 1)
  read_rest decides links role e free h none plan by =
      put_there links (next_by now decides) role e
      (rest p now place d.0 d.1 a d.2 d.3 d.4 within decides role
      (subst (λ (x : Link). port.free_after x.plan.limits (port_logs log' x.number) ≤ now) ea free)
      (subst (λ (x : Link). Decides site' log' x.number now x.plan.limits decides role) ea h) none plan by)

  pub read_start : (class : Class) (packet : PacketData) (role : Role) → port.free_after a.plan.limits (port_logs log' a.number) ≤ now
      → Decides site' log' a.number now a.plan.limits (Start class packet) role → role_plan role ≡ role_plan p.role → IsBy now role
      → DecidesAt (state p now place d.0 d.1 a d.2 d.3 d.4 within (Some (end_on (get_or p.links place a) now packet)) role
      (p.log.all ++ start_event p.number (get_or p.links place a) now class packet ∷ []) (p.outbox.all ++ start_sending (get_or p.links place a) now packet ∷ [])) now (place + 1)
  read_start class packet role free h e by =
      start p now place d.0 d.1 a d.2 d.3 d.4 within class packet role
      (subst (λ (x : Link). port.free_after x.plan.limits (port_logs log' x.number) ≤ now) ea free)
      (subst (λ (x : Link). Decides site' log' x.number now x.plan.limits (Start class packet) role) ea h) e by

  -- its numbers fit their types
  pub read_fits : (x : Link) → IsStartable now (get_or p.links place x)
  read_fits x =
      let pairs : All (IsLinkOut site'.number) (map link_pair p.links) = subst (All (IsLinkOut site'.number)) stands'.out stands'.site.links in
      let out : IsLinkOut site'.number (link_pair (get_or p.links place x)) =
      subst (IsLinkOut site'.number) (get_or-map link_pair p.links place x (link_pair x) within) (All-get_or (IsLinkOut site'.number) (map link_pair p.links) place (link_pair x) (rw (length-map p.links link_pair) within) pairs) in
      record {
        time = (let h = stands'.horizon in omega (arith, h.0, h.1));
        rate = (valid p now place d.0 d.1 x d.2 d.3 d.4 within).ns_per_byte.1;
        delay = out.delay.1;
      }

-- nothing happens at a node of which a link decides next at another time
pub keeps_put : (p : Parts) (links : List Link) (place : ℕ) (a : Link) (next : Option ℕ) (role : Role) → place < length p.links → links ≡ with_next place next p.links a → role_plan role ≡ role_plan p.role
    → Keeps (state_of p) (record (state_of p) { site = site_of p.number (role_plan role) (map link_pair links); links = links; role = role })
keeps_put p links place a next role within e plan = grind (arith, nat_tests, pairs_put, begins_same)

-- a node keeps as many links
pub count_kept : (p q : Parts) → Keeps (state_of p) (state_of q) → length q.links ≡ length p.links
count_kept p q k = sym (length-map q.links link_pair) ∙ (ap (λ (s : Site). length s.links) k.site ∙ length-map p.links link_pair)
