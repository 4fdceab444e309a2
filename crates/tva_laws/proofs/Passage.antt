-- A packet that shows a grant comes to a router in a run, and a host may have prepared it: what is known of both.
use Rattle.tva_laws.proofs.Common.{◌≡◌, ◌<◌, ℕ, true, false, List, [], ◌∷◌, ◌++◌, map, Option, Some, refl, ap, sym, subst, ◌∙◌, arith, append_assoc, IsSomeAnd, option_map, IfSome, filter_map, same_Some, Fate, Outcome, PacketId, Time, HostPlan, RouterPlan, in_force, IsHostPlan, IsReturn, PacketData, back_in, Charge, asked_at, IsPlayed, charges_at, is_marked, Receipt, NeverFall, Config, IsConfig, Row, Input, Site, DataLine, Arrived, Received, Entry, Took, input_time, charges, calls, due, Logs, log_at, site_at, IsRunTo, site_is, KeepsPromises, made_in, Keeps, HasOrigin, at_place, Mile, contacts, Way, ComesIn, Deal, Prepared, Granted, Noticed, Coming, coming, deals, comings, shows, ask_coming, ComesInTime, comings_at, ask_came, ComesSteadily, nat_tests}
use Rattle.tva_host.proofs.Played as players
use Rattle.tva_plan.specs.declared.config.NodePlan.TheVariants as plans
use Rattle.tva_laws.proofs.Origins.{origin_at}
use Rattle.tva_laws.proofs.Given.{AreGiven}
use Rattle.tva_laws.proofs.RisingLists.{Rises, one_place}
use Rattle.tva_laws.proofs.Falls.{never_fall, from_zero}
use Rattle.tva_laws.proofs.Dealt.{contact_of, played_front, map_place}
use Rattle.tva_laws.proofs.Hosts.{ordinal_of, made_at, entry_key, deal_key, takes, IsMadeIn, IsTrue, Told, told}
use Rattle.tva_laws.proofs.Returns.{received_returns}
use Rattle.tva_laws.proofs.Counts.{few_inputs}
use Rattle.tva_laws.proofs.Matching.{keys, InAt}
use Rattle.tva_laws.proofs.Asks.{last_time, asked_place, come_id, ask_is, coming_is}
use Rattle.tva_laws.proofs.Comings.{CameAt, came_place}
use Rattle.tva_laws.proofs.Authorised.{front}

-- ## places

abbrev deal_time : Deal → ℕ
deal_time (Prepared t p) = t
deal_time (Granted rights caps) = 0
deal_time Noticed = 0

-- a packet that shows a grant comes to a router in a run unmarked and below the hop limit, and a host is to have prepared
-- it so long before
pub record Passage : Type 0 where
  pub config : Config
  pub rows : List Row
  pub until : ℕ
  pub logs : Logs
  pub valid : IsConfig config
  pub given : AreGiven config rows until logs
  pub run : IsRunTo config rows until logs
  pub sender : ℕ
  pub node : ℕ
  pub from : Site
  pub to : Site
  pub host : HostPlan
  pub router : RouterPlan
  pub is_from : site_at config sender ≡ Some from
  pub from_plan : from.plan ≡ plans.Host host
  pub is_to : site_at config node ≡ Some to
  pub to_plan : to.plan ≡ plans.Router router
  pub past : List Entry
  pub input : Input
  pub on : Option ℕ
  pub packet : PacketData
  pub fate : Fate
  pub onward : PacketData
  pub rest : List Entry
  pub here : log_at logs node ≡ past ++ Took input (Arrived on packet fate onward) ∷ rest
  pub unmarked : is_marked packet.carried ≡ false
  pub below : packet.hops < 32
  pub shown : shows packet.carried ≡ true
  pub delay : ℕ

abbrev pub passage : (config : Config) (rows : List Row) (until : ℕ) (logs : Logs) → IsConfig config
    → AreGiven config rows until logs → IsRunTo config rows until logs
    → (sender node : ℕ) (from to : Site) (host : HostPlan) (router : RouterPlan)
    → site_at config sender ≡ Some from → from.plan ≡ plans.Host host
    → site_at config node ≡ Some to → to.plan ≡ plans.Router router
    → (past : List Entry) (input : Input) (on : Option ℕ) (packet : PacketData) (fate : Fate) (onward : PacketData) (rest : List Entry)
    → log_at logs node ≡ past ++ Took input (Arrived on packet fate onward) ∷ rest
    → is_marked packet.carried ≡ false → packet.hops < 32 → shows packet.carried ≡ true → ℕ → Passage
passage config rows until logs valid given run sender node from to host router is_from from_plan is_to to_plan
    past input on packet fate onward rest here unmarked below shown delay =
    record {
      config = config;
      rows = rows;
      until = until;
      logs = logs;
      valid = valid;
      given = given;
      run = run;
      sender = sender;
      node = node;
      from = from;
      to = to;
      host = host;
      router = router;
      is_from = is_from;
      from_plan = from_plan;
      is_to = is_to;
      to_plan = to_plan;
      past = past;
      input = input;
      on = on;
      packet = packet;
      fate = fate;
      onward = onward;
      rest = rest;
      here = here;
      unmarked = unmarked;
      below = below;
      shown = shown;
      delay = delay;
    }

module _ (m : Passage) where
  open m use {config, rows, until, logs, valid, given, run, sender, node, from, to, host, router, is_from, from_plan, is_to, to_plan}
  open m use {past, input, on, packet, fate, onward, rest, here, unmarked, below, shown, delay}

  abbrev pub own : List Deal
  own = deals packet.flow.dst (log_at logs sender)

  abbrev pub seen : List Coming
  seen = comings packet.flow past

  abbrev pub last : Coming
  last = coming input packet fate

  abbrev pub now : ℕ
  now = input_time input

  -- what is in force as the packet comes, and what came in that boot
  abbrev pub ruling : RouterPlan
  ruling = in_force router now

  abbrev pub boot : List Coming
  boot = comings_at router now seen

  abbrev pub held : List Charge
  held = charges_at router now (charges past)

  abbrev pub way : Way
  way = record {
    margin = host.margin;
    retry = host.retry;
    version = host.version;
    delay = delay;
    flow = packet.flow;
    master = ruling.master;
    offset = router.clock_offset;
    slots = router.slots;
  }

  abbrev pub InTime : Coming → Type 0
  InTime y = ComesInTime host delay own y

  abbrev pub Steadily : Coming → Type 0
  Steadily y = ComesSteadily host router delay own seen y

  -- it was prepared among the deals behind some of those before it
  abbrev pub later : (under : List Deal) (x : Coming) (it : InTime x)
      → ComesInTime host delay (under ++ Prepared it.sent it.packet ∷ it.after) x
  later under x it = record {
    before = under;
    sent = it.sent;
    packet = it.packet;
    after = it.after;
    place = refl;
    same = it.same;
    from = it.from;
    until = it.until;
  }

  -- ## the host

  pub number : from.number ≡ sender
  number = (site_is config sender from valid is_from).0

  pub few : takes (log_at logs sender) < 18446744073709551615
  few = few_inputs config rows until logs valid given run sender from is_from number

  pub returns : (before : List Entry) (i : Input) (link : ℕ) (p : PacketData) (receipt : Receipt) (went : Option Outcome)
      (range : Option DataLine) (after : List Entry) → log_at logs sender ≡ before ++ Took i (Received link p receipt went range) ∷ after
      → IsReturn 2 (back_in p.carried)
  returns before i link p receipt went range after e = search (arith, nat_tests, received_returns)

  pub told_all : Told from host from_plan packet.flow.dst (log_at logs sender) few returns (log_at logs sender)
  told_all =
      told from host from_plan packet.flow.dst (log_at logs sender) few returns (due until (run.each sender from is_from).inputs)
      (run.each sender from is_from).is_log.steps

  pub rises : Rises (keys own)
  rises = told_all.dealt

  pub planned : IsHostPlan host
  planned = grind (arith, nat_tests, site_is config sender from valid is_from)

  pub is_played : IsPlayed host.margin host.retry host.version (map contact_of own)
  is_played =
      let log : List Entry = log_at logs sender in
      let falls : NeverFall 0 (calls log) = never_fall 0 log (from_zero log) (run.each sender from is_from).is_log.in_order in
      subst (IsPlayed host.margin host.retry host.version) told_all.contacts
      ((players.played host (calls log) falls).played packet.flow.dst)

  -- ## the router

  pub keeps : KeepsPromises to until (log_at logs node)
  keeps = given.keeps node to is_to

  pub came : (front : List Coming) (y : Coming) (back : List Coming) → seen ≡ front ++ y ∷ back
      → CameAt to router to_plan until (log_at logs node) keeps packet.flow front y
  came front y back e = grind (arith, nat_tests, came_place, keeps, front)

  -- what came is as it was prepared
  pub kept_at : (b : List Entry) (i : Input) (o : Option ℕ) (p : PacketData) (ft : Fate) (ow : PacketData) (r : List Entry)
      → log_at logs node ≡ b ++ Took i (Arrived o p ft ow) ∷ r → (before : List Deal) (t : ℕ) (q : PacketData) (after : List Deal)
      → own ≡ before ++ Prepared t q ∷ after → q.id ≡ p.id → Keeps q p
  kept_at b i o p ft ow r h before t q after place same =
      let log : List Entry = log_at logs sender in
      let from_origin : HasOrigin logs p = origin_at config rows until logs valid run node to is_to b i (Arrived o p ft ow) r h p refl in
      let m : IsMadeIn log q = at_place (IsTrue log) own before (Prepared t q) after place told_all.each in
      let numbered : IfSome (made_in m.content) (λ (z : PacketData). z.id.node ≡ from.number) =
      at_place (λ (e : Entry). IfSome (made_at e) (λ (z : PacketData). z.id.node ≡ from.number)) log m.before
      (Took m.input m.content) m.rest m.here told_all.numbers in
      let q_node : q.id.node ≡ from.number =
      subst (λ (z : Option PacketData). IfSome z (λ (y : PacketData). y.id.node ≡ from.number)) m.makes numbered in
      let p_node : p.id.node ≡ sender = ap (λ (z : PacketId). z.node) (sym same) ∙ (q_node ∙ number) in
      let there : log ≡ from_origin.before ++ Took from_origin.input from_origin.content ∷ from_origin.rest = sym
      (ap (log_at logs) p_node) ∙ from_origin.here in
      let key : entry_key (Took m.input m.content) ≡ Some q.id.ordinal = ap (option_map ordinal_of) m.makes in
      let other : entry_key (Took from_origin.input from_origin.content) ≡ Some q.id.ordinal =
      ap (option_map ordinal_of) from_origin.makes ∙ ap (λ (z : PacketId). Some z.ordinal) (sym from_origin.keeps.id ∙ sym same) in
      let s =
      one_place entry_key m.before (Took m.input m.content) m.rest from_origin.before
      (Took from_origin.input from_origin.content) from_origin.rest q.id.ordinal (sym m.here ∙ there) key other
      (subst (λ (es : List Entry). Rises (filter_map entry_key es)) m.here told_all.entries) in
      grind (arith, nat_tests, same_Some, made_at, keeps)

  -- the place at which it was prepared is that of the steady path
  pub one_deal : (before : List Deal) (t : ℕ) (q : PacketData) (after : List Deal) (c : List Deal) (u : ℕ) (p : PacketData) (d : List Deal)
      → own ≡ before ++ Prepared t q ∷ after → own ≡ c ++ Prepared u p ∷ d → p.id ≡ q.id → (before ≡ c) × (t ≡ u)
  one_deal before t q after c u p d place other same =
      let s =
      one_place deal_key before (Prepared t q) after c (Prepared u p) d q.id.ordinal (sym place ∙ other) refl
      (ap (λ (z : PacketId). Some z.ordinal) same) (subst (λ (ds : List Deal). Rises (keys ds)) place rises) in
      (s.before, ap deal_time s.here)

  -- what came in time and was prepared among some deals came so among them
  pub record Among (before ds : List Deal) (y : Coming) (it : InTime y) : Type 0 where
    pub comes : ComesInTime host delay ds y
    pub is : it.before ≡ before ++ comes.before

  pub among : (before ds tail : List Deal) (y : Coming) → own ≡ before ++ (ds ++ tail) → (it : InTime y) → InAt ds y.packet.id
      → Among before ds y it
  among before ds tail y place it a =
      let s =
      one_deal (before ++ a.before) a.time a.packet (a.after ++ tail) it.before it.sent it.packet it.after
      (place ∙ (ap (λ (es : List Deal). before ++ (es ++ tail)) a.is
      ∙ (ap (λ (es : List Deal). before ++ es) (append_assoc a.before (Prepared a.time a.packet ∷ a.after) tail)
      ∙ sym (append_assoc before a.before (Prepared a.time a.packet ∷ (a.after ++ tail))))))
      it.place (it.same ∙ sym a.same) in
      let sent : a.time ≡ it.sent = s.1 in
      let after_delay = it.from in
      let within = it.until in
      record {
        comes = grind (arith, nat_tests);
        is = sym s.0;
      }

  -- the ask of a grant came within the margin
  pub comes_for : (before rest : List Deal) (came : ℕ) → own ≡ before ++ rest → ask_came seen before ≡ Some came
      → IsSomeAnd (ask_coming seen before) InTime → (ms : List Mile) → contacts ms ≡ map contact_of before
      → IfSome (asked_at (contacts ms)) (λ (t : Time). ComesIn way t.0 came)
  comes_for before rest came place e in_time ms same =
      let c = ask_is seen before came e in
      let it : InTime c.coming = subst (λ (o : Option Coming). IsSomeAnd o InTime) (coming_is seen before came c) in_time in
      let p = asked_place before c.asked c.last in
      let ask : Deal = Prepared c.asked.time p.packet in
      let whole : own ≡ p.before ++ ask ∷ (p.after ++ rest) =
      place ∙ (ap (λ (ds : List Deal). ds ++ rest) p.is ∙ append_assoc p.before (ask ∷ p.after) rest) in
      let s =
      one_deal p.before c.asked.time p.packet (p.after ++ rest) it.before it.sent it.packet it.after whole it.place
      (it.same ∙ (come_id seen c.asked.id c.coming c.found ∙ sym p.same)) in
      grind (arith, nat_tests, came, last_time)

  pub played_to : (before : List Deal) (sent : ℕ) (q : PacketData) (after : List Deal) → own ≡ before ++ Prepared sent q ∷ after
      → IsPlayed host.margin host.retry host.version (map contact_of before ++ contact_of (Prepared sent q) ∷ [])
  played_to before sent q after place = grind (arith, nat_tests, contact_of, map_place, played_front, is_played)
