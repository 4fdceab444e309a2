use Rattle.tva_node.proofs.Common.{◌≡◌, ◌+◌, ◌∷◌, [], ◌++◌, Option, Some, None, get_or, refl, subst, ◌∙◌, ap, arith, PacketData, WaitUntil, Idle, decision_by, NodeState, gone_in, role_plan, site_at, state_of, Decides, DecidesAt, end_on, start_event, start_sending}
use Rattle.tva_port.specs.declared.hand.Next.TheVariants.{Start}
use Rattle.tva_node.proofs.Decides.{from_fields, keeps_put, on_both, read_busy, read_fits, read_out, read_rest, read_start}
use Rattle.tva_node.proofs.Works.{pairs_put}
use Rattle.tva_node.proofs.parts.Parts.ask_at.Goals as goal
use Rattle.tva_port.proofs.Hands.{by_packet}

pub free_at-free-requires : goal.free_at-free-requires
free_at-free-requires c =
    let st = c.requires.stands.3 in
    record {
      time = (c.args.now, st.past);
      out = (site_at c.args.self.now, c.at-number.result.plan.limits, st.site, st.plan, read_out c.args.self.now c.args.now c.args.place c.at-number.result c.at-number.ensures c.requires.within c.requires.stands);
    }

pub returns-then-free-now-clause-stands : goal.returns-then-free-now-clause-stands
returns-then-free-now-clause-stands c =
    let p = c.args.self.now in
    let st = c.requires.stands.3 in
    let a = c.at-number.result in
    let out = read_out p c.args.now c.args.place a c.at-number.ensures c.requires.within c.requires.stands in
    read_busy p c.args.now c.args.place a c.at-number.ensures c.requires.within c.requires.stands c.put.new.self c.free_at-free.result.0 (c.put.ensures a)
    (c.free_at-free.ensures.free (site_at p) c.requires.stands.1 a.plan.limits st.site st.plan out st.role) c.if-free-now.true

pub returns-then-free-now-clause-keeps : goal.returns-then-free-now-clause-keeps
returns-then-free-now-clause-keeps c =
    keeps_put c.args.self.now c.put.new.self c.args.place c.at-number.result (Some c.free_at-free.result.0) c.args.self.now.role c.requires.within (c.put.ensures c.at-number.result) refl

pub decide-requires-clause-out : goal.decide-requires-clause-out
decide-requires-clause-out c =
    let st = c.requires.stands.3 in
    (site_at c.args.self.now, c.at-number.result.plan.limits, st.site, st.plan, read_out c.args.self.now c.args.now c.args.place c.at-number.result c.at-number.ensures c.requires.within c.requires.stands)

pub note_start-requires-clause-fits : goal.note_start-requires-clause-fits
note_start-requires-clause-fits c = λ x.
    read_fits c.args.self.now c.args.now c.args.place c.at-number.result c.at-number.ensures c.requires.within c.requires.stands x

pub returns-in-Start-clause-stands : goal.returns-in-Start-clause-stands
returns-in-Start-clause-stands c = by_packet c.decide.new.hand c.in-Start.ensures.held (λ packet hand.
    let p = c.args.self.now in
    let st = c.requires.stands.3 in
    let a = c.at-number.result in
    let here = get_or p.links c.args.place a in
    let q = c.note_start.new.self in
    let same = c.note_start.ensures.same in
    let held = c.note_start.ensures.held in
    let out = read_out p c.args.now c.args.place a c.at-number.ensures c.requires.within c.requires.stands in
    let free = c.free_at-free.ensures.free (site_at p) c.requires.stands.1 a.plan.limits st.site st.plan out st.role in
    let decided = subst (λ (h : Option PacketData). Decides (site_at p) c.requires.stands.1 a.number c.args.now a.plan.limits (decision_by (Start c.in-Start.class) h) c.decide.new.self) hand
    (c.in-Start.ensures.decides (site_at p) c.requires.stands.1 a.plan.limits st.site st.plan out st.role) in
    let events = p.log.all ++ start_event p.number here c.args.now c.in-Start.class packet ∷ [] in
    let sendings = p.outbox.all ++ start_sending here c.args.now packet ∷ [] in
    let stands = read_start p c.args.now c.args.place a c.at-number.ensures c.requires.within c.requires.stands c.in-Start.class packet c.decide.new.self
    (omega (arith, free, c.if-free-now.false)) decided c.in-Start.ensures.plan c.in-Start.ensures.last in
    on_both (q.log.all ≡ events) (q.outbox.all ≡ sendings) (DecidesAt (state_of q) c.args.now (c.args.place + 1)) c.note_start.result
    (λ told sent. subst (λ (v : NodeState). DecidesAt v c.args.now (c.args.place + 1))
    (from_fields q p.number p.horizon p.worked_to c.decide.new.self _ p.inbox.all p.waiting p.outbox.keeps (gone_in p) events sendings same.3 same.4 same.5 same.0 (c.note_start.ensures.links a packet hand) (ap (λ v. v.all) same.1) same.2 told sent held.0 (λ i. record { inputs = (same.1 i).gone; events = held.1 i; sendings = held.2 i; told = held.3 i; sent = held.4 i })) stands)
    (c.note_start.ensures.log a packet hand) (c.note_start.ensures.outbox a packet hand))

pub returns-in-Start-clause-keeps : goal.returns-in-Start-clause-keeps
returns-in-Start-clause-keeps c = by_packet c.decide.new.hand c.in-Start.ensures.held (λ packet hand.
    let a = c.at-number.result in
    let q = c.note_start.new.self in
    let same = c.note_start.ensures.same in
    let held = c.note_start.ensures.held in
    record {
      site = λ i. record {
        number = same.3 i;
        plan = (ap role_plan same.0 ∙ c.in-Start.ensures.plan) i;
        links = pairs_put c.args.self.now.links q.links c.args.place a (Some (end_on (get_or c.args.self.now.links c.args.place a) c.args.now packet)) c.requires.within (c.note_start.ensures.links a packet hand) i;
      };
      horizon = same.4;
      inbox = ap (λ v. v.all) same.1;
      events = c.note_start.ensures.more;
      sendings = c.note_start.ensures.sent;
      keeps = held.0;
      gone = λ i. record { inputs = (same.1 i).gone; events = held.1 i; sendings = held.2 i; told = held.3 i; sent = held.4 i };
    })

pub returns-in-WaitUntil-clause-stands : goal.returns-in-WaitUntil-clause-stands
returns-in-WaitUntil-clause-stands c =
    let p = c.args.self.now in
    let st = c.requires.stands.3 in
    let a = c.at-number.result in
    let out = read_out p c.args.now c.args.place a c.at-number.ensures c.requires.within c.requires.stands in
    let free = c.free_at-free.ensures.free (site_at p) c.requires.stands.1 a.plan.limits st.site st.plan out st.role in
    read_rest p c.args.now c.args.place a c.at-number.ensures c.requires.within c.requires.stands (WaitUntil c.in-WaitUntil.time) c.put-in-WaitUntil.new.self c.decide.new.self (c.put-in-WaitUntil.ensures a)
    (omega (arith, free, c.if-free-now.false))
    (c.in-WaitUntil.ensures.decides (site_at p) c.requires.stands.1 a.plan.limits st.site st.plan out st.role) refl c.in-WaitUntil.ensures.plan c.in-WaitUntil.ensures.last

pub returns-in-WaitUntil-clause-keeps : goal.returns-in-WaitUntil-clause-keeps
returns-in-WaitUntil-clause-keeps c =
    keeps_put c.args.self.now c.put-in-WaitUntil.new.self c.args.place c.at-number.result (Some c.in-WaitUntil.time.0) c.decide.new.self c.requires.within (c.put-in-WaitUntil.ensures c.at-number.result) c.in-WaitUntil.ensures.plan

pub returns-in-Idle-clause-stands : goal.returns-in-Idle-clause-stands
returns-in-Idle-clause-stands c =
    let p = c.args.self.now in
    let st = c.requires.stands.3 in
    let a = c.at-number.result in
    let out = read_out p c.args.now c.args.place a c.at-number.ensures c.requires.within c.requires.stands in
    let free = c.free_at-free.ensures.free (site_at p) c.requires.stands.1 a.plan.limits st.site st.plan out st.role in
    read_rest p c.args.now c.args.place a c.at-number.ensures c.requires.within c.requires.stands Idle c.put-in-Idle.new.self c.decide.new.self (c.put-in-Idle.ensures a)
    (omega (arith, free, c.if-free-now.false))
    (c.in-Idle.ensures.decides (site_at p) c.requires.stands.1 a.plan.limits st.site st.plan out st.role) refl c.in-Idle.ensures.plan c.in-Idle.ensures.last

pub returns-in-Idle-clause-keeps : goal.returns-in-Idle-clause-keeps
returns-in-Idle-clause-keeps c =
    keeps_put c.args.self.now c.put-in-Idle.new.self c.args.place c.at-number.result None c.decide.new.self c.requires.within (c.put-in-Idle.ensures c.at-number.result) c.in-Idle.ensures.plan
