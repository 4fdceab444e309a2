use Rattle.tva_router.proofs.Common.{◌≡◌, Some, false, leb, ◌++◌, refl, sym, ap, ◌∙◌, subst, Fate, PacketData, Arrival, Judged, judge, nonce_in, Handled, arrival, fate_of, goes_on, handle, kept_after, sent, queued, way_to, router_data, IsByPlan, StandsFor, StandForLogs, ◌with◌, IsGuard, Keeps, judged_with}
use Rattle.tva_shim.specs.Fields.{packet_of_fields}
use Rattle.tva_port.proofs.Hands.{same_packet}
use Rattle.tva_port.specs.Held.{packet_in}
use Rattle.tva_router.proofs.Ports.{ports-later}
use Rattle.tva_router.proofs.Handled.{sound-later, handle-stopped, stands-stopped, fate-forwarded, onward-forwarded, stands-forwarded, by-plan}
use Rattle.tva_router.proofs.hand_router.arrive_in.Goals as goal

pub returns-then-at_hop_limit-clause-sound : goal.returns-then-at_hop_limit-clause-sound
returns-then-at_hop_limit-clause-sound c built last late sound =
    sound-later built c.args.plan.now last c.args.now.0 c.args.guard.now c.args.ways.now c.args.ports.now.items late sound

pub returns-then-at_hop_limit-clause-fate : goal.returns-then-at_hop_limit-clause-fate
returns-then-at_hop_limit-clause-fate c built last h logs packet late sound stood held =
    let is : c.deref_mut-packet.result.now ≡ packet = c.deref_mut-packet.ensures.value ∙ same_packet (packet_in c.hand.inside.packet) c.in-Some.place.value packet (ap (λ z. packet_in z) c.in-Some.is) (c.hand.view_is ∙ held) in
    subst (λ (z : PacketData). c.stopped.result ≡ (handle c.args.plan.now h logs c.args.now.0 c.args.from z).fate) is
    (c.stopped.ensures
    ∙ sym (ap (λ (z : Handled). z.fate) (handle-stopped c.args.plan.now h logs c.args.now.0 c.args.from c.deref_mut-packet.result.now (sym c.at_hop_limit.ensures ∙ c.if-at_hop_limit.true))))

pub returns-then-at_hop_limit-clause-stands : goal.returns-then-at_hop_limit-clause-stands
returns-then-at_hop_limit-clause-stands c built last h logs packet late sound stood held =
    let is : c.deref_mut-packet.result.now ≡ packet = c.deref_mut-packet.ensures.value ∙ same_packet (packet_in c.hand.inside.packet) c.in-Some.place.value packet (ap (λ z. packet_in z) c.in-Some.is) (c.hand.view_is ∙ held) in
    subst (λ (z : PacketData). StandsFor (router_data built c.args.plan.now c.args.now.0 c.args.guard.now.minter c.args.guard.now.cache c.args.ports.now.items)
    (h ++ (handle c.args.plan.now h logs c.args.now.0 c.args.from z).charges) (logs with (handle c.args.plan.now h logs c.args.now.0 c.args.from z).queued)) is
    (stands-stopped built c.args.plan.now last c.args.now.0 c.args.guard.now.minter c.args.guard.now.cache c.args.ports.now.items h logs c.args.from c.deref_mut-packet.result.now
    (sym c.at_hop_limit.ensures ∙ c.if-at_hop_limit.true) late stood)

pub returns-then-at_hop_limit-clause-left : goal.returns-then-at_hop_limit-clause-left
returns-then-at_hop_limit-clause-left c built last h logs packet late sound stood held =
    let x : PacketData = c.deref_mut-packet.result.now in
    let is : x ≡ packet = c.deref_mut-packet.ensures.value ∙ same_packet (packet_in c.hand.inside.packet) c.in-Some.place.value packet (ap (λ z. packet_in z) c.in-Some.is) (c.hand.view_is ∙ held) in
    subst (λ (z : PacketData). Some x ≡ kept_after c.stopped.result.outcome (handle c.args.plan.now h logs c.args.now.0 c.args.from z).onward) is
    (sym (ap (λ (f : Fate). kept_after f.outcome (handle c.args.plan.now h logs c.args.now.0 c.args.from x).onward) c.stopped.ensures
    ∙ ap (λ (y : Handled). Some y.onward) (handle-stopped c.args.plan.now h logs c.args.now.0 c.args.from x (sym c.at_hop_limit.ensures ∙ c.if-at_hop_limit.true))))

pub send-outcome-requires-clause-ports : goal.send-outcome-requires-clause-ports
send-outcome-requires-clause-ports c =
    ports-later c.args.plan.now.outgoing c.requires.sound.1 c.args.now.0 c.args.ports.now.items c.requires.sound.2 c.requires.sound.3.ports

pub returns-clause-fate : goal.returns-clause-fate
returns-clause-fate c built last h logs packet late sound stood held =
    let p : PacketData = packet_of_fields c.packet.inside in
    let is : p ≡ packet = c.packet.view_is ∙ (c.deref_mut-packet.ensures.value ∙ same_packet (packet_in c.hand.inside.packet) c.in-Some.place.value packet (ap (λ z. packet_in z) c.in-Some.is) (c.hand.view_is ∙ held)) in
    let came : c.arrival_of-arrival.result ≡ arrival c.args.now.0 c.args.from p =
    c.arrival_of-arrival.ensures.value ∙ ap (arrival c.args.now.0 c.args.from) (sym c.packet.view_is) in
    let j : Judged = judged_with c.judge-class.result c.judge-class.new.carried in
    let judged : j ≡ judge c.args.plan.now h (arrival c.args.now.0 c.args.from p) p.carried =
    c.judge-class.ensures.answer h stood.charges ∙ ap (λ (z : Arrival). judge c.args.plan.now h z p.carried) came in
    let went : c.send-outcome.result ≡ sent logs j.class (goes_on p j.carried) (way_to c.args.plan.now p.flow.dst) =
    c.send-outcome.ensures.outcome logs (goes_on p j.carried) stood.links refl in
    let few : leb 32 p.hops ≡ false = subst (λ (z : PacketData). leb 32 z.hops ≡ false) (sym c.packet.view_is) (sym c.at_hop_limit.ensures ∙ c.if-at_hop_limit.false) in
    let fate : Fate = fate_of j c.send-outcome.result in
    subst (λ (z : PacketData). fate ≡ (handle c.args.plan.now h logs c.args.now.0 c.args.from z).fate) is
    (fate-forwarded c.args.plan.now h logs c.args.now.0 c.args.from p j c.send-outcome.result few judged went)

pub returns-clause-stands : goal.returns-clause-stands
returns-clause-stands c built last h logs packet late sound stood held =
    let p : PacketData = packet_of_fields c.packet.inside in
    let is : p ≡ packet = c.packet.view_is ∙ (c.deref_mut-packet.ensures.value ∙ same_packet (packet_in c.hand.inside.packet) c.in-Some.place.value packet (ap (λ z. packet_in z) c.in-Some.is) (c.hand.view_is ∙ held)) in
    let came : c.arrival_of-arrival.result ≡ arrival c.args.now.0 c.args.from p =
    c.arrival_of-arrival.ensures.value ∙ ap (arrival c.args.now.0 c.args.from) (sym c.packet.view_is) in
    let j : Judged = judged_with c.judge-class.result c.judge-class.new.carried in
    let judged : j ≡ judge c.args.plan.now h (arrival c.args.now.0 c.args.from p) p.carried =
    c.judge-class.ensures.answer h stood.charges ∙ ap (λ (z : Arrival). judge c.args.plan.now h z p.carried) came in
    let keeps : Keeps c.args.plan.now (arrival c.args.now.0 c.args.from p) c.judge-class.result.charge (nonce_in p.carried) c.args.guard.now.cache c.judge-class.new.self.cache =
    subst (λ (z : Arrival). Keeps c.args.plan.now z c.judge-class.result.charge (nonce_in p.carried) c.args.guard.now.cache c.judge-class.new.self.cache) came c.judge-class.ensures.keeps in
    let links : StandForLogs c.args.plan.now.outgoing c.send-outcome.new.ports.items (logs with queued logs c.args.now.0 j.class (goes_on p j.carried) (way_to c.args.plan.now p.flow.dst)) =
    c.send-outcome.ensures.stands logs (goes_on p j.carried) stood.links refl in
    let by : IsByPlan (router_data built c.args.plan.now c.args.now.0 c.judge-class.new.self.minter c.judge-class.new.self.cache c.send-outcome.new.ports.items) =
    by-plan built c.args.plan.now c.args.now.0 c.judge-class.new.self c.args.ways.now c.send-outcome.new.ports.items (record {
      valid = sound.valid;
      in_force = sound.in_force;
      guard = subst (λ (z : Arrival). IsGuard c.args.plan.now z.time.0 c.judge-class.new.self) came c.judge-class.ensures.guard;
      ways = sound.ways;
      ports = c.send-outcome.ensures.ports;
    }) in
    let few : leb 32 p.hops ≡ false = subst (λ (z : PacketData). leb 32 z.hops ≡ false) (sym c.packet.view_is) (sym c.at_hop_limit.ensures ∙ c.if-at_hop_limit.false) in
    subst (λ (z : PacketData). StandsFor (router_data built c.args.plan.now c.args.now.0 c.judge-class.new.self.minter c.judge-class.new.self.cache c.send-outcome.new.ports.items)
    (h ++ (handle c.args.plan.now h logs c.args.now.0 c.args.from z).charges) (logs with (handle c.args.plan.now h logs c.args.now.0 c.args.from z).queued)) is
    (stands-forwarded built c.args.plan.now last c.args.now.0 c.args.guard.now.minter c.judge-class.new.self.minter c.args.guard.now.cache c.judge-class.new.self.cache c.args.ports.now.items c.send-outcome.new.ports.items
    h logs c.args.from p j few judged stood keeps links by)

pub returns-clause-left : goal.returns-clause-left
returns-clause-left c built last h logs packet late sound stood held =
    let p : PacketData = packet_of_fields c.packet.inside in
    let is : p ≡ packet = c.packet.view_is ∙ (c.deref_mut-packet.ensures.value ∙ same_packet (packet_in c.hand.inside.packet) c.in-Some.place.value packet (ap (λ z. packet_in z) c.in-Some.is) (c.hand.view_is ∙ held)) in
    let came : c.arrival_of-arrival.result ≡ arrival c.args.now.0 c.args.from p =
    c.arrival_of-arrival.ensures.value ∙ ap (arrival c.args.now.0 c.args.from) (sym c.packet.view_is) in
    let j : Judged = judged_with c.judge-class.result c.judge-class.new.carried in
    let judged : j ≡ judge c.args.plan.now h (arrival c.args.now.0 c.args.from p) p.carried =
    c.judge-class.ensures.answer h stood.charges ∙ ap (λ (z : Arrival). judge c.args.plan.now h z p.carried) came in
    let few : leb 32 p.hops ≡ false = subst (λ (z : PacketData). leb 32 z.hops ≡ false) (sym c.packet.view_is) (sym c.at_hop_limit.ensures ∙ c.if-at_hop_limit.false) in
    c.send-outcome.ensures.left (goes_on p j.carried) refl
    ∙ (ap (λ (z : PacketData). kept_after c.send-outcome.result z) (onward-forwarded c.args.plan.now h logs c.args.now.0 c.args.from p j few judged)
    ∙ ap (λ (z : PacketData). kept_after c.send-outcome.result (handle c.args.plan.now h logs c.args.now.0 c.args.from z).onward) is)
