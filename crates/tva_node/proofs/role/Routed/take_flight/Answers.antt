use Rattle.tva_node.proofs.Common.{◌∙◌, Some, refl, subst, Time, charges_of_boot, Arrival, charges, port_logs, arrived, RouterTook}
use Rattle.tva_node.proofs.Roles.{ordinal_arrival, router_takes}
use Rattle.tva_node.proofs.role.Routed.take_flight.Goals as goal

pub returns-clause-took : goal.returns-clause-took
returns-clause-took c = λ log st.
    let r = c.change.new.self in
    let packet = c.args.flight.packet in
    let time = c.arrive-time.result in
    let link = c.link-link.result in
    let plan = c.args.self.now.router.built in
    let h = c.change.ensures.goes.stands log st in
    let g = charges_of_boot r.router.built r.changes.boot (charges log) in
    let new = c.arrive.new.self in
    let told = c.arrive.result in
    subst (λ (t : Time). RouterTook c.args.number plan log (Arrival t c.args.flight.link packet) told new) c.arrive-time.ensures
    (subst (λ k. RouterTook c.args.number plan log (Arrival time k packet) told new) c.link-link.ensures
    (router_takes r r new c.args.number plan log (Arrival time link packet) (Some link) packet told c.change.ensures.done h c.change.ensures.goes.same.0 refl refl refl
    (c.arrive.ensures.told g (port_logs log) packet h.router c.in_ok-hand.ensures)
    (c.arrive.ensures.stands g (port_logs log) packet h.router c.in_ok-hand.ensures)
    c.arrive.ensures.plan.1 c.arrive.ensures.same.1
    (c.arrive.ensures.same.0 ∙ ordinal_arrival log time link packet (arrived plan log time.0 (Some link) packet) r.next h.next)))
