use Rattle.tva_node.proofs.Common.{◌≡◌, ◌∙◌, Some, None, sym, subst, ap, option_map, charges_of_boot, RouterData, FromTrace, charges, port_logs, arrived, packet_of_row}
use Rattle.tva_router.specs.Stands.{StandsFor}
use Rattle.tva_node.proofs.Roles.{ordinal_row, router_takes}
use Rattle.tva_node.proofs.role.Routed.take_row.Goals as goal

pub returns-clause-took : goal.returns-clause-took
returns-clause-took c = λ log st.
    let r = c.change.new.self in
    let row = c.args.row in
    let packet = c.packet_of-packet.result in
    let plan = c.args.self.now.router.built in
    let h = c.change.ensures.goes.stands log st in
    let g = charges_of_boot r.router.built r.changes.boot (charges log) in
    let stands = subst (λ (v : RouterData). StandsFor v g (port_logs log)) (sym c.packet_of-packet.ensures.router.0) h.router in
    let found = subst (λ k. packet_of_row (record { node = c.args.number; ordinal = k }) row.what ≡ Some packet) h.next c.packet_of-packet.ensures.packet in
    router_takes r c.packet_of-packet.new.self c.arrive.new.self c.args.number plan log (FromTrace row) None packet c.arrive.result c.change.ensures.done h c.change.ensures.goes.same.0
    c.packet_of-packet.ensures.router.0 c.packet_of-packet.ensures.router.1
    (ap (option_map (arrived plan log row.time.0 None)) found)
    (c.arrive.ensures.told g (port_logs log) packet stands c.in_ok-hand.ensures)
    (c.arrive.ensures.stands g (port_logs log) packet stands c.in_ok-hand.ensures)
    c.arrive.ensures.plan.1 c.arrive.ensures.same.1
    (c.arrive.ensures.same.0 ∙ (c.packet_of-packet.ensures.next ∙ ordinal_row log row (arrived plan log row.time.0 None packet) r.next h.next))
