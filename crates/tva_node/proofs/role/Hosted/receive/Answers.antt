use Rattle.tva_node.proofs.Common.{◌∙◌, ◌∷◌, [], ◌++◌, sym, subst, ap, PacketData, Received, Came, answered, CourierData, acts, calls, files, port_logs}
use Rattle.tva_transfer.specs.Stands.{StandsFor}
use Rattle.tva_node.proofs.Roles.{host_arrival}
use Rattle.tva_node.proofs.role.Hosted.receive.Goals as goal

pub returns-clause-took : goal.returns-clause-took
returns-clause-took c = λ site log st.
    let h = c.args.self.now in
    let plan = h.courier.host.plan in
    let logs = port_logs log h.uplink in
    let same = c.answer.ensures.same in
    let landed = c.in_ok-receipt.field-0 in
    host_arrival site h c.answer.new.self log c.args.now c.args.from c.args.packet landed.receipt landed.range c.packet.inside.id c.length-length.result c.packet.inside.payload c.in_ok-reply.reply st
    (c.in_ok-receipt.ensures.receipt (calls log) (acts log) st.courier)
    (c.in_ok-receipt.ensures.range (calls log) (acts log) st.courier)
    (ap (λ (p : PacketData). p.id) c.packet.view_is)
    c.length-length.ensures.layout
    (ap (λ (p : PacketData). p.payload) c.packet.view_is)
    (c.in_ok-reply.ensures.told logs st.port)
    (subst (λ (x : CourierData). StandsFor x (calls log ++ Received c.args.now.0 c.args.packet (answered plan.address (files plan log) c.args.packet) ∷ []) (acts log ++ Came c.args.packet ∷ [])) (sym same.0)
    (c.in_ok-receipt.ensures.stands (calls log) (acts log) st.courier))
    (c.in_ok-reply.ensures.stands logs st.port)
    (ap (λ (x : CourierData). x.host.node) same.0 ∙ c.in_ok-receipt.ensures.same.0)
    (ap (λ (x : CourierData). x.host.plan) same.0 ∙ c.in_ok-receipt.ensures.same.1)
    same.1
    same.2
