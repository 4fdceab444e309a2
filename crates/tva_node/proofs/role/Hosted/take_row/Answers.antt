use Rattle.tva_node.proofs.Common.{◌≡◌, ◌∙◌, ◌∷◌, [], ◌++◌, Option, sym, subst, ap, cons_option, option_map, LinkLimits, PacketData, class_by_shim, PortData, entered_by, Made, CourierData, act_of_row, acts, call_of_row, calls, port_logs, went_out}
use Rattle.tva_port.specs.Stands.{StandsFor}
use Rattle.tva_transfer.specs.Stands as courier
use Rattle.tva_node.proofs.Roles.{host_row, host_tick}
use Rattle.tva_node.proofs.role.Hosted.take_row.Goals as goal

pub returns-in_default-clause-took : goal.returns-in_default-clause-took
returns-in_default-clause-took c = λ site log st.
    let row = c.args.row in
    let new = c.make.new.self in
    let make = c.in_ok-packet.ensures in
    host_tick site c.args.self.now new log row st
    (sym c.in_default.is ∙ make.made (calls log) (acts log) st.courier)
    (subst (λ (made : Option Made). courier.StandsFor new.courier (calls log ++ cons_option (option_map (λ (m : Made). call_of_row row.time.0 row.what m.packet) made) []) (acts log ++ cons_option (act_of_row row.what) [])) c.in_default.is
    (make.stands (calls log) (acts log) st.courier))
    (subst (λ (p : PortData). StandsFor p (port_logs log c.args.self.now.uplink)) (sym make.rest.1) st.port)
    make.same.0
    make.same.1
    make.rest.0
    (ap (λ (p : PortData). p.limits) make.rest.1)

pub returns-clause-took : goal.returns-clause-took
returns-clause-took c = λ site log st.
    let h = c.args.self.now in
    let row = c.args.row in
    let made = c.in-Some.field-0 in
    let make = c.in_ok-packet.ensures in
    let rest = make.rest in
    let same = c.queue.ensures.same in
    let logs = port_logs log h.uplink in
    let stands : StandsFor c.make.new.self.port logs = subst (λ (p : PortData). StandsFor p logs) (sym rest.1) st.port in
    let limits : c.make.new.self.port.limits ≡ h.port.limits = ap (λ (p : PortData). p.limits) rest.1 in
    host_row site h c.queue.new.self log row made c.packet.inside.id c.length-length.result c.in_ok-outcome.outcome st
    (sym c.in-Some.is ∙ make.made (calls log) (acts log) st.courier)
    (ap (λ (p : PacketData). p.id) c.packet.view_is)
    c.length-length.ensures.layout
    (c.in_ok-outcome.ensures.outcome logs stands ∙ (ap (λ k. went_out k c.make.new.self.port.limits logs made.packet) rest.0 ∙ ap (λ (l : LinkLimits). went_out h.uplink l logs made.packet) limits))
    (subst (λ (x : CourierData). courier.StandsFor x (calls log ++ call_of_row row.time.0 row.what made.packet ∷ []) (acts log ++ cons_option (act_of_row row.what) [])) (sym same.0)
    (subst (λ (o : Option Made). courier.StandsFor c.make.new.self.courier (calls log ++ cons_option (option_map (λ (m : Made). call_of_row row.time.0 row.what m.packet) o) []) (acts log ++ cons_option (act_of_row row.what) [])) c.in-Some.is
    (make.stands (calls log) (acts log) st.courier)))
    (subst (λ k. StandsFor c.queue.new.self.port (logs ++ entered_by c.in_ok-outcome.outcome row.time.0 (class_by_shim made.packet.carried) made.packet k)) rest.0 (c.in_ok-outcome.ensures.stands logs stands))
    (ap (λ (x : CourierData). x.host.node) same.0 ∙ make.same.0)
    (ap (λ (x : CourierData). x.host.plan) same.0 ∙ make.same.1)
    (same.1 ∙ rest.0)
    (same.2 ∙ limits)
