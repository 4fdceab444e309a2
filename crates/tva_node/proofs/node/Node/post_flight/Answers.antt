use Rattle.tva_node.proofs.Common.{◌≤◌, sym, subst, input_time, NodeState, Stands, gone_in, state_of}
use Rattle.tva_waiting.specs.Inputs.{arrived}
use Rattle.tva_node.proofs.Posts.{posted_then}
use Rattle.tva_node.proofs.node.Node.post_flight.Goals as goal

pub returns-clause-stands : goal.returns-clause-stands
returns-clause-stands c = λ st.
    let same = sym c.self.view_is in
    let input = arrived c.args.flight in
    posted_then (state_of c.self.inside.parts) input (record (gone_in c.self.inside.parts) { inputs = c.put_flight.new.inbox.gone }) c.put_flight.new.self c.put_flight.new.inbox.all c.put_flight.result
    (subst (λ (w : NodeState). w.worked_to ≤ input_time input) same c.requires.late) (subst (λ (w : NodeState). input_time input ≤ w.horizon) same c.requires.horizon) tt (subst Stands same st)
    c.put_flight.ensures.put c.put_flight.ensures.noted
