use Rattle.tva_node.proofs.Common.{◌≤◌, get_or, sym, subst, Input, FromTrace, input_time, Fits, NodeState, Stands, gone_in, state_of}
use Rattle.tva_waiting.specs.Noted.{no_row}
use Rattle.tva_node.proofs.Posts.{posted_then}
use Rattle.tva_node.proofs.node.Node.post_packed.Goals as goal

pub returns-clause-stands : goal.returns-clause-stands
returns-clause-stands c = λ st.
    let same = sym c.self.view_is in
    let input : Input = FromTrace (get_or c.args.rows.now c.args.place no_row) in
    posted_then (state_of c.self.inside.parts) input (record (gone_in c.self.inside.parts) { inputs = c.put_packed.new.inbox.gone }) c.put_packed.new.self c.put_packed.new.inbox.all c.put_packed.result
    (subst (λ (w : NodeState). w.worked_to ≤ input_time input) same (c.requires.late no_row)) (subst (λ (w : NodeState). input_time input ≤ w.horizon) same (c.requires.horizon no_row))
    (subst (λ (w : NodeState). Fits w.site.plan input) same (c.requires.fits no_row)) (subst Stands same st)
    (c.put_packed.ensures.put no_row) (c.put_packed.ensures.noted no_row)
