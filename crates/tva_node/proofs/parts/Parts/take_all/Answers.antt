use Rattle.tva_node.proofs.Common.{◌∙◌, sym, state_of}
use Rattle.tva_node.proofs.Works.{all_in}
use Rattle.tva_node.proofs.parts.Parts.take_all.Goals as goal

pub returns-clause-taken : goal.returns-clause-taken
returns-clause-taken c =
    let st = c.loop-self.invariant.stands in
    all_in (state_of c.loop-self.self) c.args.now st.0 st.1 st.2 st.3 (sym c.is_due.ensures ∙ c.loop-self-test.false)
