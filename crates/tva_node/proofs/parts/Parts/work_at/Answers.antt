use Rattle.tva_node.proofs.Common.{arith, state_of}
use Rattle.tva_node.proofs.Works.{begins_at, work_late, worked_one}
use Rattle.tva_node.proofs.parts.Parts.work_at.Goals as goal

pub work_each-requires : goal.work_each-requires
work_each-requires c =
    let st = c.requires.stands in
    begins_at (state_of c.args.self.now) st.0 st.1 c.args.now c.requires.horizon c.requires.next

pub returns-clause-stands : goal.returns-clause-stands
returns-clause-stands c = worked_one (state_of c.work_each.new.self) c.args.now c.in_ok-work_each.ensures.decided

pub returns-clause-on : goal.returns-clause-on
returns-clause-on c =
    let st = c.requires.stands in
    let late = work_late (state_of c.args.self.now) st.0 st.1 c.args.now c.requires.next in
    omega (arith, late)
