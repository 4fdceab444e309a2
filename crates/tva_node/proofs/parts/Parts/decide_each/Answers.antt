use Rattle.tva_node.proofs.Common.{◌+◌, arith, subst, ◌∙◌, IsFirstAsked, state_of}
use Rattle.tva_node.proofs.Asked.{goes_on, goes_through}
use Rattle.tva_node.proofs.Decides.{count_kept}
use Rattle.tva_node.proofs.Zips.{keeps_on}
use Rattle.tva_node.proofs.parts.Parts.decide_each.Goals as goal

pub returns-in_default-clause-decided : goal.returns-in_default-clause-decided
returns-in_default-clause-decided c =
    let st = c.loop.invariant.stands in
    goes_through (state_of c.loop.self) c.args.now st.0 st.3 st.2 (subst (IsFirstAsked c.args.now c.loop.self.links) c.in_default.is c.due.ensures)

pub ask_at-requires-clause-stands : goal.ask_at-requires-clause-stands
ask_at-requires-clause-stands c = (goes_on (state_of c.loop.self) c.args.now c.loop.invariant.stands.0 c.loop.invariant.stands.3 c.in-Some.place c.in-Some.ensures).1

pub loop-preserved : goal.loop-preserved
loop-preserved c =
    let st = c.loop.invariant.stands in
    let behind = (goes_on (state_of c.loop.self) c.args.now st.0 st.3 c.in-Some.place c.in-Some.ensures).0 in
    let count = count_kept c.loop.self c.ask_at.new.self c.ask_at.ensures.keeps in
    record {
      stands = (c.in-Some.place + 1, (let k = st.1 in omega (arith, k, behind)), omega (arith, c.in-Some.ensures.0, count), c.in_ok-ask_at.ensures.stands);
      count = count ∙ c.loop.invariant.count;
      keeps = keeps_on (state_of c.args.self.now) (state_of c.loop.self) (state_of c.ask_at.new.self) c.loop.invariant.keeps c.ask_at.ensures.keeps;
    }
