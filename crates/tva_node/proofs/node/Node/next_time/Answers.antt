use Rattle.tva_node.proofs.Common.{◌+◌, ◌<◌, List, Some, subst, arith, Entry, in_turn, NodeState, IsFirstWork, StandsFor, state_of}
use Rattle.tva_node.proofs.Posts.{first_none, first_some}
use Rattle.tva_node.proofs.node.Node.next_time.Goals as goal

pub returns-in-Some : goal.returns-in-Some
returns-in-Some c =
    let t = c.in-Some.time in
    let within : t < c.self.inside.parts.horizon + 1 = omega (arith, c.in-Some.ensures.some.1) in
    subst (λ (w : NodeState). (log : List Entry) → StandsFor w log → IsFirstWork w.site (in_turn w.inbox) log w.worked_to w.horizon (Some (record { 0 = t }))) c.self.view_is
    (λ log h. first_some (state_of c.self.inside.parts) log t h c.in-Some.ensures.some.0 within)

pub returns-in-None : goal.returns-in-None
returns-in-None c = rw (← c.self.view_is) (λ log h. first_none (state_of c.self.inside.parts) log h (c.work_within.ensures.none c.in-None.is))
