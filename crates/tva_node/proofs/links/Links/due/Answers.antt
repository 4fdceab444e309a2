use Rattle.tva_node.proofs.Common.{arith, nat_tests, Some, List, sym, subst, ◌∙◌, Link, IsFirstAsked}
use Rattle.tva_node.proofs.Asked.{first_asked}
use Rattle.tva_node.proofs.links.Links.due.Goals as goal

pub returns-then-is_asked : goal.returns-then-is_asked
returns-then-is_asked c =
    subst (λ (ls : List Link). IsFirstAsked c.args.now ls (Some c.in_ok-place.field-0)) c.self.view_is
    (first_asked c.self.inside.keys c.self.inside.items.items c.in_ok-place.field-0 c.index.result.now c.self.invariant c.in_ok-place.ensures c.index.ensures c.args.now (sym c.is_asked.ensures ∙ c.if-is_asked.true))

pub returns-else-is_asked : goal.returns-else-is_asked
returns-else-is_asked c = grind (arith, nat_tests)
