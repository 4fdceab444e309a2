use Rattle.tva_node.proofs.Common.{rules, ◌≡◌, arith, inl, inr, cases_lt, state_of}
use Rattle.tva_node.proofs.Works.{goes_to}
use Rattle.tva_node.proofs.parts.Parts.rest_until.Goals as goal

pub returns-clause-stands : goal.returns-clause-stands
returns-clause-stands c =
    goes_to (state_of c.args.self.now) c.args.end c.max-self.result c.requires.stands c.requires.end c.requires.none
    (elim (cases_lt c.args.self.now.worked_to c.args.end) [
      | inl a ↦ inl (omega arith, let e : c.max-self.result ≡ c.args.end = grind (arith, rules, c.max-self.ensures) in e)
      | inr a ↦ inr (a, let e : c.max-self.result ≡ c.args.self.now.worked_to = grind (arith, rules, c.max-self.ensures) in e)
    ])
