use Rattle.tva_index.proofs.Common.{arith, length-drop, length-map}
use Rattle.tva_index.proofs.lowest.Lowest.least.Goals as goal

pub returns-then-self-eq0 : goal.returns-then-self-eq0
returns-then-self-eq0 g c = grind (arith, c.self.view_is, length-drop, g.N.Number.number, length-map)

pub returns : goal.returns
returns g c = grind (arith, c.self.view_is, c.self.invariant.3)
