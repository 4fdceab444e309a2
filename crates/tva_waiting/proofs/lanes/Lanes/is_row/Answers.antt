use Rattle.tva_waiting.proofs.Common.{rules, ◌∙◌, ne_eqb}
use Rattle.tva_waiting.proofs.Held.{row_is_next, row_not_next}
use Rattle.tva_waiting.proofs.lanes.Lanes.is_row.Goals as goal

pub returns-then-next-eq0 : goal.returns-then-next-eq0
returns-then-next-eq0 c = row_is_next c.args.self.now c.next.result c.requires c.next.ensures.some c.next.ensures.none c.if-next-eq0.true c.is_empty.result c.is_empty.ensures (search rules)

pub returns-else-next-eq0 : goal.returns-else-next-eq0
returns-else-next-eq0 c = ne_eqb c.next.result 0 c.if-next-eq0.false ∙ row_not_next c.args.self.now c.next.result c.requires c.next.ensures.some c.next.ensures.none c.if-next-eq0.false
