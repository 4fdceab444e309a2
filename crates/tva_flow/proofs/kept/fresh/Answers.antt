use Rattle.tva_flow.proofs.Common.{arith}
use Rattle.tva_flow.proofs.Near.{credit-short}
use Rattle.tva_flow.proofs.kept.fresh.Goals as goal

pub overflow_add-result : goal.overflow_add-result
overflow_add-result c =
    omega (arith, c.requires.time, credit-short c.args.length c.args.grant.rights c.credit.result c.credit.ensures.least c.requires.packet.0 c.requires.packet.1 (omega arith))
