use Rattle.tva_flow.proofs.Common.{arith}
use Rattle.tva_flow.proofs.Near.{credit-short}
use Rattle.tva_flow.proofs.kept.extended.Goals as goal

pub overflow_add-result-2 : goal.overflow_add-result-2
overflow_add-result-2 c =
    omega (arith, c.requires.near.0, credit-short c.args.length c.args.grant.rights c.credit.result c.credit.ensures.least c.requires.packet.0 c.requires.packet.1 (omega arith))
