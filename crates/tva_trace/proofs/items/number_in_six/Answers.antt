use Rattle.tva_trace.proofs.Common.{arith}
use Rattle.tva_trace.proofs.Digits.{big_from-fits}
use Rattle.tva_trace.proofs.items.number_in_six.Goals as goal

pub returns-clause-bits : goal.returns-clause-bits
returns-clause-bits c = omega (arith, c.read_u48.ensures, big_from-fits 6 0 c.args.bytes.now (λ k. omega (arith, c.type_inv.bytes k)))
