use Rattle.tva_node.proofs.Common.{arith, nat_tests}
use Rattle.tva_node.proofs.role.Hosted.answer.Goals as goal

pub returns-clause-stands : goal.returns-clause-stands
returns-clause-stands c = grind (arith, nat_tests)
