use Rattle.tva_node.proofs.Common.{arith, nat_tests, least_next}
use Rattle.tva_node.proofs.Asked.{first_is}
use Rattle.tva_node.proofs.links.Links.first.Goals as goal

pub returns : goal.returns
returns c = grind (arith, nat_tests, first_is, least_next)
