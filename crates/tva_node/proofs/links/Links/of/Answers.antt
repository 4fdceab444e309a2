use Rattle.tva_node.proofs.Common.{nat_tests, arith}
use Rattle.tva_node.proofs.Asked.{few_links, first_keyed}
use Rattle.tva_node.proofs.Posts.{pairs_first}
use Rattle.tva_node.proofs.links.Links.of.Goals as goal

pub first_keys-requires : goal.first_keys-requires
first_keys-requires c = grind (arith, nat_tests, pairs_first, few_links)

pub invariant_of-result : goal.invariant_of-result
invariant_of-result c = grind (arith, nat_tests, pairs_first, first_keyed, few_links)
