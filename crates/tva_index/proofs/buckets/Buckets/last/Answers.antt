use Rattle.tva_index.proofs.Common.{ap, arith, Placed}
use Rattle.tva_index.proofs.Chains.{start_read}
use Rattle.tva_index.proofs.buckets.Buckets.last.Goals as goal

pub index-requires : goal.index-requires
index-requires c = omega (arith, ap (λ (v : Placed). v.count) c.self.view_is, c.requires)

pub returns : goal.returns
returns c = grind (arith, c.self.view_is, start_read, c.self.invariant.0)
