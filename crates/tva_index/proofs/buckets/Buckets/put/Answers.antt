use Rattle.std.proofs.Common.{arith}
use Rattle.tva_index.proofs.Common.{set-set}
use Rattle.tva_index.proofs.buckets.Buckets.put.Goals as goal

pub returns : goal.returns
returns c = grind (arith, set-set)
