use Rattle.tva_transfer.proofs.Common.{after_upper}
use Rattle.tva_transfer.proofs.courier.Courier.keep.Goals as goal

pub returns-in-Nothing-clause-knows : goal.returns-in-Nothing-clause-knows
unfolding after_upper
returns-in-Nothing-clause-knows c files k = rw c.in-Nothing.is k
