use Rattle.tva_sender.proofs.Common.{rules, None, All-replicate, IsRecent, addresses_of}
use Rattle.tva_sender.proofs.places.Places.new.Goals as goal

pub invariant_of-result : goal.invariant_of-result
invariant_of-result c = (search rules, All-replicate (IsRecent (addresses_of c.new.result.items)) 64 None tt)
