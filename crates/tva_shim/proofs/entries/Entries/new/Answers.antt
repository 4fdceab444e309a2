use Rattle.tva_shim.proofs.Paired.{none_paired, none_fit}
use Rattle.tva_shim.proofs.entries.Entries.new.Goals as goal

pub invariant_of-result : goal.invariant_of-result
invariant_of-result c = none_fit _ _ c.new.ensures c.new-2.ensures

pub returns : goal.returns
returns c = none_paired _ _ c.new.ensures
