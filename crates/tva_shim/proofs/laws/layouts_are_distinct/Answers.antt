use Rattle.tva_shim.proofs.Readable.{one_shim, shim_or_none}
use Rattle.tva_shim.proofs.laws.layouts_are_distinct.Goals as goal

pub returns : goal.returns
returns c = record { one = one_shim; told = shim_or_none }
