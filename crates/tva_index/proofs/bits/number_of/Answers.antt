use Rattle.tva_index.proofs.Common.{arith}
use Rattle.tva_index.proofs.Places.{length-entries_of}
use Rattle.tva_index.proofs.Grown.{entry_within}
use Rattle.tva_index.proofs.bits.number_of.Goals as goal

pub entry_of-requires : goal.entry_of-requires
entry_of-requires c = grind (arith, c.in-Found.is, entry_within, length-entries_of)
