use Rattle.std.proofs.Common.{arith}
use Rattle.tva_index.proofs.Places.{links_same, entries_written}
use Rattle.tva_index.proofs.bits.set_entry.Goals as goal

pub returns-clause-links : goal.returns-clause-links
returns-clause-links c = grind (arith, links_same, c.index_mut.ensures.value)

pub returns-clause-entries : goal.returns-clause-entries
returns-clause-entries c = grind (arith, entries_written)
