use Rattle.tva_index.proofs.Common.{arith}
use Rattle.tva_index.proofs.Places.{low_written, high_written, entries_same}
use Rattle.tva_index.proofs.bits.set_link.Goals as goal

pub returns-then-link-eq0-clause-links : goal.returns-then-link-eq0-clause-links
returns-then-link-eq0-clause-links c = grind (arith, low_written, c.index_mut-place.ensures.value)

pub returns-then-link-eq0-clause-entries : goal.returns-then-link-eq0-clause-entries
returns-then-link-eq0-clause-entries c = grind (arith, entries_same, c.index_mut-place.ensures.value)

pub returns-else-link-eq0-clause-links : goal.returns-else-link-eq0-clause-links
returns-else-link-eq0-clause-links c = grind (arith, high_written, c.index_mut-place.ensures.value)

pub returns-else-link-eq0-clause-entries : goal.returns-else-link-eq0-clause-entries
returns-else-link-eq0-clause-entries c = grind (arith, entries_same, c.index_mut-place.ensures.value)
