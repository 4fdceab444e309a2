use Rattle.tva_index.proofs.Common.{arith}
use Rattle.tva_index.proofs.Places.{low_read, high_read}
use Rattle.tva_index.proofs.bits.next_below.Goals as goal

pub returns-in-Some : goal.returns-in-Some
returns-in-Some c = grind (arith, low_read, c.requires.within)

pub returns-in-Some-follow : goal.returns-in-Some-follow
returns-in-Some-follow c = grind (arith, high_read, c.requires.within)

pub returns : goal.returns
returns c = grind (arith, low_read, c.requires.within, high_read)
