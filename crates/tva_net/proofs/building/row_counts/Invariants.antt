use Rattle.tva_net.proofs.Common.{take, AreRowCounts}
use Rattle.tva_net.proofs.building.row_counts.Given as goal

abbrev pub invariant-loop-place : goal.invariant-loop-place
invariant-loop-place l = AreRowCounts l.count (take l.place l.rows) l.counts.items
