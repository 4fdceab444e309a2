use Rattle.tva_net.proofs.Noted.{AreNotedTo}
use Rattle.tva_net.proofs.times.note_all.Given as goal

abbrev pub invariant-loop-place : goal.invariant-loop-place
invariant-loop-place l = AreNotedTo l.place l.times l.nodes
