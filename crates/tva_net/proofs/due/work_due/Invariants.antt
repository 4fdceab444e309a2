use Rattle.tva_net.proofs.Common.{◌-◌, sum_by, AreNoted}
use Rattle.tva_net.proofs.Worked.{AreWorkedSoFar}
use Rattle.tva_net.proofs.due.work_due.Given as goal

abbrev pub invariant-loop-place : goal.invariant-loop-place
invariant-loop-place l = record {
  worked : AreWorkedSoFar l.until.0 l.initial.nodes l.nodes l.places.items;
  noted : AreNoted l.times l.nodes;
}

abbrev pub decreases-loop-place : goal.decreases-loop-place
decreases-loop-place l = sum_by (λ v. l.until.0 - v.worked_to) l.nodes
