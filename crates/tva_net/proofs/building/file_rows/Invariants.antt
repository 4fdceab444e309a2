use Rattle.tva_net.proofs.Common.{drop, AllZip, rows_at, KeepsWork}
use Rattle.tva_net.proofs.Mails.{IsGoing}
use Rattle.tva_net.proofs.building.file_rows.Given as goal

abbrev pub invariant-loop-place : goal.invariant-loop-place
invariant-loop-place l = record {
  going : IsGoing (rows_at l.rows) (rows_at (drop l.place l.rows)) l.initial.nodes l.nodes;
  keeps : AllZip KeepsWork l.initial.nodes l.nodes;
}
