use Rattle.tva_report.proofs.Common.{◌-◌, length, take, charges_in, HasRoom, IsSound}
use Rattle.tva_report.specs.Table.{StandsFor}
use Rattle.tva_report.proofs.sums.router_sums.Given as goal

abbrev pub invariant-loop-event : goal.invariant-loop-event
invariant-loop-event l = record {
  sound : IsSound l.tally;
  few : HasRoom l.tally (length l.events - l.event-index);
  stands : StandsFor l.tally l.restarts (charges_in (take l.event-index l.events));
}
