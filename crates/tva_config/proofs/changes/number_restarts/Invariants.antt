use Rattle.tva_config.proofs.Common.{◌≡◌, length, drop, get_by_text, restart_step, IsRestarted, Continues}
use Rattle.tva_config.proofs.changes.number_restarts.Given as goal

abbrev pub invariant-loop-entry : goal.invariant-loop-entry
invariant-loop-entry l = record {
  read : Continues (restart_step l.routers (get_by_text l.numbers)) l.restarts.items (drop l.entry-index l.entries) l.entries;
  count : length l.restarts.items ≡ l.entry-index;
  last : IsRestarted l.last l.restarts.items;
}
