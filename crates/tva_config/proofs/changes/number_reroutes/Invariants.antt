use Rattle.tva_config.proofs.Common.{◌≡◌, length, drop, get_by_text, reroute_step, link_at, IsRerouted, Continues}
use Rattle.tva_config.proofs.changes.number_reroutes.Given as goal

abbrev pub invariant-loop-entry : goal.invariant-loop-entry
invariant-loop-entry l = record {
  read : Continues (reroute_step l.routers (get_by_text l.numbers) (link_at l.pairs) l.routes.routes.items) l.reroutes.items (drop l.entry-index l.entries) l.entries;
  count : length l.reroutes.items ≡ l.entry-index;
  last : IsRerouted l.last l.reroutes.items;
}
