use Rattle.tva_config.proofs.Common.{◌≡◌, length, drop, get_by_text, route_step, link_at, IsSeen, Continues}
use Rattle.tva_config.proofs.routes.number_routes.Given as goal

abbrev pub invariant-loop-entry : goal.invariant-loop-entry
invariant-loop-entry l = record {
  read : Continues (route_step l.routers (get_by_text l.numbers) (link_at l.pairs)) l.routes.items (drop l.entry-index l.entries) l.entries;
  count : length l.routes.items ≡ l.entry-index;
  seen : IsSeen l.seen l.routes.items;
}
