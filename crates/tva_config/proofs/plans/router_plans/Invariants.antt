use Rattle.tva_config.proofs.Common.{◌≡◌, ◌+◌, ◌++◌, length, into_iter_items, router_plans, seen_owned}
use Rattle.tva_config.proofs.plans.router_plans.Given as goal

abbrev pub invariant-loop-router : goal.invariant-loop-router
invariant-loop-router l = record {
  plans : l.nodes.items ++ router_plans l.links (seen_owned l.owned) l.number (into_iter_items l.router-iterator) ≡ router_plans l.links (seen_owned l.owned) 0 l.fn.routers.items;
  number : l.number + length (into_iter_items l.router-iterator) ≡ length l.fn.routers.items;
}
