use Rattle.tva_config.proofs.Common.{◌≡◌, ◌++◌, drop, filter_map, if_owned}
use Rattle.tva_config.proofs.plans.routes_at.Given as goal

abbrev pub invariant-loop-owned : goal.invariant-loop-owned
invariant-loop-owned l = l.found.items ++ filter_map (if_owned l.router) (drop l.owned-index l.routes) ≡ filter_map (if_owned l.router) l.routes
