use Rattle.tva_config.proofs.Common.{◌≡◌, ◌++◌, drop, filter_map, if_reroute}
use Rattle.tva_config.proofs.plans.reroutes_at.Given as goal

abbrev pub invariant-loop-reroute : goal.invariant-loop-reroute
invariant-loop-reroute l = l.found.items ++ filter_map (if_reroute l.router) (drop l.reroute-index l.reroutes) ≡ filter_map (if_reroute l.router) l.reroutes
