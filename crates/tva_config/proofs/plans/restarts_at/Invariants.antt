use Rattle.tva_config.proofs.Common.{◌≡◌, ◌++◌, drop, filter_map, if_restart}
use Rattle.tva_config.proofs.plans.restarts_at.Given as goal

abbrev pub invariant-loop-restart : goal.invariant-loop-restart
invariant-loop-restart l = l.found.items ++ filter_map (if_restart l.router) (drop l.restart-index l.restarts) ≡ filter_map (if_restart l.router) l.restarts
