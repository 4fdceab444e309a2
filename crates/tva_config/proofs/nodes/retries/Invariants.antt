use Rattle.tva_config.proofs.Common.{map, take, drop, retry_step, Continues}
use Rattle.tva_config.proofs.nodes.retries.Given as goal

abbrev pub invariant-loop-i : goal.invariant-loop-i
invariant-loop-i l = Continues retry_step (map (λ h. h.retry) (take l.i l.hosts)) (drop l.i l.hosts) l.hosts
