use Rattle.tva_config.proofs.Common.{◌≡◌, ◌+◌, ◌++◌, length, drop, into_iter_items, host_plans}
use Rattle.tva_config.proofs.plans.add_hosts.Given as goal

abbrev pub invariant-loop-host : goal.invariant-loop-host
invariant-loop-host l = record {
  plans : l.nodes.items ++ host_plans (into_iter_items l.host-iterator) (drop l.i l.uplinks) ≡ l.fn.nodes.items ++ host_plans l.fn.hosts.items l.uplinks;
  number : l.i + length (into_iter_items l.host-iterator) ≡ length l.uplinks;
}
