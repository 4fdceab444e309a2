use Rattle.tva_gen.proofs.Common.{◌≡◌, ◌++◌, map, drop, hosts_in}
use Rattle.tva_gen.proofs.hosts.hosts_in.Given as goal

abbrev pub invariant-loop-node : goal.invariant-loop-node
invariant-loop-node l = map (λ h. h.now) l.hosts.items ++ hosts_in (drop l.node-index l.nodes) ≡ hosts_in l.nodes
