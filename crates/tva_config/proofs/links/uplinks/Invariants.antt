use Rattle.tva_config.proofs.Common.{◌≡◌, length, drop, uplink_step, Continues}
use Rattle.tva_config.proofs.links.uplinks.Given as goal

abbrev pub invariant-loop-i : goal.invariant-loop-i
invariant-loop-i l = record {
  read : Continues (uplink_step l.routers l.links) l.uplinks.items (drop l.i l.hosts) l.hosts;
  count : length l.uplinks.items ≡ l.i;
}
