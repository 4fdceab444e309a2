use Rattle.tva_config.proofs.Common.{◌≡◌, ◌==◌, ℕ, nat_eq, map, take, drop, list_any, address_step, Continues}
use Rattle.std.specs.HashSet as bag
use Rattle.tva_config.proofs.nodes.addresses.Given as goal

abbrev pub invariant-loop-i : goal.invariant-loop-i
invariant-loop-i l = record {
  read : Continues address_step (map (λ h. h.address) (take l.i l.hosts)) (drop l.i l.hosts) l.hosts;
  seen : (q : ℕ) → bag.contains nat_eq l.seen q ≡ list_any (λ a. a.0 == q) (map (λ h. h.address) (take l.i l.hosts));
}
