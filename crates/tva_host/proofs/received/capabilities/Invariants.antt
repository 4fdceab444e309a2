use Rattle.tva_host.proofs.Common.{◌≡◌, length, map, take}
use Rattle.tva_caps.specs.Formula.{capability_of}
use Rattle.tva_host.proofs.received.capabilities.Given as goal

-- the capabilities of the pre-capabilities so far
abbrev pub invariant-loop-precap : goal.invariant-loop-precap
invariant-loop-precap l = record {
  caps : l.caps ≡ map (λ p. capability_of p l.rights) (take l.precap-index l.precap-items);
  len : length l.caps ≡ l.precap-index;
  rights : l.rights ≡ l.fn.rights;
}
