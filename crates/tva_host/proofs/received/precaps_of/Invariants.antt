use Rattle.tva_host.proofs.Common.{◌≡◌, length, map, take}
use Rattle.tva_host.proofs.received.precaps_of.Given as goal

-- the pre-capabilities of the entries so far
abbrev pub invariant-loop-entry : goal.invariant-loop-entry
invariant-loop-entry l = record {
  precaps : l.precaps ≡ map (λ e. e.precap) (take l.entry-index l.entry-items);
  len : length l.precaps ≡ l.entry-index;
}
