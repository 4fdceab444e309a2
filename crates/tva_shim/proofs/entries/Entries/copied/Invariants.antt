use Rattle.tva_shim.proofs.Common.{◌≡◌, take}
use Rattle.tva_shim.proofs.entries.Entries.copied.Given as goal

-- the copy has the entries that were passed
abbrev pub invariant-loop-entry : goal.invariant-loop-entry
invariant-loop-entry l = l.copy ≡ take l.entry-index l.entry-items
