use Rattle.tva_rows.proofs.Common.{◌≡◌}
use Rattle.tva_rows.proofs.packed.PackedRows.from_rows.Given as goal

abbrev pub invariant-loop-row : goal.invariant-loop-row
invariant-loop-row l = l.packed ≡ l.yielded
