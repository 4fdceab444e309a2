use Rattle.tva_rows.proofs.Common.{◌≡◌, take}
use Rattle.tva_rows.proofs.packed.PackedRows.to_rows.Given as goal

abbrev pub invariant-loop-place : goal.invariant-loop-place
invariant-loop-place l = l.rows.items ≡ take l.place l.self
