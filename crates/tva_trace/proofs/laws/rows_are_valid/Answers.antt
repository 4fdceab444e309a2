use Rattle.tva_trace.proofs.RowsValid.{rows_are_valid}
use Rattle.tva_trace.proofs.laws.rows_are_valid.Goals as goal

pub returns : goal.returns
returns c = rows_are_valid
