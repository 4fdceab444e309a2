use Rattle.tva_trace.proofs.RowsValid.{rows_are_valid}
use Rattle.tva_trace.proofs.laws.transfers_are_few.Goals as goal

pub returns : goal.returns
returns c = λ config text rows are. (rows_are_valid config text rows are).files
