use Rattle.tva_trace.proofs.RowsThere.{rows_there}
use Rattle.tva_trace.proofs.laws.rows_are_there.Goals as goal

pub returns : goal.returns
returns c = rows_there
