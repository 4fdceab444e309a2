use Rattle.tva_laws.proofs.Whole.{traced_run}
use Rattle.tva_laws.proofs.existence.runs_are_there.Goals as goal

pub returns : goal.returns
returns c = λ config rows until valid trace within. traced_run config rows valid trace until within
