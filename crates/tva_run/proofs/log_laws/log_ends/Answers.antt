use Rattle.tva_run.proofs.Logs.{cut_same}
use Rattle.tva_run.proofs.log_laws.log_ends.Goals as goal

pub returns : goal.returns
returns c = λ site inputs until log h. cut_same site inputs until log h
