use Rattle.tva_run.proofs.Logs.{IsNodeLog-unique}
use Rattle.tva_run.proofs.log_laws.one_log.Goals as goal

pub returns : goal.returns
returns c = λ site inputs others until log other same a b. IsNodeLog-unique site until inputs others log other same a b
