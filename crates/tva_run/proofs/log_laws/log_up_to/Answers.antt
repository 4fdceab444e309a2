use Rattle.tva_run.proofs.Logs.{IsNodeLog-cut}
use Rattle.tva_run.proofs.log_laws.log_up_to.Goals as goal

pub returns : goal.returns
returns c = λ site inputs time until log order early h. IsNodeLog-cut site inputs time until log order early h
