use Rattle.tva_run.proofs.Quiet.{quiet_log}
use Rattle.tva_run.proofs.log_laws.quiet_log.Goals as goal

pub returns : goal.returns
returns c = λ site inputs from until log later quiet h. quiet_log site inputs from until log later quiet h
