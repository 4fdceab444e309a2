use Rattle.tva_run.proofs.Runs.{are_delayed, IsRunTo-cut}
use Rattle.tva_run.proofs.laws.run_up_to.Goals as goal

pub returns : goal.returns
returns c = λ config rows time until logs valid early run. IsRunTo-cut config rows (are_delayed config valid) time until logs early run
