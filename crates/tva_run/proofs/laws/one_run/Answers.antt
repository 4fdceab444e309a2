use Rattle.tva_run.proofs.Runs.{are_delayed, one_run_is}
use Rattle.tva_run.proofs.laws.one_run.Goals as goal

pub returns : goal.returns
returns c = λ config rows until logs others valid a b. one_run_is config rows until logs others (are_delayed config valid) a b
