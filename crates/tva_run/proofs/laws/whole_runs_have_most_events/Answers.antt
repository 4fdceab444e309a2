use Rattle.tva_run.proofs.Runs.{are_delayed}
use Rattle.tva_run.proofs.Reports.{no_more_events}
use Rattle.tva_run.proofs.laws.whole_runs_have_most_events.Goals as goal

pub returns : goal.returns
returns c = λ config rows until part whole valid a b. no_more_events config rows (are_delayed config valid) until part whole a b
