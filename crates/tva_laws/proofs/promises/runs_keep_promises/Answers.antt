use Rattle.tva_laws.proofs.Runs.{run_keeps}
use Rattle.tva_laws.proofs.promises.runs_keep_promises.Goals as goal

pub returns : goal.returns
returns c = λ config rows until logs valid trace run node site is. run_keeps config rows until logs valid trace run node site is
