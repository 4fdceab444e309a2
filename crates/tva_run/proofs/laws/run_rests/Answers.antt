use Rattle.tva_run.proofs.Going as going
use Rattle.tva_run.proofs.laws.run_rests.Goals as goal

pub returns : goal.returns
returns c = λ config rows from until logs run later within rest. going.run_rests config rows from until logs later within run rest
