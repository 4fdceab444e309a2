use Rattle.tva_run.proofs.Going as going
use Rattle.tva_run.proofs.laws.run_goes_on.Goals as goal

pub returns : goal.returns
returns c = λ config rows from until logs longer run later short within count has. going.run_goes_on config rows from until logs longer later run has count short within
