use Rattle.tva_run.proofs.Joined.{join-cut}
use Rattle.tva_run.proofs.joining.cut_joins.Goals as goal

pub returns : goal.returns
returns g c = λ time source gives until xs j. join-cut time source gives until xs j
