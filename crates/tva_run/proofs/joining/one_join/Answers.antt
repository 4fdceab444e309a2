use Rattle.tva_run.proofs.Joined.{one_join}
use Rattle.tva_run.proofs.joining.one_join.Goals as goal

pub returns : goal.returns
returns g c = λ time source gives xs ys a b. one_join time source gives xs ys a b
