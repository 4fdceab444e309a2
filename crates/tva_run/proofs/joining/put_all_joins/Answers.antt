use Rattle.tva_run.proofs.Joined.{join-put_all}
use Rattle.tva_run.proofs.joining.put_all_joins.Goals as goal

pub returns : goal.returns
returns g c = λ time source gives xs ys j rises. join-put_all time source gives xs ys j rises
