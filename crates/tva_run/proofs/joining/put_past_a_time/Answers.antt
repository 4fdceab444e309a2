use Rattle.tva_run.proofs.Putting.{cut-put_all}
use Rattle.tva_run.proofs.joining.put_past_a_time.Goals as goal

pub returns : goal.returns
returns g c = λ time source until xs ys late. cut-put_all time source until xs ys late
