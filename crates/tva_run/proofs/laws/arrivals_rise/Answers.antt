use Rattle.tva_run.proofs.Rising.{arrivals_of_run}
use Rattle.tva_run.proofs.laws.arrivals_rise.Goals as goal

pub returns : goal.returns
returns c = λ config rows until number logs link valid run here. arrivals_of_run config rows until number logs link valid run here
