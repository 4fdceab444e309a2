use Rattle.tva_run.proofs.Holding.{windows_hold}
use Rattle.tva_run.proofs.laws.windows_hold_all.Goals as goal

pub returns : goal.returns
returns c = λ config rows logs windows told run events are. windows_hold config rows logs windows told run events are
