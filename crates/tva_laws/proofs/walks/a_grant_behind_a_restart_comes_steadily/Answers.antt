use Rattle.tva_laws.proofs.NewPath.{steady}
use Rattle.tva_laws.proofs.walks.a_grant_behind_a_restart_comes_steadily.Goals as goal

pub returns : goal.returns
returns c = steady
