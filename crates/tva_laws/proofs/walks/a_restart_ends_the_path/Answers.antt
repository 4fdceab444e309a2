use Rattle.tva_laws.proofs.Common.{refl}
use Rattle.tva_laws.proofs.Ended.{no_path}
use Rattle.tva_laws.proofs.walks.a_restart_ends_the_path.Goals as goal

pub returns : goal.returns
returns c = record { comes = refl; ends = no_path }
