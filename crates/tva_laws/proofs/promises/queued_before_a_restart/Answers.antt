use Rattle.tva_laws.proofs.Common.{refl}
use Rattle.tva_laws.proofs.promises.queued_before_a_restart.Goals as goal

pub returns : goal.returns
returns c = λ number plan links restarts reroutes log link now. refl
