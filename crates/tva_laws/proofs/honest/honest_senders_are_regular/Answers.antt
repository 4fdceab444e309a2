use Rattle.tva_laws.proofs.Given.{given}
use Rattle.tva_laws.proofs.Steady.{honest_regular}
use Rattle.tva_laws.proofs.honest.honest_senders_are_regular.Goals as goal

pub returns : goal.returns
returns c = λ config rows until logs valid trace run. honest_regular config rows until logs valid (given config rows until logs valid trace run) run
