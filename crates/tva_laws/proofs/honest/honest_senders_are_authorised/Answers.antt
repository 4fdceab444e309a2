use Rattle.tva_laws.proofs.Authorised.{honest, narrow-honest}
use Rattle.tva_laws.proofs.honest.honest_senders_are_authorised.Goals as goal

pub returns : goal.returns
returns c = record { steady = honest; narrow = narrow-honest }
