use Rattle.tva_audit.proofs.Told.{charges_told}
use Rattle.tva_audit.proofs.laws.events_tell_charges.Goals as goal

pub returns : goal.returns
returns c = charges_told
