use Rattle.tva_router.proofs.Fates.{charges_told, queued_told}
use Rattle.tva_router.proofs.laws.fates_tell_entries.Goals as goal

pub returns : goal.returns
returns c = record { charges = charges_told; queued = queued_told }
