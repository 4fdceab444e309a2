use Rattle.tva_router.proofs.Ways.{way_leads, way_nowhere}
use Rattle.tva_router.proofs.laws.ways_lead.Goals as goal

pub returns : goal.returns
returns c = record { leads = way_leads; nowhere = way_nowhere }
