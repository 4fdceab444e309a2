use Rattle.tva_run.proofs.Names.{events_named}
use Rattle.tva_run.proofs.laws.events_have_names.Goals as goal

pub returns : goal.returns
returns c = λ config rows until told valid events. events_named config rows until told valid events
