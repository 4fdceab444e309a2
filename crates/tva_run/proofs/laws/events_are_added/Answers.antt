use Rattle.tva_run.proofs.Going.{events_added}
use Rattle.tva_run.proofs.laws.events_are_added.Goals as goal

pub returns : goal.returns
returns c = λ config from logs told news new old more join. events_added config from logs told news new old more join
