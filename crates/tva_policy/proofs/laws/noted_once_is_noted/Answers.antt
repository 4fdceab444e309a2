use Rattle.tva_policy.proofs.Noted.{noted_again}
use Rattle.tva_policy.proofs.laws.noted_once_is_noted.Goals as goal

pub returns : goal.returns
returns c = record { decision = noted_again }
