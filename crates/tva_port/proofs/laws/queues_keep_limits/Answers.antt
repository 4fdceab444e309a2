use Rattle.tva_port.proofs.Common.{◌++◌, refl}
use Rattle.tva_port.proofs.Limits.{stays_within}
use Rattle.tva_port.proofs.laws.queues_keep_limits.Goals as goal

pub returns : goal.returns
returns c = record { room = λ l before rest a g. stays_within l (before ++ rest) a g before rest refl }
