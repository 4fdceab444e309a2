use Rattle.tva_host.proofs.Standing.{has-packet}
use Rattle.tva_host.proofs.host.Host.number.Goals as goal

pub invariant_of-self : goal.invariant_of-self
invariant_of-self c = rw c.saturating_add-self-inside.ensures (has-packet _ c.self.invariant)
