use Rattle.tva_port.proofs.Common.{Request, Regular}
use Rattle.tva_port.proofs.Evenly.{even}
use Rattle.tva_port.proofs.bounds.keys_are_served_alike.Goals as goal

pub returns-clause-requests : goal.returns-clause-requests
returns-clause-requests c l before between v g a b n w u = even l Request before between a b tt v g n w u

pub returns-clause-regulars : goal.returns-clause-regulars
returns-clause-regulars c l before between v g a b n w u = even l Regular before between a b tt v g n w u
