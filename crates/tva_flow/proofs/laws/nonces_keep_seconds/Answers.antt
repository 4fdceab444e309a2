use Rattle.tva_flow.proofs.Places.{timely_here, timely_front}
use Rattle.tva_flow.proofs.laws.nonces_keep_seconds.Goals as goal

pub returns-clause-nonce : goal.returns-clause-nonce
returns-clause-nonce c slots offset before x rest a t v = timely_here slots offset before x rest a t v

pub returns-clause-before : goal.returns-clause-before
returns-clause-before c offset before rest t = timely_front offset before rest t
