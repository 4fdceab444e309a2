use Rattle.tva_port.proofs.Common.{[]}
use Rattle.tva_port.proofs.Logs.{legal-front}
use Rattle.tva_port.proofs.Legality.{rate_kept}
use Rattle.tva_port.proofs.laws.requests_keep_their_rate.Goals as goal

pub returns : goal.returns
returns c = record { rate = λ l before rest g. rate_kept l before (legal-front l [] before rest g) }
