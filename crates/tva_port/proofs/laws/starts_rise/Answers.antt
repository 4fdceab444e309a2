use Rattle.tva_port.proofs.Common.{[]}
use Rattle.tva_port.proofs.Logs.{legal-front}
use Rattle.tva_port.proofs.Legality.{starts_apart}
use Rattle.tva_port.proofs.laws.starts_rise.Goals as goal

pub returns : goal.returns
returns c = record { rising = λ l before rest a g. starts_apart l before a (legal-front l [] before rest g) }
