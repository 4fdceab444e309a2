use Rattle.tva_port.proofs.Common.{[]}
use Rattle.tva_port.proofs.Logs.{legal-front, legal-here}
use Rattle.tva_port.proofs.laws.logs_have_places.Goals as goal

pub returns-clause-before : goal.returns-clause-before
returns-clause-before c l before rest g = legal-front l [] before rest g

pub returns-clause-next : goal.returns-clause-next
returns-clause-next c l before e rest g = legal-here l [] before e rest g
