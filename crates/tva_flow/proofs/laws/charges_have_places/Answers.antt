use Rattle.tva_flow.proofs.Places.{legal_front, legal_here}
use Rattle.tva_flow.proofs.laws.charges_have_places.Goals as goal

pub returns-clause-before : goal.returns-clause-before
returns-clause-before c slots offset before rest a = legal_front slots offset before rest a

pub returns-clause-next : goal.returns-clause-next
returns-clause-next c slots offset before x rest a = legal_here slots offset before x rest a
