use Rattle.tva_flow.proofs.Places.{legal_front}
use Rattle.tva_flow.proofs.Budget.{budget}
use Rattle.tva_flow.proofs.laws.charges_keep_budgets.Goals as goal

pub returns : goal.returns
returns c = record { budget = λ slots offset before rest a t. budget slots offset before (legal_front slots offset before rest a) t }
