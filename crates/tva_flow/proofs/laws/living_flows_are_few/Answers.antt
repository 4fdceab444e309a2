use Rattle.tva_flow.proofs.Places.{legal_front}
use Rattle.tva_flow.proofs.Few.{few}
use Rattle.tva_flow.proofs.laws.living_flows_are_few.Goals as goal

pub returns : goal.returns
returns c = record { living = λ slots offset before rest now a p. few slots offset before now (legal_front slots offset before rest a) p }
