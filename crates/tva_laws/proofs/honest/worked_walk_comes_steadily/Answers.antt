use Rattle.tva_laws.proofs.Walked.{steady_list, steady_nonce, steady_renewal, whole_list}
use Rattle.tva_laws.proofs.honest.worked_walk_comes_steadily.Goals as goal

pub returns : goal.returns
returns c = record { list = steady_list; nonce = steady_nonce; renewal = steady_renewal; whole = whole_list }
