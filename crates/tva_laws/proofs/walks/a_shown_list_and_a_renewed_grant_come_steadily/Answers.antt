use Rattle.tva_laws.proofs.SamePaths.{steady_again, steady_nonce, steady_renewed}
use Rattle.tva_laws.proofs.walks.a_shown_list_and_a_renewed_grant_come_steadily.Goals as goal

pub returns : goal.returns
returns c = record { list = steady_again; nonce = steady_nonce; renewed = steady_renewed }
