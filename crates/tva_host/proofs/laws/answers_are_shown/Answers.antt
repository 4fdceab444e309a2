use Rattle.tva_host.proofs.Shown.{answer_is_shown, nothing_is_shown, reply_is_shown}
use Rattle.tva_host.proofs.laws.answers_are_shown.Goals as goal

pub returns : goal.returns
returns c = record { here = answer_is_shown; nothing = nothing_is_shown; reply = reply_is_shown }
