use Rattle.tva_host.proofs.Played.{played}
use Rattle.tva_host.proofs.laws.peers_are_played.Goals as goal

pub returns : goal.returns
returns c = record { played = λ plan calls a order. (played plan calls order).played a; times = λ plan calls a order. (played plan calls order).times a }
