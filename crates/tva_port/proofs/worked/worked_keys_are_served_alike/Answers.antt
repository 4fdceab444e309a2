use Rattle.tva_port.proofs.Common.{refl}
use Rattle.tva_port.proofs.Played.{three_valid, regulars_played}
use Rattle.tva_port.proofs.worked.worked_keys_are_served_alike.Goals as goal

pub returns-clause-limits : goal.returns-clause-limits
returns-clause-limits c = three_valid

pub returns-clause-legal : goal.returns-clause-legal
returns-clause-legal c = regulars_played.legal

pub returns-clause-first : goal.returns-clause-first
returns-clause-first c = (refl, (refl, (refl, (refl, refl))))

pub returns-clause-second : goal.returns-clause-second
returns-clause-second c = (refl, (refl, (refl, (refl, refl))))

pub returns-clause-bytes : goal.returns-clause-bytes
returns-clause-bytes c = refl

pub returns-clause-more : goal.returns-clause-more
returns-clause-more c = refl
