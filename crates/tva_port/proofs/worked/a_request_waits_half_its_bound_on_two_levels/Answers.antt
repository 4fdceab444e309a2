use Rattle.tva_port.proofs.Common.{refl, leb-true, layout, two_bytes, eight_bytes}
use Rattle.tva_port.proofs.Played.{levels_valid, requests_played}
use Rattle.tva_port.proofs.worked.a_request_waits_half_its_bound_on_two_levels.Goals as goal

pub returns-clause-limits : goal.returns-clause-limits
returns-clause-limits c = levels_valid

pub returns-clause-legal : goal.returns-clause-legal
returns-clause-legal c = requests_played.legal

pub returns-clause-missed : goal.returns-clause-missed
returns-clause-missed c = requests_played.missed

pub returns-clause-queues : goal.returns-clause-queues
unfolding layout two_bytes eight_bytes
returns-clause-queues c = refl

pub returns-clause-start : goal.returns-clause-start
unfolding layout two_bytes eight_bytes
returns-clause-start c = refl

pub returns-clause-bound : goal.returns-clause-bound
unfolding layout two_bytes eight_bytes
returns-clause-bound c = refl

pub returns-clause-half : goal.returns-clause-half
returns-clause-half c = leb-true 25814000 25879998 refl
