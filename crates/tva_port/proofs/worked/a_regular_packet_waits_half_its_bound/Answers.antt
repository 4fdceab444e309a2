use Rattle.tva_port.proofs.Common.{refl, leb-true}
use Rattle.tva_port.proofs.Played.{three_valid, regulars_played}
use Rattle.tva_port.proofs.worked.a_regular_packet_waits_half_its_bound.Goals as goal

pub returns-clause-limits : goal.returns-clause-limits
returns-clause-limits c = three_valid

pub returns-clause-legal : goal.returns-clause-legal
returns-clause-legal c = regulars_played.legal

pub returns-clause-missed : goal.returns-clause-missed
returns-clause-missed c = regulars_played.missed

pub returns-clause-queues : goal.returns-clause-queues
returns-clause-queues c = refl

pub returns-clause-start : goal.returns-clause-start
returns-clause-start c = refl

pub returns-clause-bound : goal.returns-clause-bound
returns-clause-bound c = refl

pub returns-clause-half : goal.returns-clause-half
returns-clause-half c = leb-true 15972 16958 refl
