use Rattle.tva_drr.proofs.Fairness.{fairly}
use Rattle.tva_drr.proofs.laws.queues_are_served_alike.Goals as goal

pub returns : goal.returns
returns g c = record { alike = λ f a b steps n h o i j. fairly a b n g.T.Measured.measure f.limits f.queues steps h o i j }
