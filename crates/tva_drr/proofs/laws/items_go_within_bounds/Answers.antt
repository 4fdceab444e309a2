use Rattle.tva_drr.proofs.Until.{until_most}
use Rattle.tva_drr.proofs.laws.items_go_within_bounds.Goals as goal

pub returns : goal.returns
returns g c = record { until = λ f key n steps h o k. until_most g.T.Measured.measure f.limits key n f.queues steps h o k }
