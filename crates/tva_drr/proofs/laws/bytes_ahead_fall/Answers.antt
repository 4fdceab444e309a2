use Rattle.tva_drr.proofs.Falling.{ahead-offer, taken_falls, ahead_most}
use Rattle.tva_drr.proofs.Until.{ahead_enough}
use Rattle.tva_drr.proofs.laws.bytes_ahead_fall.Goals as goal

pub returns-clause-offer : goal.returns-clause-offer
returns-clause-offer g c f key bytes k item h = ahead-offer g.T.Measured.measure f.limits key bytes k item f.queues h

pub returns-clause-taken : goal.returns-clause-taken
returns-clause-taken g c f key bytes left h w k m = taken_falls g.T.Measured.measure f.limits key bytes left f.queues h.limits h.queues w k m

pub returns-clause-enough : goal.returns-clause-enough
returns-clause-enough g c f key bytes = ahead_enough g.T.Measured.measure f.limits key bytes f.queues

pub returns-clause-bound : goal.returns-clause-bound
returns-clause-bound g c f key bytes h w s = ahead_most g.T.Measured.measure f.limits key bytes f.queues h.limits h.queues w s
