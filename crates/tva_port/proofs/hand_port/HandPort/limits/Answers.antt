use Rattle.tva_port.proofs.Common.{subst, AreLinkLimits, PortData}
use Rattle.tva_port.proofs.Legality.{rate_kept, starts_apart}
use Rattle.tva_port.proofs.Limits.{stays_within}
use Rattle.tva_port.proofs.hand_port.HandPort.limits.Goals as goal

pub returns-clause-rate : goal.returns-clause-rate
returns-clause-rate c log s = rate_kept c.args.self.now.limits log s.legal

pub returns-clause-apart : goal.returns-clause-apart
returns-clause-apart c log s = starts_apart c.args.self.now.limits log (subst (λ (z : PortData). AreLinkLimits z.limits) c.self.view_is c.self.invariant.limits) s.legal

pub returns-clause-room : goal.returns-clause-room
returns-clause-room c log s = stays_within c.args.self.now.limits log (subst (λ (z : PortData). AreLinkLimits z.limits) c.self.view_is c.self.invariant.limits) s.legal
