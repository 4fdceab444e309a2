use Rattle.tva_drr.proofs.Common.{subst, IsHier}
use Rattle.tva_drr.proofs.Offering.{by_left}
use Rattle.tva_drr.proofs.hier_queues.HierQueues.offer.Goals as goal

pub returns-in-Some : goal.returns-in-Some
returns-in-Some g c =
    let k = by_left g.T.Measured.measure c.args.self.now c.offer_at.new.self c.offer_at.result c.args.outer c.args.inner c.args.item (subst (λ v. IsHier g.T.Measured.measure v) c.self.view_is c.self.invariant.0) c.requires.length c.offer_at.ensures.answer c.offer_at.ensures.left in
    record { answer = c.offer_at.ensures.answer; left = c.offer_at.ensures.left; last = k.0; hier = k.1 }

pub returns-in-None : goal.returns-in-None
returns-in-None g c =
    let k = by_left g.T.Measured.measure c.args.self.now c.offer_new.new.self c.offer_new.result c.args.outer c.args.inner c.args.item (subst (λ v. IsHier g.T.Measured.measure v) c.self.view_is c.self.invariant.0) c.requires.length c.offer_new.ensures.answer c.offer_new.ensures.left in
    record { answer = c.offer_new.ensures.answer; left = c.offer_new.ensures.left; last = k.0; hier = k.1 }
