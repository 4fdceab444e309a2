use Rattle.tva_drr.proofs.Common.{ap, ◌∙◌, added}
use Rattle.tva_drr.proofs.Offering.{at_left}
use Rattle.tva_drr.proofs.hier_queues.HierQueues.offer_at.Goals as goal

pub returns : goal.returns
returns g c =
    let k = at_left g.T.Measured.measure c.self.inside.limits c.self.inside.inner c.args.outer c.args.inner c.args.at c.self.inside.bytes c.added.result c.self.inside.turns c.put_at-answer.new.self c.args.item c.put_at-answer.result c.args.self.now
    c.self.view_is c.self.invariant ((c.requires.length, c.requires.place, c.requires.bytes), c.requires.group) (c.added.ensures.value ∙ ap (added c.put_at-answer.result) c.length-length.ensures) c.put_at-answer.ensures in
    record { answer = k.answer; left = k.left }

pub invariant_of-self : goal.invariant_of-self
invariant_of-self g c =
    (at_left g.T.Measured.measure c.self.inside.limits c.self.inside.inner c.args.outer c.args.inner c.args.at c.self.inside.bytes c.added.result c.self.inside.turns c.put_at-answer.new.self c.args.item c.put_at-answer.result c.args.self.now
    c.self.view_is c.self.invariant ((c.requires.length, c.requires.place, c.requires.bytes), c.requires.group) (c.added.ensures.value ∙ ap (added c.put_at-answer.result) c.length-length.ensures) c.put_at-answer.ensures).kept
