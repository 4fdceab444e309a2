use Rattle.std.proofs.Common.{rules}
use Rattle.tva_drr.proofs.Common.{ap, ◌∙◌, added}
use Rattle.tva_drr.proofs.GroupTurns.{keys-groups, no_place}
use Rattle.tva_drr.proofs.Offering.{new_left}
use Rattle.tva_drr.proofs.hier_queues.HierQueues.offer_new.Goals as goal

pub put_new-answer-requires-clause-new : goal.put_new-answer-requires-clause-new
put_new-answer-requires-clause-new g c = search (rules, keys-groups, no_place, c.requires.group)

pub returns : goal.returns
returns g c =
    let p = c.put_new-answer.ensures in
    let k = new_left g.T.Measured.measure c.self.inside.limits c.self.inside.inner c.args.outer c.args.inner c.self.inside.bytes c.added.result c.self.inside.turns c.put_new-answer.new.self c.args.item c.put_new-answer.result c.args.self.now
    c.self.view_is c.self.invariant ((c.requires.length, c.requires.place, c.requires.bytes), c.requires.group) (c.added.ensures.value ∙ ap (added c.put_new-answer.result) c.length-length.ensures) p.answer p.queued p.refused p.same in
    record { answer = k.answer; left = k.left }

pub invariant_of-self : goal.invariant_of-self
invariant_of-self g c =
    let p = c.put_new-answer.ensures in
    (new_left g.T.Measured.measure c.self.inside.limits c.self.inside.inner c.args.outer c.args.inner c.self.inside.bytes c.added.result c.self.inside.turns c.put_new-answer.new.self c.args.item c.put_new-answer.result c.args.self.now
    c.self.view_is c.self.invariant ((c.requires.length, c.requires.place, c.requires.bytes), c.requires.group) (c.added.ensures.value ∙ ap (added c.put_new-answer.result) c.length-length.ensures) p.answer p.queued p.refused p.same).kept
