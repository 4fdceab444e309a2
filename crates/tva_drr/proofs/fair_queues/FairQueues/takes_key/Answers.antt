use Rattle.tva_drr.proofs.Common.{◌≡◌, not, ap, sym, subst, Fair, lacks_queue}
use Rattle.tva_drr.proofs.Rows.{queue_lacked}
use Rattle.tva_drr.proofs.fair_queues.FairQueues.takes_key.Goals as goal

pub returns : goal.returns
returns g c =
    let p = c.find_slot-place in
    let lacks = queue_lacked c.self.inside.turns.limits c.args.key c.self.inside.turns.turns p.result.at c.lacks_slot.result p.ensures.at c.lacks_slot.ensures in
    subst (λ (v : Fair g.row.T.Denot). not c.lacks_slot.result ≡ not (lacks_queue v c.args.key)) c.self.view_is (ap not (sym lacks))
