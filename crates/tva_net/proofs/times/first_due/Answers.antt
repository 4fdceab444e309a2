use Rattle.tva_net.proofs.Common.{sym, subst, IsFirstDue}
use Rattle.tva_net.proofs.Noted.{due_first, due_never}
use Rattle.tva_net.proofs.times.first_due.Goals as goal

pub returns-in_err-time : goal.returns-in_err-time
returns-in_err-time c =
    subst (IsFirstDue c.args.nodes.now) (sym c.from_residual-in_err-time.ensures)
    (due_never c.args.times.now c.args.nodes.now c.requires.noted c.requires.stand c.in_ok-place.field-0 c.index-nodes-place.result c.in_ok-place.ensures c.index-nodes-place.is c.in_err-time.ensures)

pub returns : goal.returns
returns c = due_first c.args.times.now c.args.nodes.now c.requires.noted c.requires.stand c.in_ok-place.field-0 c.index-nodes-place.result c.in_ok-place.ensures c.index-nodes-place.is c.in_ok-time.time c.in_ok-time.ensures
