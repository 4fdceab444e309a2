use Rattle.tva_net.proofs.Common.{subst, IsFirstDue}
use Rattle.tva_net.proofs.Noted.{none_at_all, none_sooner, work_before}
use Rattle.tva_net.proofs.times.due_before.Goals as goal

pub returns-in-Some-clause-some : goal.returns-in-Some-clause-some
returns-in-Some-clause-some c = work_before c.args.until.0 c.args.nodes.now (c.in-Some.place, c.in-Some.time) c.in-Some.ensures c.if-time-until.true

pub returns-in_default-clause-none : goal.returns-in_default-clause-none
returns-in_default-clause-none c = λ e. none_sooner c.args.until.0 c.in-Some.time.0 c.args.nodes.now c.if-time-until.false c.in-Some.ensures.2

pub returns-in_default-2-clause-none : goal.returns-in_default-2-clause-none
returns-in_default-2-clause-none c = λ e. none_at_all c.args.until.0 c.args.nodes.now (subst (IsFirstDue c.args.nodes.now) c.in_default.is c.first_due.ensures)
