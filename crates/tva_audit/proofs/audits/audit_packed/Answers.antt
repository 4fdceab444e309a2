use Rattle.tva_audit.proofs.Common.{Ok, Err, sym, subst, ap, ◌∙◌, arith, bad_ahead, AuditError, OutOfMemory, IsAudit}
use Rattle.tva_audit.proofs.Worked.{IsNext, begun, goes_on, on}
use Rattle.tva_audit.proofs.Windowed.{Came, FollowedBy, bad_first, ends, few_events, kept, ready, refused}
use Rattle.tva_audit.proofs.audits.audit_packed.Given as given
use Rattle.tva_audit.proofs.audits.audit_packed.Goals as goal
use Rattle.tva_audit.proofs.audits.audit_packed.Goals.{After-follow}

pub loop-alloc-init : goal.loop-alloc-init
loop-alloc-init g c =
    begun c.args.config.now c.args.rows (FollowedBy c.args.config.now c.args.rows c.args.report.now c.in-Ok-new.followed) c.new-events.result.items c.in-Ok.net c.new-events.ensures.items
    c.in-Ok.ensures.stands c.in-Ok-new.ensures

pub follow-requires-clause-ready : goal.follow-requires-clause-ready
follow-requires-clause-ready g c =
    ready c.args.config.now c.args.rows c.args.report.now c.loop-alloc.followed c.loop-alloc.events.items c.as_slice-list.result.now c.loop-alloc.net c.loop-alloc.invariant
    c.as_slice-list.ensures.value

next : (g : given.Over) (c : After-follow g)
    → IsNext c.args.config.now c.args.rows (Came c.args.config.now c.args.rows c.args.report.now c.follow.result c.follow.new.self) c.step_and_put-step.result.0 c.loop-alloc.net c.step_and_put-step.new.net
next g c =
    goes_on c.args.config.now c.args.rows (FollowedBy c.args.config.now c.args.rows c.args.report.now c.loop-alloc.followed)
    (Came c.args.config.now c.args.rows c.args.report.now c.follow.result c.follow.new.self) c.loop-alloc.events.items c.as_slice-list.result.now
    c.loop-alloc.net c.step_and_put-step.new.net c.step_and_put-step.result.0 c.loop-alloc.invariant c.as_slice-list.ensures.value c.step_and_put-step.ensures.comes (c.follow.ensures c.args.report.now)

pub returns-then-is_err-clause-answer : goal.returns-then-is_err-clause-answer
returns-then-is_err-clause-answer g c =
    let n = next g (goal.at.returns-then-is_err-clause-answer g c).After-follow in
    subst (λ (e : AuditError). IsAudit c.args.config.now c.args.rows c.args.report.now (Err e)) (sym c.refusal.ensures)
    (bad_first c.args.config.now c.args.rows c.args.report.now (bad_ahead c.follow.new.self.comparison.ahead) OutOfMemory n.holds.bad (λ good. good))

pub loop-alloc-smaller : goal.loop-alloc-smaller
loop-alloc-smaller g c =
    (on c.args.config.now c.args.rows _ c.step_and_put-step.result.0 c.loop-alloc.net c.step_and_put-step.new.net c.in-Ok-Events.next (c.in-Ok-Events.is ∙ ap (λ w. Ok w) c.in-Ok-Events.field-0-is)
    (next g (goal.at.loop-alloc-smaller g c).After-follow)).1

pub loop-alloc-preserved : goal.loop-alloc-preserved
loop-alloc-preserved g c =
    let n = kept c.args.config.now c.args.rows c.args.report.now c.follow.result c.follow.new.self c.step_and_put-step.result.0 c.loop-alloc.net c.step_and_put-step.new.net
    (sym c.is_err.ensures.value ∙ c.if-is_err.false) (next g (goal.at.loop-alloc-preserved g c).After-follow) in
    (on c.args.config.now c.args.rows _ c.step_and_put-step.result.0 c.loop-alloc.net c.step_and_put-step.new.net c.in-Ok-Events.next (c.in-Ok-Events.is ∙ ap (λ w. Ok w) c.in-Ok-Events.field-0-is) n).0

pub overflow_add-lines : goal.overflow_add-lines
overflow_add-lines g c =
    let few = few_events c.args.config.now c.args.rows c.args.report.now _ c.step_and_put-step.result.0 c.loop-alloc.net c.step_and_put-step.new.net c.totals-totals.result
    (c.in-Ok-Ended.is ∙ ap (λ w. Ok w) c.in-Ok-Ended.field-0-is) c.totals-totals.ensures c.requires.config (next g (goal.at.overflow_add-lines g c).After-follow) in
    omega (arith, few)

pub answered-requires-clause-count : goal.answered-requires-clause-count
answered-requires-clause-count g c =
    let n = kept c.args.config.now c.args.rows c.args.report.now c.follow.result c.follow.new.self c.step_and_put-step.result.0 c.loop-alloc.net c.step_and_put-step.new.net
    (sym c.is_err.ensures.value ∙ c.if-is_err.false) (next g (goal.at.answered-requires-clause-count g c).After-follow) in
    n.holds.tallied.count

pub returns-in-Ok-Ended : goal.returns-in-Ok-Ended
returns-in-Ok-Ended g c =
    let n = kept c.args.config.now c.args.rows c.args.report.now c.follow.result c.follow.new.self c.step_and_put-step.result.0 c.loop-alloc.net c.step_and_put-step.new.net
    (sym c.is_err.ensures.value ∙ c.if-is_err.false) (next g (goal.at.returns-in-Ok-Ended g c).After-follow) in
    let e = ends c.args.config.now c.args.rows c.args.report.now c.follow.new.self c.step_and_put-step.result.0 c.loop-alloc.net c.step_and_put-step.new.net c.totals-totals.result c.answered.result
    (c.in-Ok-Ended.is ∙ ap (λ w. Ok w) c.in-Ok-Ended.field-0-is) c.totals-totals.ensures c.requires.config c.answered.ensures.last c.answered.ensures.decided n in
    record { answer = e.0; counted = e.1 }

pub returns-in-Err-step-clause-answer : goal.returns-in-Err-step-clause-answer
returns-in-Err-step-clause-answer g c =
    let n = kept c.args.config.now c.args.rows c.args.report.now c.follow.result c.follow.new.self c.step_and_put-step.result.0 c.loop-alloc.net c.step_and_put-step.new.net
    (sym c.is_err.ensures.value ∙ c.if-is_err.false) (next g (goal.at.returns-in-Err-step-clause-answer g c).After-follow) in
    refused c.args.config.now c.args.rows c.args.report.now c.follow.new.self c.step_and_put-step.result.0 c.loop-alloc.net c.step_and_put-step.new.net c.in-Err-step.error c.error_of.result
    c.refusal-in-Err-step.result c.in-Err-step.is c.error_of.ensures c.refusal-in-Err-step.ensures n
