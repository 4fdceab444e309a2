use Rattle.tva.proofs.Common.{◌≡◌, ℕ, List, Ok, length, ap, ap₂, subst, ◌∙◌, Rose, report_lines, RouterSum, IsAudit, audit_text}
use Rattle.tva_audit.specs.declared.audits.Audited.{Audited}
use Rattle.tva_audit.specs.declared.audits.Audited.TheVariants.{Same}
use Rattle.tva.proofs.Audits.{audited_of_written}
use Rattle.tva.proofs.audited.audit_rows.Goals as goal

pub returns-in-Ok-clause-answer : goal.returns-in-Ok-clause-answer
returns-in-Ok-clause-answer g c =
    let W = g.W.Sink in
    let plan = c.args.plan.now in
    let found : IsAudit plan c.args.rows c.args.report.now (Ok (Same c.in-Ok-Same.sums)) =
    subst (λ (a : Audited). IsAudit plan c.args.rows c.args.report.now (Ok a)) c.in-Ok-Same.field-0-is c.in-Ok-Same.ensures.answer in
    let counted = c.in-Ok-Same.ensures.counted c.in-Ok-Same.sums (ap (λ (a : Audited). Ok a) c.in-Ok-Same.field-0-is) in
    let text = c.as_slice-in-Ok.result.now in
    let same : text ≡ audit_text plan c.in-Ok-Same.sums.items (length (report_lines c.args.report.now)) =
    c.as_slice-in-Ok.ensures.value ∙ c.in-Ok.ensures ∙ ap₂ (λ (s : List RouterSum) (n : ℕ). audit_text plan s n) c.as_slice.ensures.value counted in
    audited_of_written plan c.args.rows c.args.report.now (W.took c.args.out.now) (W.took c.send.new.out)
    (Rose (W.faults c.args.out.now) (W.faults c.send.new.out)) text c.send.result found.0
    (found.1, c.in-Ok-Same.sums.items, found.2, same) c.send.ensures.answer
