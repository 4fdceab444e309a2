use Rattle.tva.proofs.Common.{◌∷◌, [], ◌∙◌, ℕ, List, IfSome, subst, sym, Option, Rose, HeldByName, file_at, AgreeSince, IsFound}
use Rattle.tva.proofs.Audits.{audit_found, audit_no_plan, audit_no_report, audit_no_rows}
use Rattle.tva.proofs.Given.{agree_first, agree_rest, asked_more, asked_one, held_both, told_both, told_found}
use Rattle.tva.proofs.commands.run_audit.Goals as goal

pub returns-in-Err-clause-answer : goal.returns-in-Err-clause-answer
returns-in-Err-clause-answer g c =
    audit_no_plan (g.S.Shelf.gave c.args.shelf.now) (g.S.Shelf.gave c.load_plan.new.shelf) c.args.config.now c.args.trace.now c.args.report.now
    (Rose (g.W.Sink.faults c.args.out.now) (g.W.Sink.faults c.args.out.now)) (g.W.Sink.took c.args.out.now) c.in-Err.status c.in-Err.ensures.err

pub returns-in-Err-load_rows-clause-in_order : goal.returns-in-Err-load_rows-clause-in_order
returns-in-Err-load_rows-clause-in_order g c =
    let later = asked_one _ _ _ (c.args.report.now ∷ []) c.in-Err-load_rows.ensures.asked in
    let rest = c.args.trace.now ∷ c.args.report.now ∷ [] in
    asked_more _ _ _ _ rest c.in-Ok.ensures.asked later

pub returns-in-Err-load_rows-clause-told : goal.returns-in-Err-load_rows-clause-told
returns-in-Err-load_rows-clause-told g c =
    let later = asked_one _ _ _ (c.args.report.now ∷ []) c.in-Err-load_rows.ensures.asked in
    let rest = c.args.trace.now ∷ c.args.report.now ∷ [] in
    told_both _ _ _ rest _ c.in-Ok.ensures.asked later (g.S.Shelf.held c.args.shelf.now) (g.S.Shelf.held c.load_plan.new.shelf)
    (Rose (g.S.Shelf.faults c.load_plan.new.shelf) (g.S.Shelf.faults c.load_rows.new.shelf)) (Rose (g.S.Shelf.faults c.args.shelf.now) (g.S.Shelf.faults c.load_rows.new.shelf))
    c.in-Err-load_rows.status c.in-Ok.ensures.held (λ up. rw c.in-Ok.ensures.unfailed at up) c.in-Ok.ensures.told c.in-Err-load_rows.ensures.told

pub returns-in-Err-load_rows-clause-answer : goal.returns-in-Err-load_rows-clause-answer
returns-in-Err-load_rows-clause-answer g c =
    let later = asked_one _ _ _ (c.args.report.now ∷ []) c.in-Err-load_rows.ensures.asked in
    let rest = c.args.trace.now ∷ c.args.report.now ∷ [] in
    audit_no_rows _ _ _ _ _ _ c.in-Ok.plan (agree_first _ _ _ rest _ c.in-Ok.ensures.asked later) c.in-Ok.ensures.ok
    (Rose (g.W.Sink.faults c.args.out.now) (g.W.Sink.faults c.args.out.now)) (g.W.Sink.took c.args.out.now) c.in-Err-load_rows.status
    (agree_rest _ _ _ rest _ c.in-Ok.ensures.asked later) c.in-Err-load_rows.ensures.err

pub returns-in-Err-load-clause-in_order : goal.returns-in-Err-load-clause-in_order
returns-in-Err-load-clause-in_order g c =
    let read = asked_one _ _ _ [] c.in-Err-load.ensures.asked in
    let later = asked_more _ _ _ _ (c.args.report.now ∷ []) c.in-Ok-load_rows.ensures.asked read in
    let rest = c.args.trace.now ∷ c.args.report.now ∷ [] in
    asked_more _ _ _ _ rest c.in-Ok.ensures.asked later

pub returns-in-Err-load-clause-told : goal.returns-in-Err-load-clause-told
returns-in-Err-load-clause-told g c =
    let read = asked_one _ _ _ [] c.in-Err-load.ensures.asked in
    let later = asked_more _ _ _ _ (c.args.report.now ∷ []) c.in-Ok-load_rows.ensures.asked read in
    let rest = c.args.trace.now ∷ c.args.report.now ∷ [] in
    told_both _ _ _ rest _ c.in-Ok.ensures.asked later (g.S.Shelf.held c.args.shelf.now) (g.S.Shelf.held c.load_plan.new.shelf)
    (Rose (g.S.Shelf.faults c.load_rows.new.shelf) (g.S.Shelf.faults c.load.new.shelf)) (Rose (g.S.Shelf.faults c.args.shelf.now) (g.S.Shelf.faults c.load.new.shelf))
    c.in-Err-load.status c.in-Ok.ensures.held (λ up. rw (c.in-Ok-load_rows.ensures.unfailed ∙ c.in-Ok.ensures.unfailed) at up) c.in-Ok.ensures.told
    (told_both _ _ _ (c.args.report.now ∷ []) _ c.in-Ok-load_rows.ensures.asked read (g.S.Shelf.held c.load_plan.new.shelf) (g.S.Shelf.held c.load_rows.new.shelf)
    (Rose (g.S.Shelf.faults c.load_rows.new.shelf) (g.S.Shelf.faults c.load.new.shelf)) (Rose (g.S.Shelf.faults c.load_rows.new.shelf) (g.S.Shelf.faults c.load.new.shelf))
    c.in-Err-load.status c.in-Ok-load_rows.ensures.held (λ up. up) c.in-Ok-load_rows.ensures.told c.in-Err-load.ensures.told)

pub returns-in-Err-load-clause-answer : goal.returns-in-Err-load-clause-answer
returns-in-Err-load-clause-answer g c =
    let read = asked_one _ _ _ [] c.in-Err-load.ensures.asked in
    let later = asked_more _ _ _ _ (c.args.report.now ∷ []) c.in-Ok-load_rows.ensures.asked read in
    let rest = c.args.trace.now ∷ c.args.report.now ∷ [] in
    let before = agree_first _ _ _ rest _ c.in-Ok.ensures.asked later in
    let behind = agree_rest _ _ _ rest _ c.in-Ok.ensures.asked later in
    let middle : (files : HeldByName) → AgreeSince _ _ files → AgreeSince _ _ files = λ files agree. agree_first _ _ _ (c.args.report.now ∷ []) _ c.in-Ok-load_rows.ensures.asked read files (behind files agree) in
    let end : (files : HeldByName) → AgreeSince _ _ files → AgreeSince _ _ files = λ files agree. agree_rest _ _ _ (c.args.report.now ∷ []) _ c.in-Ok-load_rows.ensures.asked read files (behind files agree) in
    audit_no_report _ _ _ _ _ _ c.in-Ok.plan before c.in-Ok.ensures.ok _ c.in-Ok-load_rows.ensures.ok.0 middle end c.in-Ok-load_rows.ensures.ok.1
    (Rose (g.W.Sink.faults c.args.out.now) (g.W.Sink.faults c.args.out.now)) (g.W.Sink.took c.args.out.now) c.in-Err-load.status c.in-Err-load.ensures.err

pub returns-clause-in_order : goal.returns-clause-in_order
returns-clause-in_order g c =
    let read = asked_one _ _ _ [] c.in-Ok-load.ensures.asked in
    let later = asked_more _ _ _ _ (c.args.report.now ∷ []) c.in-Ok-load_rows.ensures.asked read in
    let rest = c.args.trace.now ∷ c.args.report.now ∷ [] in
    asked_more _ _ _ _ rest c.in-Ok.ensures.asked later

pub returns-clause-told : goal.returns-clause-told
returns-clause-told g c =
    let S = g.S.Shelf in
    let first = S.gave c.args.shelf.now in
    let between = S.gave c.load_plan.new.shelf in
    let config = c.args.config.now in
    let trace = c.args.trace.now in
    let report = c.args.report.now in
    let asked = c.in-Ok.ensures.asked in
    let late = S.gave c.load_rows.new.shelf in
    let last = S.gave c.load.new.shelf in
    let read = asked_one late last report [] c.in-Ok-load.ensures.asked in
    let later = asked_more between late last trace (report ∷ []) c.in-Ok-load_rows.ensures.asked read in
    let rest = trace ∷ report ∷ [] in
    let held = S.held c.args.shelf.now in
    let rows_told = subst (λ (h : Option HeldByName). IfSome h (AgreeSince between late)) c.in-Ok.ensures.held c.in-Ok-load_rows.ensures.told in
    let read_told = subst (λ (h : Option HeldByName). IfSome h (AgreeSince late last)) (c.in-Ok-load_rows.ensures.held ∙ c.in-Ok.ensures.held) c.in-Ok-load.ensures.told in
    told_found held first last (Rose (S.faults c.args.shelf.now) (S.faults c.load.new.shelf)) c.audit_rows.result
    c.audit_rows.ensures.no_fault
    (held_both first between last rest config asked later held c.in-Ok.ensures.told
    (held_both between late last (report ∷ []) trace c.in-Ok-load_rows.ensures.asked read held rows_told read_told))

pub returns-clause-answer : goal.returns-clause-answer
returns-clause-answer g c =
    let S = g.S.Shelf in
    let W = g.W.Sink in
    let first = S.gave c.args.shelf.now in
    let between = S.gave c.load_plan.new.shelf in
    let config = c.args.config.now in
    let trace = c.args.trace.now in
    let report = c.args.report.now in
    let asked = c.in-Ok.ensures.asked in
    let late = S.gave c.load_rows.new.shelf in
    let last = S.gave c.load.new.shelf in
    let read = asked_one late last report [] c.in-Ok-load.ensures.asked in
    let later = asked_more between late last trace (report ∷ []) c.in-Ok-load_rows.ensures.asked read in
    let rest = trace ∷ report ∷ [] in
    let before = agree_first first between last rest config asked later in
    let behind = agree_rest first between last rest config asked later in
    let middle : (files : HeldByName) → AgreeSince first last files → AgreeSince between late files = λ files agree. agree_first between late last (report ∷ []) trace c.in-Ok-load_rows.ensures.asked read files (behind files agree) in
    let end : (files : HeldByName) → AgreeSince first last files → AgreeSince late last files = λ files agree. agree_rest between late last (report ∷ []) trace c.in-Ok-load_rows.ensures.asked read files (behind files agree) in
    let rows = c.in-Ok-load_rows.ensures.ok in
    let found = subst (λ (bytes : List ℕ). IsFound late last (file_at 1073741824 report) bytes) (sym c.as_slice.ensures.value) c.in-Ok-load.ensures.ok in
    audit_found first between last config trace report c.in-Ok.plan before c.in-Ok.ensures.ok late rows.0 middle end rows.1
    c.as_slice.result.now c.in-Ok-load_rows.rows (Rose (W.faults c.args.out.now) (W.faults c.audit_rows.new.out)) (W.took c.args.out.now) (W.took c.audit_rows.new.out)
    c.audit_rows.result rows.2 found c.audit_rows.ensures.answer
