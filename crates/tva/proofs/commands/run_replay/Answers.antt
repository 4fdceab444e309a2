use Rattle.tva.proofs.Common.{Rose, ◌∷◌, [], IfSome, subst, AgreeSince}
use Rattle.tva.proofs.Given.{agree_first, agree_rest, asked_more, asked_one, held_both, no_fault, told_both, told_found}
use Rattle.tva.proofs.Replays.{replay_found, replay_no_plan, replay_no_rows}
use Rattle.tva.proofs.commands.run_replay.Goals as goal

pub returns-in-Err-clause-answer : goal.returns-in-Err-clause-answer
returns-in-Err-clause-answer g c =
    replay_no_plan (g.S.Shelf.gave c.args.shelf.now) (g.S.Shelf.gave c.load_plan.new.shelf) c.args.config.now c.args.trace.now
    (Rose (g.W.Sink.faults c.args.out.now) (g.W.Sink.faults c.args.out.now)) (g.W.Sink.took c.args.out.now) c.in-Err.status c.in-Err.ensures.err

pub returns-in-Err-load_rows-clause-in_order : goal.returns-in-Err-load_rows-clause-in_order
returns-in-Err-load_rows-clause-in_order g c =
    let later = asked_one _ _ _ [] c.in-Err-load_rows.ensures.asked in
    asked_more _ _ _ _ (c.args.trace.now ∷ []) c.in-Ok.ensures.asked later

pub returns-in-Err-load_rows-clause-told : goal.returns-in-Err-load_rows-clause-told
returns-in-Err-load_rows-clause-told g c =
    let later = asked_one _ _ _ [] c.in-Err-load_rows.ensures.asked in
    told_both _ _ _ (c.args.trace.now ∷ []) _ c.in-Ok.ensures.asked later (g.S.Shelf.held c.args.shelf.now) (g.S.Shelf.held c.load_plan.new.shelf)
    (Rose (g.S.Shelf.faults c.load_plan.new.shelf) (g.S.Shelf.faults c.load_rows.new.shelf)) (Rose (g.S.Shelf.faults c.args.shelf.now) (g.S.Shelf.faults c.load_rows.new.shelf))
    c.in-Err-load_rows.status c.in-Ok.ensures.held (λ up. rw c.in-Ok.ensures.unfailed at up) c.in-Ok.ensures.told c.in-Err-load_rows.ensures.told

pub returns-in-Err-load_rows-clause-answer : goal.returns-in-Err-load_rows-clause-answer
returns-in-Err-load_rows-clause-answer g c =
    let later = asked_one _ _ _ [] c.in-Err-load_rows.ensures.asked in
    replay_no_rows _ _ _ _ _ c.in-Ok.plan
    (agree_first _ _ _ (c.args.trace.now ∷ []) _ c.in-Ok.ensures.asked later) (agree_rest _ _ _ (c.args.trace.now ∷ []) _ c.in-Ok.ensures.asked later) c.in-Ok.ensures.ok
    (Rose (g.W.Sink.faults c.args.out.now) (g.W.Sink.faults c.args.out.now)) (g.W.Sink.took c.args.out.now) c.in-Err-load_rows.status c.in-Err-load_rows.ensures.err

pub returns-clause-in_order : goal.returns-clause-in_order
returns-clause-in_order g c =
    let later = asked_one _ _ _ [] c.in-Ok-load_rows.ensures.asked in
    asked_more _ _ _ _ (c.args.trace.now ∷ []) c.in-Ok.ensures.asked later

pub returns-clause-told : goal.returns-clause-told
returns-clause-told g c =
    let S = g.S.Shelf in
    let first = S.gave c.args.shelf.now in
    let between = S.gave c.load_plan.new.shelf in
    let last = S.gave c.load_rows.new.shelf in
    let config = c.args.config.now in
    let trace = c.args.trace.now in
    let asked = c.in-Ok.ensures.asked in
    let later = asked_one between last trace [] c.in-Ok-load_rows.ensures.asked in
    let still = subst (λ h. IfSome h (AgreeSince between last)) c.in-Ok.ensures.held c.in-Ok-load_rows.ensures.told in
    told_found (S.held c.args.shelf.now) first last (Rose (S.faults c.args.shelf.now) (S.faults c.load_rows.new.shelf)) c.replay_rows.result
    (no_fault c.replay_rows.result c.replay_rows.ensures.no_refusal)
    (held_both first between last (trace ∷ []) config asked later (S.held c.args.shelf.now) c.in-Ok.ensures.told still)

pub returns-clause-answer : goal.returns-clause-answer
returns-clause-answer g c =
    let later = asked_one _ _ _ [] c.in-Ok-load_rows.ensures.asked in
    replay_found _ _ _ _ _ c.in-Ok.plan
    (agree_first _ _ _ (c.args.trace.now ∷ []) _ c.in-Ok.ensures.asked later) (agree_rest _ _ _ (c.args.trace.now ∷ []) _ c.in-Ok.ensures.asked later) c.in-Ok.ensures.ok
    c.in-Ok-load_rows.ensures.ok.0 c.in-Ok-load_rows.rows (Rose (g.W.Sink.faults c.args.out.now) (g.W.Sink.faults c.replay_rows.new.out)) (g.W.Sink.took c.args.out.now) (g.W.Sink.took c.replay_rows.new.out) c.replay_rows.result
    c.in-Ok.ensures.valid c.in-Ok-load_rows.ensures.ok.2 c.in-Ok-load_rows.ensures.ok.1 c.replay_rows.ensures.answer
