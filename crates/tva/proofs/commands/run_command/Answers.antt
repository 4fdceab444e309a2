use Rattle.tva.proofs.Common.{ℕ, List, subst, sym, Rose, Answers, OfCommand, asked, shim}
use Rattle.tva.specs.declared.command.Command as parsed
use Rattle.tva.proofs.Texts.{shim_answers}
use Rattle.tva.proofs.Given.{no_fault, told_none}
use Rattle.tva.proofs.commands.run_command.Goals as goal

pub returns-in-Replay-clause-answer : goal.returns-in-Replay-clause-answer
returns-in-Replay-clause-answer g c =
    subst (λ (p : parsed.Command). Answers (OfCommand (g.S.Shelf.gave c.args.shelf.now) (g.S.Shelf.gave c.run_replay.new.shelf) (asked p))
    (Rose (g.W.Sink.faults c.args.out.now) (g.W.Sink.faults c.run_replay.new.out)) (g.W.Sink.took c.args.out.now) (g.W.Sink.took c.run_replay.new.out) c.run_replay.result)
    (sym c.in-Replay.is) c.run_replay.ensures.answer

pub returns-in-Check-clause-answer : goal.returns-in-Check-clause-answer
returns-in-Check-clause-answer g c =
    subst (λ (p : parsed.Command). Answers (OfCommand (g.S.Shelf.gave c.args.shelf.now) (g.S.Shelf.gave c.run_check.new.shelf) (asked p))
    (Rose (g.W.Sink.faults c.args.out.now) (g.W.Sink.faults c.run_check.new.out)) (g.W.Sink.took c.args.out.now) (g.W.Sink.took c.run_check.new.out) c.run_check.result)
    (sym c.in-Check.is) c.run_check.ensures.answer

pub returns-in-Gen-clause-answer : goal.returns-in-Gen-clause-answer
returns-in-Gen-clause-answer g c =
    subst (λ (p : parsed.Command). Answers (OfCommand (g.S.Shelf.gave c.args.shelf.now) (g.S.Shelf.gave c.run_gen.new.shelf) (asked p))
    (Rose (g.W.Sink.faults c.args.out.now) (g.W.Sink.faults c.run_gen.new.out)) (g.W.Sink.took c.args.out.now) (g.W.Sink.took c.run_gen.new.out) c.run_gen.result)
    (sym c.in-Gen.is) c.run_gen.ensures.answer

pub returns-in-Audit-clause-answer : goal.returns-in-Audit-clause-answer
returns-in-Audit-clause-answer g c =
    subst (λ (p : parsed.Command). Answers (OfCommand (g.S.Shelf.gave c.args.shelf.now) (g.S.Shelf.gave c.run_audit.new.shelf) (asked p))
    (Rose (g.W.Sink.faults c.args.out.now) (g.W.Sink.faults c.run_audit.new.out)) (g.W.Sink.took c.args.out.now) (g.W.Sink.took c.run_audit.new.out) c.run_audit.result)
    (sym c.in-Audit.is) c.run_audit.ensures.answer

pub returns-in-Shim-clause-told : goal.returns-in-Shim-clause-told
returns-in-Shim-clause-told g c =
    told_none (g.S.Shelf.held c.args.shelf.now) (g.S.Shelf.gave c.args.shelf.now) (Rose (g.S.Shelf.faults c.args.shelf.now) (g.S.Shelf.faults c.args.shelf.now)) c.run_shim.result
    (no_fault c.run_shim.result c.run_shim.ensures.no_refusal)

pub returns-in-Shim-clause-answer : goal.returns-in-Shim-clause-answer
returns-in-Shim-clause-answer g c =
    let W = g.W.Sink in
    let first = g.S.Shelf.gave c.args.shelf.now in
    let rose = Rose (W.faults c.args.out.now) (W.faults c.run_shim.new.out) in
    let old = W.took c.args.out.now in
    let new = W.took c.run_shim.new.out in
    let s = c.run_shim.result in
    let shown = shim_answers first c.as_slice.result.now rose old new s c.run_shim.ensures.answer in
    let same = subst (λ (b : List ℕ). Answers (OfCommand first first (shim b)) rose old new s) c.as_slice.ensures.items shown in
    subst (λ (p : parsed.Command). Answers (OfCommand first first (asked p)) rose old new s) (sym c.in-Shim.is) same
