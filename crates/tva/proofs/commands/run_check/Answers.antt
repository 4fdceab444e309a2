use Rattle.tva.proofs.Common.{◌≡◌, refl, rules, Rose, check_line, check}
use Rattle.tva.proofs.Texts.{text_found}
use Rattle.tva.proofs.commands.run_check.Goals as goal

pub returns-clause-answer : goal.returns-clause-answer
returns-clause-answer g c =
    let S = g.S.Shelf in
    let W = g.W.Sink in
    let same : c.as_bytes.result.now ≡ check_line c.in-Ok.plan = search rules in
    text_found (S.gave c.args.shelf.now) (S.gave c.load_plan.new.shelf) c.args.config.now (check c.args.config.now) check_line
    (Rose (W.faults c.args.out.now) (W.faults c.send.new.out)) (W.took c.args.out.now) (λ files. refl)
    c.in-Ok.plan c.as_bytes.result.now (W.took c.send.new.out) c.send.result c.in-Ok.ensures.ok same c.send.ensures.answer
