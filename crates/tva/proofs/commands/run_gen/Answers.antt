use Rattle.tva.proofs.Common.{◌≡◌, refl, rules, Rose, generated, gen}
use Rattle.tva.proofs.Texts.{text_found}
use Rattle.tva.proofs.commands.run_gen.Goals as goal

pub returns-in-Ok-generate-clause-answer : goal.returns-in-Ok-generate-clause-answer
returns-in-Ok-generate-clause-answer g c =
    let S = g.S.Shelf in
    let W = g.W.Sink in
    let same : c.deref.result.now ≡ generated c.in-Ok.plan c.args.seed c.args.count = search rules in
    text_found (S.gave c.args.shelf.now) (S.gave c.load_plan.new.shelf) c.args.config.now (gen c.args.seed c.args.count c.args.config.now)
    (λ plan. generated plan c.args.seed c.args.count)
    (Rose (W.faults c.args.out.now) (W.faults c.send.new.out)) (W.took c.args.out.now) (λ files. refl)
    c.in-Ok.plan c.deref.result.now (W.took c.send.new.out) c.send.result c.in-Ok.ensures.ok same c.send.ensures.answer
