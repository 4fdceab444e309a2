use Rattle.tva.proofs.Common.{◌++◌, refl, rules, Rose, shows}
use Rattle.std.specs.Prelude.{codes}
use Rattle.tva_shim_text.specs.ShimText.{IsTextOf}
use Rattle.tva.proofs.Texts.{answers_of_written}
use Rattle.tva.proofs.commands.run_shim.Goals as goal

pub returns-in-Ok-clause-answer : goal.returns-in-Ok-clause-answer
returns-in-Ok-clause-answer g c =
    let W = g.W.Sink in
    let line = c.as_bytes.result.now in
    let is : IsTextOf c.args.bytes.now line = search (rules, c.as_bytes.ensures.value, c.in-Ok.ensures) in
    answers_of_written (shows c.args.bytes.now) (line ++ codes "\n") (line, is, refl)
    (Rose (W.faults c.args.out.now) (W.faults c.send_both.new.out)) (W.took c.args.out.now) (W.took c.send_both.new.out)
    c.send_both.result c.send_both.ensures.answer
