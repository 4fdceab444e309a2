use Rattle.tva_transfer.proofs.Common.{sym, ap, ◌∙◌, refl, unwrap_or, Ack, answer_to}
use Rattle.tva_transfer.proofs.Knowing.{answer_to-data, behind}
use Rattle.tva_transfer.proofs.courier.Courier.answer_to.Goals as goal

pub returns-in-Nothing-clause-answer : goal.returns-in-Nothing-clause-answer
unfolding answer_to
returns-in-Nothing-clause-answer c files k = rw c.in-Nothing.is refl

pub returns-in-Data-clause-answer : goal.returns-in-Data-clause-answer
returns-in-Data-clause-answer c files k =
    rw c.in-Data.is
    (ap (λ n. Ack c.in-Data.transfer n) (c.next_behind.ensures ∙ ap (λ n. behind n c.in-Data.first c.in-Data.bytes) (sym (ap (λ o. unwrap_or o 0) (rw c.in-Data.is at c.requires.next))))
    ∙ sym (answer_to-data c.args.self.now files k c.args.source c.in-Data.transfer c.in-Data.first c.in-Data.bytes))
