use Rattle.tva_trace.proofs.Common.{◌∙◌, sym}
use Rattle.tva_trace.proofs.read.read_trace.Goals as goal

pub returns-in-Ok-clause-only : goal.returns-in-Ok-clause-only
returns-in-Ok-clause-only c = λ other are. c.in_ok-rows.ensures.only other are ∙ sym c.in-Ok.ensures
