use Rattle.tva_trace.proofs.OneList.{rows_are_one}
use Rattle.tva_trace.proofs.laws.texts_have_one_meaning.Goals as goal

pub returns : goal.returns
returns c = record { one = rows_are_one }
