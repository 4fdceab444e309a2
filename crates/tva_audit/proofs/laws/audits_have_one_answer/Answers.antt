use Rattle.tva_audit.proofs.OneAnswer.{the_answer}
use Rattle.tva_audit.proofs.laws.audits_have_one_answer.Goals as goal

pub returns : goal.returns
returns c = λ config rows report answer valid is. the_answer config rows valid report answer is
