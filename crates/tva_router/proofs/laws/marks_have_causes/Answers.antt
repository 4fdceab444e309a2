use Rattle.tva_router.proofs.Fates.{mark_told}
use Rattle.tva_router.proofs.laws.marks_have_causes.Goals as goal

pub returns : goal.returns
returns c = record { mark = λ plan h logs now from p. mark_told plan h logs now from p }
