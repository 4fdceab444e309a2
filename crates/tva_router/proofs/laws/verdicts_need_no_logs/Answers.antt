use Rattle.tva_router.proofs.Common.{refl, Handled}
use Rattle.tva_router.proofs.Fates.{same_over}
use Rattle.tva_router.proofs.laws.verdicts_need_no_logs.Goals as goal

pub returns-clause-class : goal.returns-clause-class
returns-clause-class c plan h logs others now from p = same_over (λ (z : Handled). z.fate.class) plan h logs others now from p (λ j. refl)

pub returns-clause-cause : goal.returns-clause-cause
returns-clause-cause c plan h logs others now from p = same_over (λ (z : Handled). z.fate.cause) plan h logs others now from p (λ j. refl)

pub returns-clause-charge : goal.returns-clause-charge
returns-clause-charge c plan h logs others now from p = same_over (λ (z : Handled). z.fate.charge) plan h logs others now from p (λ j. refl)

pub returns-clause-onward : goal.returns-clause-onward
returns-clause-onward c plan h logs others now from p = same_over (λ (z : Handled). z.onward) plan h logs others now from p (λ j. refl)
