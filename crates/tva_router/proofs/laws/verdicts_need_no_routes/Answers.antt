use Rattle.tva_router.proofs.Common.{refl, Handled}
use Rattle.tva_router.proofs.Rerouted.{same_by_routes}
use Rattle.tva_router.proofs.laws.verdicts_need_no_routes.Goals as goal

pub returns-clause-class : goal.returns-clause-class
returns-clause-class c plan routes h logs others now from p = same_by_routes (λ (z : Handled). z.fate.class) plan routes h logs others now from p (λ j. refl)

pub returns-clause-cause : goal.returns-clause-cause
returns-clause-cause c plan routes h logs others now from p = same_by_routes (λ (z : Handled). z.fate.cause) plan routes h logs others now from p (λ j. refl)

pub returns-clause-charge : goal.returns-clause-charge
returns-clause-charge c plan routes h logs others now from p = same_by_routes (λ (z : Handled). z.fate.charge) plan routes h logs others now from p (λ j. refl)

pub returns-clause-onward : goal.returns-clause-onward
returns-clause-onward c plan routes h logs others now from p = same_by_routes (λ (z : Handled). z.onward) plan routes h logs others now from p (λ j. refl)
