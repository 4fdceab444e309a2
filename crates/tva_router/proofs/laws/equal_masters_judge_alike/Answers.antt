use Rattle.tva_router.proofs.Common.{refl, sym, Handled}
use Rattle.tva_router.proofs.Rerouted.{same_by_masters}
use Rattle.tva_router.proofs.laws.equal_masters_judge_alike.Goals as goal

pub returns-clause-class : goal.returns-clause-class
returns-clause-class c v w h logs others now from p s t built master =
    sym (same_by_masters (λ (z : Handled). z.fate.class) v w h logs others now from p s.plan.in_force t.plan.in_force built master (λ j. refl))

pub returns-clause-cause : goal.returns-clause-cause
returns-clause-cause c v w h logs others now from p s t built master =
    sym (same_by_masters (λ (z : Handled). z.fate.cause) v w h logs others now from p s.plan.in_force t.plan.in_force built master (λ j. refl))

pub returns-clause-charge : goal.returns-clause-charge
returns-clause-charge c v w h logs others now from p s t built master =
    sym (same_by_masters (λ (z : Handled). z.fate.charge) v w h logs others now from p s.plan.in_force t.plan.in_force built master (λ j. refl))

pub returns-clause-onward : goal.returns-clause-onward
returns-clause-onward c v w h logs others now from p s t built master =
    sym (same_by_masters (λ (z : Handled). z.onward) v w h logs others now from p s.plan.in_force t.plan.in_force built master (λ j. refl))
