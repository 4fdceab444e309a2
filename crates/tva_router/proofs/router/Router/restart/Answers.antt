use Rattle.tva_router.proofs.Common.{[], ap, subst, RouterPlan, RouterData, StandsFor}
use Rattle.tva_router.proofs.Stocked.{stocked_same}
use Rattle.tva_router.proofs.router.Router.restart.Goals as goal

pub invariant_of-self : goal.invariant_of-self
invariant_of-self c =
    stocked_same c.self.inside.inner c.restart.new.self (λ h. []) c.self.inside.stock c.self.invariant
    (ap (λ (p : RouterPlan). p.outgoing) c.restart.ensures.plan) c.restart.ensures.stands

pub returns-clause-stands : goal.returns-clause-stands
returns-clause-stands c h logs s =
    subst (λ (v : RouterData). StandsFor v h logs → StandsFor c.restart.new.self [] logs) c.self.view_is (c.restart.ensures.stands h logs) s
