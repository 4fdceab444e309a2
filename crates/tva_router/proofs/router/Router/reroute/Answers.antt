use Rattle.tva_router.proofs.Common.{ap, subst, RouterPlan, RouterData, StandsFor}
use Rattle.tva_router.proofs.Stocked.{stocked_same}
use Rattle.tva_router.proofs.router.Router.reroute.Goals as goal

pub invariant_of-self : goal.invariant_of-self
invariant_of-self c =
    stocked_same c.self.inside.inner c.reroute.new.self (λ h. h) c.self.inside.stock c.self.invariant
    (ap (λ (p : RouterPlan). p.outgoing) c.reroute.ensures.plan) c.reroute.ensures.stands

pub returns-clause-stands : goal.returns-clause-stands
returns-clause-stands c h logs s =
    subst (λ (v : RouterData). StandsFor v h logs → StandsFor c.reroute.new.self h logs) c.self.view_is (c.reroute.ensures.stands h logs) s
