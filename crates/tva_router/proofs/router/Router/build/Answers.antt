use Rattle.tva_router.proofs.Common.{◌≡◌, ℕ, List, [], sym, ap, ◌∙◌, arith, LinkLimits, RouterPlan, places_on}
use Rattle.tva_router.proofs.Stocked.{waits_nothing}
use Rattle.tva_router.proofs.router.Router.build.Goals as goal

pub invariant_of-result : goal.invariant_of-result
invariant_of-result c =
    let out : c.in_ok-inner.inner.plan.outgoing ≡ c.args.plan.now.outgoing = ap (λ (p : RouterPlan). p.outgoing) c.in_ok-inner.ensures.plan in
    let places : places_on c.in_ok-inner.inner.plan.outgoing ≡ places_on c.as_slice.result.now =
    ap (λ (os : List (ℕ × LinkLimits)). places_on os) (out ∙ sym c.as_slice.ensures) in
    record {
      charges = [];
      logs = λ link. [];
      stands = c.in_ok-inner.ensures.stands;
      count = omega (arith, c.in_ok-add_for.ensures.count, places, waits_nothing c.in_ok-inner.inner.plan.outgoing);
      room = omega (arith, c.in_ok-add_for.ensures.count, c.in_ok-add_for.ensures.room, places);
    }
