use Rattle.tva_router.proofs.Common.{◌≡◌, ℕ, List, [], sym, ap, ◌∙◌, subst, All-nil, IsRouterPlan, LinkLimits, RouterPlan, Charge, IsWithinSeconds, misses_empty, StandForLogs, ArePorts, IsGuard, AreWays}
use Rattle.tva_router.proofs.Handled.{by-plan}
use Rattle.tva_router.proofs.Changed.{force_same}
use Rattle.tva_router.proofs.hand_router.HandRouter.build.Goals as goal

pub returns-clause-stands : goal.returns-clause-stands
returns-clause-stands c =
    let plan = c.in_ok-copied-2.field-0 in
    let same : plan ≡ c.args.plan.now = c.in_ok-copied-2.ensures in
    let outgoing : c.as_slice.result.now ≡ plan.outgoing = c.as_slice.ensures ∙ ap (λ (z : RouterPlan). z.outgoing) (sym same) in
    record {
      plan = by-plan c.in_ok-copied.field-0 plan 0 c.in_ok-build.field-0 c.in_ok-ways_of.field-0 c.in_ok-ports_of.field-0.items (record {
        valid = subst (λ (z : RouterPlan). IsRouterPlan z) (sym same) c.requires;
        in_force = force_same plan c.in_ok-copied.field-0 (same ∙ sym c.in_ok-copied.ensures);
        guard = subst (λ (z : RouterPlan). IsGuard z 0 c.in_ok-build.field-0) (sym same) c.in_ok-build.ensures.guard;
        ways = subst (λ (z : RouterPlan). AreWays z c.in_ok-ways_of.field-0) (sym same) c.in_ok-ways_of.ensures;
        ports = subst (λ (z : List (ℕ × LinkLimits)). ArePorts z 0 c.in_ok-ports_of.field-0.items) outgoing c.in_ok-ports_of.ensures.ports;
      });
      charges = c.in_ok-build.ensures.stands;
      timely = All-nil (λ (x : Charge). IsWithinSeconds plan.clock_offset x.time x.grant);
      links = subst (λ (z : List (ℕ × LinkLimits)). StandForLogs z c.in_ok-ports_of.field-0.items (λ link. [])) outgoing c.in_ok-ports_of.ensures.stands;
    }

pub returns-clause-missed : goal.returns-clause-missed
returns-clause-missed c link until limits f = misses_empty limits until
