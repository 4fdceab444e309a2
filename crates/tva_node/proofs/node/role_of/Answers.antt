use Rattle.tva_node.proofs.Common.{ℕ, List, Some, sym, subst, ◌∙◌, ap, LinkLimits, HostPlan, Prefix, Time, NodePlan, PortData, IsPlanned, AreByTime}
use Rattle.tva_node.proofs.Making.{routed_first}
use Rattle.tva_node.proofs.Posts.{first_out, first_valid}
use Rattle.tva_node.proofs.node.role_of.Goals as goal

pub build-requires-in-Host-2 : goal.build-requires-in-Host-2
build-requires-in-Host-2 c =
    let planned = subst (λ (p : NodePlan). IsPlanned p c.args.links.now) c.in-Host.is c.requires.planned in
    first_valid c.args.number c.args.links.now c.in-Host.host.uplink _ c.requires.links planned.1

pub returns-in_ok-build-in-Host-2-clause-stands : goal.returns-in_ok-build-in-Host-2-clause-stands
returns-in_ok-build-in-Host-2-clause-stands c =
    let planned = subst (λ (p : NodePlan). IsPlanned p c.args.links.now) c.in-Host.is c.requires.planned in
    let uplink = c.in-Host.host.uplink in
    let limits = ap (λ (p : PortData). p.limits) c.in_ok-build-in-Host-2.ensures.value in
    record {
      courier = c.in_ok-build-in-Host.ensures.stands;
      node = c.in_ok-build-in-Host.ensures.node;
      uplink = ap (λ (p : HostPlan). p.uplink) (sym c.in_ok-build-in-Host.ensures.plan);
      limits = first_out c.args.number c.args.plan.now c.args.links.now uplink _ planned.1 ∙ ap (λ (l : LinkLimits). Some (uplink, l)) (sym limits);
      port = c.in_ok-build-in-Host-2.ensures.stands;
    }

pub returns-in_ok-of-in-Router-clause-last : goal.returns-in_ok-of-in-Router-clause-last
returns-in_ok-of-in-Router-clause-last c =
    let planned = subst (λ (p : NodePlan). IsPlanned p c.args.links.now) c.in-Router.is c.requires.planned in
    let built = c.in_ok-build-in-Router.ensures in
    let of = c.in_ok-of-in-Router.ensures in
    let by = subst (λ (xs : List (Time × Prefix × ℕ)). AreByTime xs c.in_ok-of-in-Router.field-0.moves.items) c.as_slice.ensures of.moves in
    routed_first c.in_ok-build-in-Router.field-0 c.in-Router.router c.in_ok-of-in-Router.field-0 planned.0 built.built built.plan built.last of.first.0 of.first.1 by
