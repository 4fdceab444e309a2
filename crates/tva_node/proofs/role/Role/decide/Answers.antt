use Rattle.tva_node.proofs.Common.{nat_tests, ◌≡◌, ◌∙◌, ◌++◌, refl, sym, subst, ap, arith, LinkLimits, decision, decision_by, charges_of_boot, charges, port_logs, Role, Hosted, RoleStands, StandsAsHost, role_plan, started_by}
use Rattle.tva_node.proofs.Roles.{host_decided, host_out, not_none, router_decided, router_has_out}
use Rattle.tva_node.proofs.role.Role.decide.Goals as goal

pub decide_into-requires-clause-outgoing : goal.decide_into-requires-clause-outgoing
decide_into-requires-clause-outgoing c = grind (arith, nat_tests, router_has_out, not_none)

pub returns-in-Router-clause-decides : goal.returns-in-Router-clause-decides
returns-in-Router-clause-decides c = λ site log limits s e out st.
    let stands = subst (λ (r : Role). RoleStands site r log) c.in-Router.is st in
    let has = router_has_out site c.args.self.now c.in-Router.routed c.args.link limits c.args.now.0 c.requires.time s e c.in-Router.is out in
    let r = c.in-Router.routed in
    let h = charges_of_boot r.router.built r.changes.boot (charges log) in (
      c.decide_into.ensures.decision h (port_logs log) limits stands.router has,
      router_decided c.in-Router.routed (record { router = c.decide_into.new.self; next = r.next; changes = r.changes }) log c.args.link c.args.now.0 (decision_by c.decide_into.result c.decide_into.new.hand) stands
          (c.decide_into.ensures.stands h (port_logs log) stands.router) c.decide_into.ensures.built refl refl,
    )

pub returns-in-Host-clause-decides : goal.returns-in-Host-clause-decides
returns-in-Host-clause-decides c = λ site log limits s e out st.
    let h = c.in-Host.hosted in
    let stands = subst (λ (r : Role). RoleStands site r log) c.in-Host.is st in
    let o = host_out site h log c.args.link (c.args.link, limits) s (e ∙ ap role_plan c.in-Host.is) stands out in
    let same : h.port.limits ≡ limits = ap (λ p. p.1) (sym o.1) in
    let new : Hosted = record { courier = h.courier; uplink = h.uplink; port = c.decide_into-in-Host.new.self } in (
      c.decide_into-in-Host.ensures.decision (port_logs log h.uplink) stands.port
          ∙ (ap (λ (l : LinkLimits). decision l (port_logs log h.uplink) c.args.now.0) same ∙ ap (λ k. decision limits (port_logs log k) c.args.now.0) o.0),
      subst (λ k. StandsAsHost site new (log ++ started_by k c.args.now.0 (decision_by c.decide_into-in-Host.result c.decide_into-in-Host.new.hand))) o.0
          (host_decided site h new log c.args.now.0 (decision_by c.decide_into-in-Host.result c.decide_into-in-Host.new.hand) stands (c.decide_into-in-Host.ensures.stands (port_logs log h.uplink) stands.port) refl refl c.decide_into-in-Host.ensures.same),
    )

pub returns-in-Router-clause-last : goal.returns-in-Router-clause-last
returns-in-Router-clause-last c = grind (arith, nat_tests)
