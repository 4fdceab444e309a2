use Rattle.tva_node.proofs.Common.{arith, nat_tests, ◌≡◌, ◌∙◌, sym, subst, ap, LinkLimits, free_after, charges_of_boot, charges, port_logs, Role, RoleStands, role_plan}
use Rattle.tva_node.proofs.Roles.{host_out, not_none, router_has_out}
use Rattle.tva_node.proofs.role.Role.free_at.Goals as goal

pub free_at-requires : goal.free_at-requires
free_at-requires c = grind (arith, nat_tests, router_has_out, not_none)

pub returns-in-Router-clause-free : goal.returns-in-Router-clause-free
returns-in-Router-clause-free c = λ site log limits s e out st.
    let r = c.in-Router.routed in
    c.free_at.ensures.free (charges_of_boot r.router.built r.changes.boot (charges log)) (port_logs log) limits (subst (λ (r : Role). RoleStands site r log) c.in-Router.is st).router
    (router_has_out site c.args.self.now c.in-Router.routed c.args.link limits c.requires.time.0 c.requires.time.1 s e c.in-Router.is out)

pub returns-in-Host-clause-free : goal.returns-in-Host-clause-free
returns-in-Host-clause-free c = λ site log limits s e out st.
    let h = c.in-Host.hosted in
    let stands = subst (λ (r : Role). RoleStands site r log) c.in-Host.is st in
    let o = host_out site h log c.args.link (c.args.link, limits) s (e ∙ ap role_plan c.in-Host.is) stands out in
    let same : h.port.limits ≡ limits = ap (λ p. p.1) (sym o.1) in
    c.free_at-in-Host.ensures.free (port_logs log h.uplink) stands.port
    ∙ (ap (λ (l : LinkLimits). free_after l (port_logs log h.uplink)) same ∙ ap (λ k. free_after limits (port_logs log k)) o.0)
