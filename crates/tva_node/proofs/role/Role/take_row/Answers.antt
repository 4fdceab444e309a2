use Rattle.tva_node.proofs.Common.{subst, Happened, FromTrace, Role, RoleStands, HostTook, Takes}
use Rattle.tva_node.specs.declared.role.Role.TheVariants as roles
use Rattle.tva_node.proofs.Roles.{host_takes, if_ok}
use Rattle.tva_node.proofs.role.Role.take_row.Goals as goal

pub returns-in-Host-clause-took : goal.returns-in-Host-clause-took
returns-in-Host-clause-took c = λ site log s n e st.
    let h = c.in-Host.hosted in
    let new = c.take_row-in-Host.new.self in
    if_ok (λ (told : Happened). HostTook site h.courier.host.plan log (FromTrace c.args.row) told new) (λ (told : Happened). Takes site log (FromTrace c.args.row) told (roles.Host new)) c.take_row-in-Host.result
    (λ told t. host_takes site c.args.self.now h new log (FromTrace c.args.row) told e c.in-Host.is t)
    (c.take_row-in-Host.ensures.took site log (subst (λ (r : Role). RoleStands site r log) c.in-Host.is st))
