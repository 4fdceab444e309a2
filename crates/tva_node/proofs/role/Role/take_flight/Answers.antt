use Rattle.tva_node.proofs.Common.{subst, Happened, Role, RoleStands, HostTook, Takes}
use Rattle.tva_waiting.specs.Inputs.{arrived}
use Rattle.tva_node.specs.declared.role.Role.TheVariants as roles
use Rattle.tva_node.proofs.Roles.{host_takes, if_ok}
use Rattle.tva_node.proofs.role.Role.take_flight.Goals as goal

pub returns-in-Host-clause-took : goal.returns-in-Host-clause-took
returns-in-Host-clause-took c = λ site log s n e st.
    let h = c.in-Host.hosted in
    let new = c.take_flight-in-Host.new.self in
    if_ok (λ (told : Happened). HostTook site h.courier.host.plan log (arrived c.args.flight) told new) (λ (told : Happened). Takes site log (arrived c.args.flight) told (roles.Host new)) c.take_flight-in-Host.result
    (λ told t. host_takes site c.args.self.now h new log (arrived c.args.flight) told e c.in-Host.is t)
    (c.take_flight-in-Host.ensures.took site log (subst (λ (r : Role). RoleStands site r log) c.in-Host.is st))
