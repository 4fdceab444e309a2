use Rattle.tva_laws.proofs.DetourPath.{steady_first, steady_second}
use Rattle.tva_laws.proofs.walks.a_grant_by_a_changed_route_comes_steadily.Goals as goal

pub returns : goal.returns
returns c = record { first = steady_first; second = steady_second }
