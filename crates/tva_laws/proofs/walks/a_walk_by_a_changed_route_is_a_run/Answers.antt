use Rattle.tva_laws.proofs.DetourNet.{valid, traced}
use Rattle.tva_laws.proofs.DetourRun.{is_run}
use Rattle.tva_laws.proofs.walks.a_walk_by_a_changed_route_is_a_run.Goals as goal

pub returns : goal.returns
returns c = record { valid = valid; traced = traced; run = is_run }
