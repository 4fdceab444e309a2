use Rattle.tva_laws.proofs.Walkable.{traced, valid}
use Rattle.tva_laws.proofs.Walking.{is_run}
use Rattle.tva_laws.proofs.honest.worked_walk_is_a_run.Goals as goal

pub returns : goal.returns
returns c = record { valid = valid; traced = traced; run = is_run }
