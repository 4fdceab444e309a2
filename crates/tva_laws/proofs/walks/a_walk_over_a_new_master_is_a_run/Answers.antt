use Rattle.tva_laws.proofs.Common.{new_master}
use Rattle.tva_laws.proofs.Networks.{valid}
use Rattle.tva_laws.proofs.NewRun.{traced, is_run}
use Rattle.tva_laws.proofs.walks.a_walk_over_a_new_master_is_a_run.Goals as goal

pub returns : goal.returns
returns c = record { valid = valid new_master; traced = traced; run = is_run }
