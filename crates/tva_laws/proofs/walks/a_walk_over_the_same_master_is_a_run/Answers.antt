use Rattle.tva_laws.proofs.Common.{walk_router}
use Rattle.tva_laws.proofs.Networks.{valid}
use Rattle.tva_laws.proofs.SameRun.{traced, is_run}
use Rattle.tva_laws.proofs.walks.a_walk_over_the_same_master_is_a_run.Goals as goal

pub returns : goal.returns
returns c = record { valid = valid walk_router.master; traced = traced; run = is_run }
