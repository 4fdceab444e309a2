use Rattle.tva_laws.proofs.LossRun.{valid, traced, is_run}
use Rattle.tva_laws.proofs.walks.a_walk_with_a_loss_is_a_run.Goals as goal

pub returns : goal.returns
returns c = record { valid = valid; traced = traced; run = is_run }
