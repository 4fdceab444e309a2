use Rattle.tva_run.proofs.Legal.{legal_is_log, log_is_legal}
use Rattle.tva_run.proofs.log_laws.node_logs_are_legal.Goals as goal

pub returns-clause-back : goal.returns-clause-back
returns-clause-back c = λ site inputs until log h. legal_is_log site inputs until log h

pub returns-clause-legal : goal.returns-clause-legal
returns-clause-legal c = λ site inputs until log valid short h. log_is_legal site inputs until log valid short h
