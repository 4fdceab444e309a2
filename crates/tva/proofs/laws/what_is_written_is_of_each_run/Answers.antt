use Rattle.tva.proofs.Each.{first_of_wanted, one_of_wanted}
use Rattle.tva.proofs.laws.what_is_written_is_of_each_run.Goals as goal

pub returns-clause-one : goal.returns-clause-one
returns-clause-one c = λ files words old new. one_of_wanted old new words files

pub returns-clause-each : goal.returns-clause-each
returns-clause-each c = λ files words old new. first_of_wanted old new words files
