use Rattle.tva_run.proofs.Common.{◌+◌}
use Rattle.tva_run.proofs.Going.{least_is, least_of_none, least_delay-least}
use Rattle.tva_run.proofs.laws.windows_are_longest.Goals as goal

pub returns-clause-one : goal.returns-clause-one
returns-clause-one c = λ config some. least_is (config.horizon.0 + 1) config.links some

pub returns-clause-least : goal.returns-clause-least
returns-clause-least c = λ config number link there. least_delay-least (config.horizon.0 + 1) config.links number link there

pub returns-clause-alone : goal.returns-clause-alone
returns-clause-alone c = λ config none. least_of_none (config.horizon.0 + 1) config.links none
