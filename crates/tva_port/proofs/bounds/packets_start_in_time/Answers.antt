use Rattle.tva_port.proofs.RequestBound.{requests_served}
use Rattle.tva_port.proofs.RegularBound.{regulars_served}
use Rattle.tva_port.proofs.bounds.packets_start_in_time.Goals as goal

pub returns-clause-requests : goal.returns-clause-requests
returns-clause-requests c l log now until a g m k = requests_served l log now until a g m k

pub returns-clause-regulars : goal.returns-clause-regulars
returns-clause-regulars c l log now until a g m k = regulars_served l log now until a g m k
