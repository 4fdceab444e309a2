use Rattle.tva_laws.proofs.Whole.{traced_report}
use Rattle.tva_laws.proofs.existence.reports_are_there.Goals as goal

pub returns : goal.returns
returns c = traced_report
