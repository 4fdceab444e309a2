use Rattle.tva_report.proofs.Worse.{worst_is}
use Rattle.tva_report.proofs.sums_laws.the_worst_is_the_worst.Goals as goal

pub returns : goal.returns
returns c = worst_is
