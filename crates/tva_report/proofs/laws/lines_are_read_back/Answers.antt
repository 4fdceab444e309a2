use Rattle.tva_report.proofs.LinesBack.{good_made, lines_made}
use Rattle.tva_report.proofs.laws.lines_are_read_back.Goals as goal

pub returns-clause-good : goal.returns-clause-good
returns-clause-good c = good_made

pub returns-clause-same : goal.returns-clause-same
returns-clause-same c = lines_made
