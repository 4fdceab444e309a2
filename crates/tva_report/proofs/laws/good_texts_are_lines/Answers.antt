use Rattle.tva_report.proofs.LinesBack.{good_are_lines, good_back}
use Rattle.tva_report.proofs.laws.good_texts_are_lines.Goals as goal

pub returns-clause-lines : goal.returns-clause-lines
returns-clause-lines c = good_are_lines

pub returns-clause-same : goal.returns-clause-same
returns-clause-same c = good_back
