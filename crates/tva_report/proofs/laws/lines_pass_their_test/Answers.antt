use Rattle.tva_report.proofs.LinesBack.{line_passes, line_told}
use Rattle.tva_report.proofs.laws.lines_pass_their_test.Goals as goal

pub returns : goal.returns
returns c = λ text. (line_told text, line_passes text)
