use Rattle.tva_report.proofs.Common.{refl}
use Rattle.tva_report.proofs.Comparing.{are_lines}
use Rattle.tva_report.proofs.differences.Comparison.each_line.Goals as goal

pub loop-line-init : goal.loop-line-init
loop-line-init c = rw c.new-lines.ensures (record { lines = are_lines c.args.text.now c.requires; leads = record { bad = refl; same = λ good more. refl } })
