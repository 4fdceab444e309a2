use Rattle.tva_report.proofs.Common.{length, AreLines, Leads, report_lines}
use Rattle.tva_report.proofs.differences.Comparison.each_line.Given as goal

-- what is ahead in the text is still to be compared
abbrev pub invariant-loop-line : goal.invariant-loop-line
invariant-loop-line l = record {
  lines : AreLines l.lines.rest;
  leads : Leads l.fn.self (report_lines l.text) l.self (report_lines l.lines.rest);
}

abbrev pub decreases-loop-line : goal.decreases-loop-line
decreases-loop-line l = length l.lines.rest
