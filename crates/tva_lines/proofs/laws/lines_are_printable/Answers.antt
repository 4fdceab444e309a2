use Rattle.tva_lines.proofs.Printables.{event_printable}
use Rattle.tva_lines.proofs.Widths.{event_line, totals_line}
use Rattle.tva_lines.proofs.laws.lines_are_printable.Goals as goal

pub returns : goal.returns
returns c = record { event = event_line; bytes = event_printable; totals = totals_line }
