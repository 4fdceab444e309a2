use Rattle.tva_audit.proofs.Common.{◌≡◌, take, All, IsLine, lines_of, text_of_event}
use Rattle.tva_audit.proofs.lines.put_lines.Given as goal

-- the lines of the events up to here
abbrev pub invariant-loop-event : goal.invariant-loop-event
invariant-loop-event l = record {
  lines : l.text.items ≡ lines_of l.config (take l.event-index l.events);
  printable : All (λ e. IsLine (text_of_event l.config e)) (take l.event-index l.events);
}
