use Rattle.tva_lines.proofs.Common.{ap, arith, length}
use Rattle.tva_lines.proofs.Printables.{event_printable}
use Rattle.tva_lines.proofs.Widths.{event_some}
use Rattle.tva_lines.proofs.lines.line_text.Goals as goal

pub returns-clause-printable : goal.returns-clause-printable
returns-clause-printable c valid =
    let long = ap length c.put_event.ensures.text in
    record {
      some = event_some c.args.config.now c.args.event.now;
      short = omega (arith, long, c.put_event.ensures.short);
      printable = event_printable c.args.config.now c.args.event.now valid;
    }
