use Rattle.tva_lines.proofs.Common.{ap, arith, length}
use Rattle.tva_lines.proofs.Printables.{totals_printable}
use Rattle.tva_lines.proofs.Widths.{totals_some}
use Rattle.tva_lines.proofs.lines.summary_text.Goals as goal

pub returns-clause-printable : goal.returns-clause-printable
returns-clause-printable c =
    let long = ap length c.put_totals.ensures.text in
    record {
      some = totals_some c.args.totals.now;
      short = omega (arith, long, c.put_totals.ensures.short);
      printable = totals_printable c.args.totals.now;
    }
