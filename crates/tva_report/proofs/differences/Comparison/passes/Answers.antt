use Rattle.tva_report.proofs.Common.{sym, arith}
use Rattle.tva_report.proofs.LinesBack.{few_lines}
use Rattle.tva_report.proofs.Passing.{led_on}
use Rattle.tva_report.proofs.differences.Comparison.passes.Goals as goal

pub pass-requires : goal.pass-requires
pass-requires c = omega (arith, c.requires.count, few_lines c.args.text.now)

pub returns-clause-passed : goal.returns-clause-passed
returns-clause-passed c = λ e.
    rw (← c.self.view_is)
    (led_on c.self.inside.ahead c.pass.new.self c.self.inside.wanted c.args.text.now c.args.count (sym c.if-is_some.ensures) c.requires.good c.requires.count (c.pass.ensures.passed e))
