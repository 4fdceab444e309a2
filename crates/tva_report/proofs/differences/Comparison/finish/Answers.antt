use Rattle.tva_report.proofs.Common.{sym, ◌∙◌}
use Rattle.tva_report.proofs.Comparing.{finished}
use Rattle.tva_report.proofs.differences.Comparison.finish.Goals as goal

pub returns-clause-found : goal.returns-clause-found
returns-clause-found c = λ report fed.
    rw (← c.self.view_is) (λ stands.
    let good = sym c.first_bad.ensures ∙ c.in_default.is in
    let all = finished c.self.inside.ahead c.self.inside.wanted c.next-piece.result c.next-piece.new.self (rw (← c.self.view_is) at good) c.next-piece.ensures report fed stands in
    (all.0, c.difference.ensures ∙ rw (c.number-number.ensures) all.1))
