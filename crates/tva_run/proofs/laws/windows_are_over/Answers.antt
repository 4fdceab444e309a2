use Rattle.tva_run.proofs.Common.{◌≤◌, ◌+◌, arith}
use Rattle.tva_run.proofs.Next.{none_before}
use Rattle.tva_run.proofs.laws.windows_are_over.Goals as goal

pub returns : goal.returns
returns c = λ config rows from logs whole valid run later rest time a b w.
    let order : from ≤ config.horizon.0 + 1 = run.within in
    let at_end : config.horizon.0 + 1 ≤ config.horizon.0 + 1 = omega arith in
    none_before config rows from (config.horizon.0 + 1) (config.horizon.0 + 1) logs whole valid run later order at_end rest time a (omega arith) w
