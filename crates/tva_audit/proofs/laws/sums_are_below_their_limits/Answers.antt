use Rattle.tva_audit.proofs.Common.{◌+◌}
use Rattle.tva_laws.proofs.Runs.{run_keeps}
use Rattle.tva_audit.proofs.Budgets.{sums_below}
use Rattle.tva_audit.proofs.laws.sums_are_below_their_limits.Goals as goal

pub returns : goal.returns
returns c = λ config rows logs valid trace run.
    sums_below config (config.horizon.0 + 1) logs (λ node site is. run_keeps config rows (config.horizon.0 + 1) logs valid trace run node site is)
