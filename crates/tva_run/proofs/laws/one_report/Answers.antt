use Rattle.tva_run.proofs.Common.{◌+◌, sym, ◌∙◌, ap, report_of}
use Rattle.tva_run.proofs.Runs.{are_delayed}
use Rattle.tva_run.proofs.Reports.{one_list}
use Rattle.tva_run.proofs.laws.one_report.Goals as goal

pub returns : goal.returns
returns c = λ config rows text other valid a b.
    a.whole ∙ (ap (report_of config) (one_list config rows (are_delayed config valid) (config.horizon.0 + 1) a.told b.told a.events b.events) ∙ sym b.whole)
