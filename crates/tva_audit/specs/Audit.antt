-- Product: what an audit answers: whether a report is the one that a configuration and a trace have.
use Rattle.std.specs.Prelude.{◌≡◌, ℕ, List, Some, None, Result, Ok, Err}
use Rattle.tva_plan.specs.declared.config.Config.{Config}
use Rattle.tva_rows.specs.declared.rows.Row.{Row}
use Rattle.tva_run.specs.Reaching.{Logs}
use Rattle.tva_run.specs.Run.{IsRun}
use Rattle.tva_run.specs.Shown.{HasReport, IsPastLimit}
use Rattle.tva_report.specs.declared.differences.Finding.{Finding}
use Rattle.tva_report.specs.Lines.{first_bad, report_lines}
use Rattle.tva_report.specs.Differences.{first_difference}
use Rattle.tva_audit.specs.declared.routers.RouterSum.{RouterSum}
use Rattle.tva_audit.specs.declared.audits.Audited.{Audited}
use Rattle.tva_audit.specs.declared.audits.Audited.TheVariants.{Same, Differs}
use Rattle.tva_audit.specs.declared.audits.AuditError.{AuditError}
use Rattle.tva_audit.specs.declared.audits.AuditError.TheVariants.{BadReport, EventLimit, OutOfMemory}
use Rattle.tva_audit.specs.Sums.{run_sums}

-- these are the sums of the routers in the run
pub record HasSums (config : Config) (rows : List Row) (sums : List RouterSum) : Type 0 where
  pub logs : Logs
  pub run : IsRun config rows logs
  pub each : sums ≡ run_sums config logs

-- the run has a report, from which this is the first difference of a text
pub record IsDifference (config : Config) (rows : List Row) (report : List ℕ) (f : Finding) : Type 0 where
  pub text : List ℕ
  pub has : HasReport config rows text
  pub first : first_difference (report_lines text) (report_lines report) ≡ Some f

-- what an audit of a report answers: its first bad line; else that the run has more events than it may have; else,
-- where it is the report of the run, the sums of its routers, and where it isn't, the first line that differs
abbrev pub IsAudit : Config → List Row → List ℕ → Result Audited AuditError → Type 0
IsAudit config rows report (Err (BadReport line)) = first_bad report ≡ Some line
IsAudit config rows report (Err (EventLimit most)) =
    (first_bad report ≡ None) × (most ≡ config.max_events) × IsPastLimit config rows
IsAudit config rows report (Err OutOfMemory) = first_bad report ≡ None
IsAudit config rows report (Ok (Differs f)) = (first_bad report ≡ None) × IsDifference config rows report f
IsAudit config rows report (Ok (Same sums)) =
    (first_bad report ≡ None) × HasReport config rows report × HasSums config rows sums.items
