-- Kit: how an audit ends where the network ended.
use Rattle.std.specs.Prelude.{◌≡◌, ℕ, List, Option, Some, None, Result, Ok, Err}
use Rattle.tva_net.specs.declared.kinds.NetError as errors
use Rattle.tva_net.specs.declared.kinds.NetError.TheVariants as error
use Rattle.tva_report.specs.Lines.{first_bad, report_lines}
use Rattle.tva_report.specs.Differences.{first_difference}
use Rattle.tva_audit.specs.declared.audits.Audited.{Audited}
use Rattle.tva_audit.specs.declared.audits.Audited.TheVariants.{Same, Differs}
use Rattle.tva_audit.specs.declared.audits.AuditError.{AuditError}
use Rattle.tva_audit.specs.declared.audits.AuditError.TheVariants.{BadReport, EventLimit, OutOfMemory}
use Rattle.tva_audit.specs.declared.routers.RouterSum.{RouterSum}

abbrev pub told_by : errors.NetError → AuditError
told_by (error.EventLimit most) = EventLimit most
told_by error.OutOfMemory = OutOfMemory

-- what an audit comes to that is told why it ends: a bad line comes first
abbrev pub refusal : Option ℕ → AuditError → AuditError
refusal None error = error
refusal (Some line) error = BadReport line

-- these lines are expected of a report, and these are the sums of the routers
abbrev pub IsDecided : List (List ℕ) → List ℕ → List RouterSum → Result Audited AuditError → Type 0
IsDecided lines report all (Ok (Differs f)) =
    (first_bad report ≡ None) × (first_difference lines (report_lines report) ≡ Some f)
IsDecided lines report all (Ok (Same sums)) =
    (first_bad report ≡ None) × (first_difference lines (report_lines report) ≡ None) × (sums.items ≡ all)
IsDecided lines report all (Err OutOfMemory) = first_bad report ≡ None
IsDecided lines report all (Err (BadReport line)) = first_bad report ≡ Some line
IsDecided lines report all (Err (EventLimit most)) = ⊥
