-- Crate: that an audit has one answer, told by the report and the run alone.
use Rattle.std.specs.Prelude.{◌≡◌, ◌↔◌, ℕ, List, Some, None, Result, Ok, Err}
use Rattle.std.specs.declared.alloc.Global.{Global}
use Rattle.std.specs.declared.vec.Vec.{Vec}
use Rattle.tva_plan.specs.declared.config.Config.{Config}
use Rattle.tva_rows.specs.declared.rows.Row.{Row}
use Rattle.tva_run.specs.Shown.{HasReport, IsPastLimit}
use Rattle.tva_report.specs.declared.differences.Finding.{Finding}
use Rattle.tva_report.specs.Lines.{first_bad}
use Rattle.tva_audit.specs.declared.routers.RouterSum.{RouterSum}
use Rattle.tva_audit.specs.declared.audits.Audited.{Audited}
use Rattle.tva_audit.specs.declared.audits.Audited.TheVariants.{Same, Differs}
use Rattle.tva_audit.specs.declared.audits.AuditError.{AuditError}
use Rattle.tva_audit.specs.declared.audits.AuditError.TheVariants.{BadReport, EventLimit}
use Rattle.tva_audit.specs.Audit.{HasSums, IsDifference}

-- the answer is that the report is the run's, with the sums of its routers
abbrev pub IsSame : Config → List Row → Result Audited AuditError → Type 0
IsSame config rows answer = (sums : Vec RouterSum Global) × (answer ≡ Ok (Same sums)) × HasSums config rows sums.items

-- each answer is given exactly where it is so: first a bad line, then too many events, then a difference or none
pub record IsTheAnswer (config : Config) (rows : List Row) (report : List ℕ) (answer : Result Audited AuditError)
    : Type 0 where
  pub bad : (line : ℕ) → (answer ≡ Err (BadReport line)) ↔ (first_bad report ≡ Some line)
  pub limit : (most : ℕ) → (answer ≡ Err (EventLimit most))
      ↔ ((first_bad report ≡ None) × (most ≡ config.max_events) × IsPastLimit config rows)
  pub differs : (f : Finding) → (answer ≡ Ok (Differs f)) ↔ ((first_bad report ≡ None) × IsDifference config rows report f)
  pub same : IsSame config rows answer ↔ ((first_bad report ≡ None) × HasReport config rows report)
