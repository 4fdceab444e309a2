-- Crate: what is written, by every run that a trace has.
use Rattle.std.specs.Prelude.{◌≡◌, ℕ, List, ◌++◌}
use Rattle.tva_rows.specs.declared.rows.Row.{Row}
use Rattle.tva_trace.specs.Meaning.{AreRows}
use Rattle.tva_run.specs.Report.{IsReport}
use Rattle.tva.specs.Expected.{Expected, replays, audits}
use Rattle.tva.specs.Parts.{IsCut}

-- whatever run of the trace there is, its report is what is written, or what is audited
abbrev pub WroteEach : List ℕ → List ℕ → Expected → Type 0
WroteEach old new (replays plan trace) =
    (rows : List Row) (text : List ℕ) → AreRows plan trace rows → IsReport plan rows text → new ≡ old ++ text
WroteEach old new (audits plan trace report) =
    (rows : List Row) (text : List ℕ) → AreRows plan trace rows → IsReport plan rows text → text ≡ report
WroteEach old new x = Unit {0}

-- whatever run of the trace there is, its report begins with what is written
abbrev pub BeginsEach : List ℕ → List ℕ → Expected → Type 0
BeginsEach old new (replays plan trace) =
    (rows : List Row) (text : List ℕ) → AreRows plan trace rows → IsReport plan rows text → IsCut old new text
BeginsEach old new x = Unit {0}
