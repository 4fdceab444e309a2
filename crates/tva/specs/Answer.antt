-- Product: which status a command may answer, with what it has written.
use Rattle.std.specs.Prelude.{◌≡◌, ◌⊎◌, ℕ, List, ◌++◌, None, Some}
use Rattle.std.specs.declared.option.Option.{Option}
use Rattle.tva_outside.specs.Loads.{Load}
use Rattle.tva.specs.Command.{Command, shim}
use Rattle.tva.specs.Given.{OfFiles}
use Rattle.tva_rows.specs.declared.rows.Row.{Row}
use Rattle.tva_trace.specs.Meaning.{AreRows}
use Rattle.tva_run.specs.Report.{IsReport}
use Rattle.tva.specs.Expected.{Expected, comes_to, replays, audits, refuses, IsText}
use Rattle.tva.specs.Parts.{IsCut, WroteCutShort}
use Rattle.tva_run.specs.Shown.{IsPastLimit}
use Rattle.tva_audit.specs.Audit.{IsDifference}
use Rattle.tva_report.specs.declared.differences.Finding.{Finding}
use Rattle.tva.specs.declared.status.Status as status
use Rattle.tva.specs.declared.status.Status.TheVariants.{Done, Found, Usage, ReadFault, WriteFault, TooLarge}
use Rattle.tva.specs.declared.status.Status.TheVariants.{BadConfig, BadTrace, EventLimit, OutOfMemory, BadReport}

-- ## what is written

-- the whole of a text that is to be written is written
abbrev pub WroteAll : List ℕ → List ℕ → Expected → Type 0
WroteAll old new x = (text : List ℕ) × IsText x text × (new ≡ old ++ text)

-- a text that is to be written, of a replay the report of its run, which may have too many events
abbrev pub IsBegunText : Expected → List ℕ → Type 0
IsBegunText (replays plan trace) text = (rows : List Row) × AreRows plan trace rows × IsReport plan rows text
IsBegunText x text = IsText x text

-- the first bytes of such a text, some or all, are written
abbrev pub WroteCut : List ℕ → List ℕ → Expected → Type 0
WroteCut old new x = (text : List ℕ) × IsBegunText x text × IsCut old new text

-- nothing is written, or the first bytes of such a text
abbrev pub WrotePart : List ℕ → List ℕ → Expected → Type 0
WrotePart old new x = (new ≡ old) ⊎ WroteCut old new x

-- the lines of all windows before the one in which the run passes its number of events are written; an audit then
-- writes nothing
abbrev pub WroteLines : ℕ → List ℕ → List ℕ → Expected → Type 0
WroteLines most old new (replays plan trace) =
    (rows : List Row) × AreRows plan trace rows × WroteCutShort plan rows most old new
WroteLines most old new (audits plan trace report) =
    (rows : List Row) × AreRows plan trace rows × (most ≡ plan.max_events) × IsPastLimit plan rows × (new ≡ old)
WroteLines most old new x = ⊥

-- an audit found a line that differs
abbrev pub HasFound : Finding → Expected → Type 0
HasFound f (audits plan trace report) = (rows : List Row) × AreRows plan trace rows × IsDifference plan rows report f
HasFound f x = ⊥

-- ## answers

-- what a command answers: of what it comes to, over any files that agree with what was given, whether the sink's count
-- rose, and the bytes taken before and after
abbrev pub Answers : ((Expected → Type 0) → Type 0) → Type 0 → List ℕ → List ℕ → status.Status → Type 0
Answers of rose old new Done = of (WroteAll old new)
Answers of rose old new (Found f) = of (HasFound f) × (new ≡ old)
Answers of rose old new (BadReport line) = of (λ x. x ≡ refuses (BadReport line)) × (new ≡ old)
Answers of rose old new Usage = ⊥
Answers of rose old new ReadFault = of (λ x. x ≡ refuses ReadFault) × (new ≡ old)
Answers of rose old new WriteFault = rose × of (WroteCut old new)
Answers of rose old new (TooLarge k) = of (λ x. x ≡ refuses (TooLarge k)) × (new ≡ old)
Answers of rose old new (BadConfig fault) = of (λ x. x ≡ refuses (BadConfig fault)) × (new ≡ old)
Answers of rose old new (BadTrace fault) = of (λ x. x ≡ refuses (BadTrace fault)) × (new ≡ old)
Answers of rose old new (EventLimit m) = of (λ x. WroteLines m old new x × WrotePart old new x)
Answers of rose old new OutOfMemory = of (WrotePart old new)

-- of what a command comes to, over any files that agree with what was given
abbrev pub OfCommand : List Load → List Load → Command → (Expected → Type 0) → Type 0
OfCommand old new command holds = OfFiles old new (λ files. holds (comes_to command files))

-- of this alone
abbrev pub Just : Expected → (Expected → Type 0) → Type 0
Just x holds = holds x

-- words that need no file: they are no command, or that which shows a shim
abbrev pub NeedsNoFile : Option Command → Type 0
NeedsNoFile None = Unit {0}
NeedsNoFile (Some (shim bytes)) = Unit {0}
NeedsNoFile _ = ⊥

-- a status with which nothing is written
abbrev pub IsRefusal : status.Status → Type 0
IsRefusal Done = ⊥
IsRefusal WriteFault = ⊥
IsRefusal (EventLimit most) = ⊥
IsRefusal OutOfMemory = ⊥
IsRefusal _ = Unit {0}
