-- Product: what the parts of a command answer: what is found, how a text is written, how a replay and an audit end.
use Rattle.std.specs.Prelude.{◌≡◌, ◌⊎◌, ℕ, List, [], ◌∷◌, ◌++◌, length, take, IfSome, None, Some, Result, Ok, Err}
use Rattle.std.specs.declared.option.Option.{Option}
use Rattle.tva_outside.specs.Held.{HeldByName}
use Rattle.tva_outside.specs.Loads.{Given, Load}
use Rattle.tva_plan.specs.declared.config.Config.{Config}
use Rattle.tva_rows.specs.declared.rows.Row.{Row}
use Rattle.tva_trace.specs.Meaning.{AreRows}
use Rattle.tva_net.specs.declared.kinds.NetError.{NetError}
use Rattle.tva_net.specs.declared.kinds.NetError.TheVariants as error
use Rattle.tva_report.specs.Lines.{first_bad, report_lines}
use Rattle.tva_audit.specs.Audit.{HasSums, IsDifference}
use Rattle.tva_audit.specs.declared.routers.RouterSum.{RouterSum}
use Rattle.tva_audit.specs.declared.audits.AuditError.{AuditError}
use Rattle.tva_audit.specs.declared.audits.AuditError.TheVariants as audit
use Rattle.tva.specs.Audit.{audit_text}
use Rattle.tva.specs.Expected.{Sought}
use Rattle.tva.specs.Given.{AgreeSince, IsTold, OfFiles}
use Rattle.tva_run.specs.Shown.{HasReport, IsBegun, IsCutShort, IsPastLimit}
use Rattle.tva.specs.declared.status.Status as status
use Rattle.tva.specs.declared.status.Status.TheVariants.{Done, Found as Differs, ReadFault, WriteFault, TooLarge}
use Rattle.tva.specs.declared.status.Status.TheVariants.{BadConfig, BadTrace, EventLimit, OutOfMemory, BadReport}

-- the shelf was asked for this name since, once
abbrev pub WasAsked : List Load → List Load → List ℕ → Type 0
WasAsked old new name = (given : Given) × (new ≡ old ++ record { name = name; given = given } ∷ [])

-- that is what is found in any files that agree with what was given since
abbrev pub IsFound : {A : Type 0} → List Load → List Load → (HeldByName → Sought A) → A → Type 0
IsFound old new search x = OfFiles old new (λ files. search files ≡ Ok x)

-- these are the rows of a trace that is found
abbrev pub AreRowsOf : List Load → List Load → (HeldByName → Sought (List ℕ)) → Config → List Row → Type 0
AreRowsOf old new search plan rows = (trace : List ℕ) × IsFound old new search trace × AreRows plan trace rows

-- why it isn't found in such files, but for want of memory
abbrev pub IsNotFound : {A : Type 0} → List Load → List Load → (HeldByName → Sought A) → status.Status → Type 0
IsNotFound old new search ReadFault = OfFiles old new (λ files. search files ≡ Err ReadFault)
IsNotFound old new search (TooLarge k) = OfFiles old new (λ files. search files ≡ Err (TooLarge k))
IsNotFound old new search (BadConfig fault) = OfFiles old new (λ files. search files ≡ Err (BadConfig fault))
IsNotFound old new search (BadTrace fault) = OfFiles old new (λ files. search files ≡ Err (BadTrace fault))
IsNotFound old new search OutOfMemory = Unit {0}
IsNotFound old new search _ = ⊥

-- what the shelf holds agrees with what it gave, at a result or at a status
abbrev pub IsToldOf : {A : Type 0} → Option HeldByName → List Load → List Load → Type 0 → Result A status.Status → Type 0
IsToldOf held old new rose (Ok x) = IfSome held (AgreeSince old new)
IsToldOf held old new rose (Err s) = IsTold held old new rose s

-- the first bytes of the text, some or all, are written
abbrev pub IsCut : List ℕ → List ℕ → List ℕ → Type 0
IsCut old new text = (n : ℕ) × (new ≡ old ++ take n text)

-- how writing a text ends
abbrev pub IsWritten : List ℕ → List ℕ → Type 0 → List ℕ → status.Status → Type 0
IsWritten old new rose text Done = new ≡ old ++ text
IsWritten old new rose text WriteFault = rose × IsCut old new text
IsWritten old new rose text OutOfMemory = IsCut old new text
IsWritten old new rose text _ = ⊥

-- the first bytes of what a replay begins, some or all, are written
abbrev pub WroteBegun : Config → List Row → List ℕ → List ℕ → Type 0
WroteBegun plan rows old new = (text : List ℕ) × IsBegun plan rows text × IsCut old new text

-- the lines of the windows before the one in which a replay passes its number of events are written
abbrev pub WroteCutShort : Config → List Row → ℕ → List ℕ → List ℕ → Type 0
WroteCutShort plan rows most old new =
    (most ≡ plan.max_events) × ((text : List ℕ) × IsCutShort plan rows text × (new ≡ old ++ text))

-- how the replay of rows under a plan ends
abbrev pub IsReplayed : Config → List Row → List ℕ → List ℕ → Type 0 → status.Status → Type 0
IsReplayed plan rows old new rose Done = (text : List ℕ) × HasReport plan rows text × (new ≡ old ++ text)
IsReplayed plan rows old new rose WriteFault = rose × WroteBegun plan rows old new
IsReplayed plan rows old new rose (EventLimit most) = WroteCutShort plan rows most old new
IsReplayed plan rows old new rose OutOfMemory = (new ≡ old) ⊎ WroteBegun plan rows old new
IsReplayed plan rows old new rose _ = ⊥

-- how it ends where the network comes to an error
abbrev pub ended_by : NetError → status.Status
ended_by (error.EventLimit most) = EventLimit most
ended_by error.OutOfMemory = OutOfMemory

-- the text of the audit of a report, which is that of the run
abbrev pub IsAuditText : Config → List Row → List ℕ → List ℕ → Type 0
IsAuditText plan rows report text =
    HasReport plan rows report
    × (sums : List RouterSum) × HasSums plan rows sums × (text ≡ audit_text plan sums (length (report_lines report)))

-- the first bytes of that text, some or all, are written
abbrev pub WroteAudit : Config → List Row → List ℕ → List ℕ → List ℕ → Type 0
WroteAudit plan rows report old new = (text : List ℕ) × IsAuditText plan rows report text × IsCut old new text

-- how the audit of a report without a bad line ends
abbrev pub EndsAudited : Config → List Row → List ℕ → List ℕ → List ℕ → Type 0 → status.Status
    → Type 0
EndsAudited plan rows report old new rose Done =
    (text : List ℕ) × IsAuditText plan rows report text × (new ≡ old ++ text)
EndsAudited plan rows report old new rose (Differs f) = IsDifference plan rows report f × (new ≡ old)
EndsAudited plan rows report old new rose WriteFault = rose × WroteAudit plan rows report old new
EndsAudited plan rows report old new rose (EventLimit most) =
    (most ≡ plan.max_events) × IsPastLimit plan rows × (new ≡ old)
EndsAudited plan rows report old new rose OutOfMemory = (new ≡ old) ⊎ WroteAudit plan rows report old new
EndsAudited plan rows report old new rose _ = ⊥

-- how the audit of a report of rows under a plan ends
abbrev pub IsAudited : Config → List Row → List ℕ → List ℕ → List ℕ → Type 0 → status.Status → Type 0
IsAudited plan rows report old new rose (BadReport line) = (first_bad report ≡ Some line) × (new ≡ old)
IsAudited plan rows report old new rose s = (first_bad report ≡ None) × EndsAudited plan rows report old new rose s

-- how it ends where the audit comes to an error
abbrev pub refused_by : AuditError → status.Status
refused_by (audit.BadReport line) = BadReport line
refused_by (audit.EventLimit most) = EventLimit most
refused_by audit.OutOfMemory = OutOfMemory
