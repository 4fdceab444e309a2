-- Product: what a command comes to over files.
use Rattle.std.specs.Prelude.{◌≡◌, ℕ, ◌+◌, List, ◌++◌, length, nat_lt, if◌then◌else◌}
use Rattle.std.specs.Prelude.{Result, Ok, Err, None, Some, codes}
use Rattle.std.specs.declared.option.Option.{Option}
use Rattle.std.specs.Option.{option_map_or}
use Rattle.std.specs.Result.{result_map_both}
use Rattle.tva_outside.specs.Held.{HeldByName, bytes_at}
use Rattle.tva_plan.specs.declared.config.Config.{Config}
use Rattle.tva_config.specs.Read.{read_of}
use Rattle.tva_rows.specs.declared.rows.Row.{Row}
use Rattle.tva_trace.specs.Rows.{rows_of}
use Rattle.tva_trace.specs.Meaning.{AreRows}
use Rattle.tva_shim_text.specs.ShimText.{IsTextOf}
use Rattle.tva_gen.specs.Text.{generated}
use Rattle.tva_audit.specs.Audit.{HasSums, IsDifference}
use Rattle.tva_audit.specs.declared.routers.RouterSum.{RouterSum}
use Rattle.tva_report.specs.Lines.{first_bad, report_lines}
use Rattle.tva.specs.Audit.{audit_text}
use Rattle.tva.specs.Check.{check_line}
use Rattle.tva.specs.Command.{Command, replay, check, shim, gen, audit}
use Rattle.tva_run.specs.Shown.{HasReport, IsWithinLimit, IsPastLimit}
use Rattle.tva.specs.declared.status.Status as status
use Rattle.tva.specs.declared.status.Status.TheVariants.{Done, Found as Differs, ReadFault, TooLarge, BadConfig, BadTrace, BadReport}
use Rattle.tva.specs.declared.status.Status.TheVariants.{EventLimit}

-- a text to write, the text of a shim's bytes, the report of a trace under a plan, the audit of a text as that report,
-- or the status with which it is refused
pub data Expected : Type 0 where
  writes : List ℕ → Expected
  shows : List ℕ → Expected
  replays : Config → List ℕ → Expected
  audits : Config → List ℕ → List ℕ → Expected
  refuses : status.Status → Expected

-- what is sought, or the status with which it is refused
abbrev pub Sought : Type 0 → Type 0
Sought A = Result A status.Status

-- what comes of what is found
abbrev pub followed : {A : Type 0} → Sought A → (A → Expected) → Expected
followed (Ok x) next = next x
followed (Err refusal) next = refuses refusal

infixl 10 ◌>>=◌
abbrev pub ◌>>=◌ : {A B : Type 0} → Sought A → (A → Sought B) → Sought B
(Ok x) >>= next = next x
(Err refusal) >>= next = Err refusal

-- the bytes that are held under a name, at most so many: nothing is held there, or it passes the limit, and one more
-- than that is told
abbrev pub within_limit : ℕ → Option (List ℕ) → Sought (List ℕ)
within_limit max None = Err ReadFault
within_limit max (Some bytes) = if nat_lt max (length bytes) then Err (TooLarge (max + 1)) else Ok bytes

abbrev pub file_at : ℕ → List ℕ → HeldByName → Sought (List ℕ)
file_at max name files = within_limit max (bytes_at files name)

-- the plan of a configuration that is held under a name, in at most 1 MiB, or its first fault
abbrev pub plan_at : List ℕ → HeldByName → Sought Config
plan_at name files = file_at 1048576 name files >>= λ text. result_map_both (λ plan. plan) BadConfig (read_of text)

-- a trace that is held under a name, in at most 64 MiB, where it has rows under a plan, or its first fault
abbrev pub trace_at : Config → List ℕ → HeldByName → Sought (List ℕ)
trace_at plan name files =
    file_at 67108864 name files >>= λ text. result_map_both (λ said. text) BadTrace (rows_of plan text)

-- a report that is held under a name, in at most 1 GiB, where it has no bad line, or its first bad line
abbrev pub report_at : List ℕ → HeldByName → Sought (List ℕ)
report_at name files =
    file_at 1073741824 name files >>= λ text. option_map_or (λ line. Err (BadReport line)) (first_bad text) (Ok text)

-- what a command comes to over what is held, file by file: each is judged before the next one is loaded
abbrev pub comes_to : Command → HeldByName → Expected
comes_to (replay config trace) files =
    followed (plan_at config files) (λ plan. followed (trace_at plan trace files) (replays plan))
comes_to (check config) files = followed (plan_at config files) (λ plan. writes (check_line plan))
comes_to (shim bytes) files = shows bytes
comes_to (gen seed count config) files = followed (plan_at config files) (λ plan. writes (generated plan seed count))
comes_to (audit config trace report) files =
    followed (plan_at config files) (λ plan. followed (trace_at plan trace files)
    (λ rows. followed (report_at report files) (audits plan rows)))

-- the text is what is to be written
abbrev pub IsText : Expected → List ℕ → Type 0
IsText (writes whole) text = text ≡ whole
IsText (shows bytes) text = (line : List ℕ) × IsTextOf bytes line × (text ≡ line ++ codes "\n")
IsText (replays plan trace) text = (rows : List Row) × AreRows plan trace rows × HasReport plan rows text
IsText (audits plan trace report) text =
    (rows : List Row) × AreRows plan trace rows × HasReport plan rows report
    × (sums : List RouterSum) × HasSums plan rows sums × (text ≡ audit_text plan sums (length (report_lines report)))
IsText (refuses r) text = ⊥

-- how the replay of rows ends where nothing fails
abbrev pub EndsReplay : Config → List Row → status.Status → Type 0
EndsReplay plan rows Done = IsWithinLimit plan rows
EndsReplay plan rows (EventLimit most) = (most ≡ plan.max_events) × IsPastLimit plan rows
EndsReplay plan rows _ = ⊥

-- how the audit of a report of rows ends where nothing fails: it is the report, the run has more events than it may
-- have, or a line differs
abbrev pub EndsAudit : Config → List Row → List ℕ → status.Status → Type 0
EndsAudit plan rows report Done = HasReport plan rows report
EndsAudit plan rows report (EventLimit most) = (most ≡ plan.max_events) × IsPastLimit plan rows
EndsAudit plan rows report (Differs f) = IsDifference plan rows report f
EndsAudit plan rows report _ = ⊥

-- how a run ends where nothing fails
abbrev pub Ends : status.Status → Expected → Type 0
Ends s (writes text) = s ≡ Done
Ends s (shows bytes) = s ≡ Done
Ends s (replays plan trace) = (rows : List Row) × AreRows plan trace rows × EndsReplay plan rows s
Ends s (audits plan trace report) = (rows : List Row) × AreRows plan trace rows × EndsAudit plan rows report s
Ends s (refuses r) = s ≡ r
