-- What holds of all that words can come to: its runs keep their promises, and it is to end in just one way.
use Rattle.tva.proofs.Common.{◌≡◌, ℕ, ◌+◌, All, Bool, true, false, cond, List, length, Result, Ok, Err, Some, None, IfSome, refl, sym, ◌∙◌, ap, subst, inl, inr, arith, Option, nat_lt, option_map, option_map_or, HeldByName, bytes_at, Config, IsConfig, Row, SaidRow, rows_of, AreRows, rows_are_one, cases_lt, Event, AreEventsTo, report_of, are_delayed, no_more_events, traced_events, Finding, first_difference, first_bad, report_lines, none_of_same, RouterSum, IsDifference, generated, check_line, Command, command_of, replay, check, shim, gen, audit, Expected, writes, shows, replays, audits, refuses, Sought, followed, ◌>>=◌, within_limit, plan_at, trace_at, report_at, comes_to, Ends, EndsAudit, EndsReplay, HasReport, IsPastLimit, IsWithinLimit, wanted, HasOneEnd, Done, ReadFault, TooLarge, BadConfig, BadTrace, EventLimit, BadReport}
use Rattle.std.specs.Result.{result_map_both}
use Rattle.tva_config_entries.specs.declared.faults.ConfigFault.{ConfigFault}
use Rattle.tva_config.specs.Read.{read_of}
use Rattle.tva_config.proofs.ReadValid.{read_valid}
use Rattle.tva_trace.specs.declared.rows.TraceFault.{TraceFault}
use Rattle.tva_trace.proofs.RowsThere.{rows_there}
use Rattle.tva_trace.proofs.RowsValid.{rows_are_valid}
use Rattle.tva_rows.specs.Valid.{AreTraceRows}
use Rattle.tva_laws.proofs.Runs.{run_keeps}
use Rattle.tva_laws.proofs.Given.{given}
use Rattle.tva_laws.proofs.Steady.{honest_regular}
use Rattle.tva_laws.proofs.FilesKept.{keeps, rows_have}
use Rattle.tva_audit.specs.Sums.{IsBelowLimit}
use Rattle.tva_audit.proofs.Budgets.{sums_below}
use Rattle.tva.specs.Network.{OfRows, EachKeepsPromises, EachTakesHonest, EachKeepsFiles, AreSumsBelow}
use Rattle.tva.proofs.Reported.{ends_report, one_report, some_is_there, some_same, text_of_same}
use Rattle.tva.specs.declared.status.Status as status
use Rattle.tva.specs.declared.status.Status.TheVariants.{Found as Differs}

-- ## what holds of each

-- it holds of all texts and refusals, of the replay of each trace that is read under a valid plan, and of its audit with each
-- report without a bad line
pub record HoldsOfEach (P : Expected → Type 0) : Type 0 where
  pub of_text : (text : List ℕ) → P (writes text)
  pub of_shim : (bytes : List ℕ) → P (shows bytes)
  pub of_trace : (plan : Config) (trace : List ℕ) (said : List SaidRow) → IsConfig plan → rows_of plan trace ≡ Ok said → P (replays plan trace)
  pub of_audit : (plan : Config) (trace : List ℕ) (said : List SaidRow) (report : List ℕ) → IsConfig plan → rows_of plan trace ≡ Ok said → first_bad report ≡ None → P (audits plan trace report)
  pub of_refusal : (r : status.Status) → P (refuses r)

-- a report with this first bad line, if any
abbrev good_or_bad : List ℕ → Option ℕ → Sought (List ℕ)
good_or_bad text first = option_map_or (λ line. Err (BadReport line)) first (Ok text)

module _ (P : Expected → Type 0) (holds : HoldsOfEach P) where
  -- a file that is found is judged by its bytes
  of_bytes : {A : Type 0} (max : ℕ) (bytes : List ℕ) (judge : List ℕ → Sought A) (next : A → Expected) → P (followed (judge bytes) next)
      → (b : Bool) → P (followed (cond b (Err (TooLarge (max + 1))) (Ok bytes) >>= judge) next)
  of_bytes max bytes judge next h true = holds.of_refusal (TooLarge (max + 1))
  of_bytes max bytes judge next h false = h

  of_file : {A : Type 0} (max : ℕ) (file : Option (List ℕ)) (judge : List ℕ → Sought A) (next : A → Expected)
      → ((bytes : List ℕ) → P (followed (judge bytes) next))
      → P (followed (within_limit max file >>= judge) next)
  of_file max None judge next h = holds.of_refusal ReadFault
  of_file max (Some bytes) judge next h = of_bytes max bytes judge next (h bytes) (nat_lt max (length bytes))

  of_plan_or_fault : (text : List ℕ) (r : Result Config ConfigFault) (next : Config → Expected) → read_of text ≡ r
      → ((plan : Config) → IsConfig plan → P (next plan))
      → P (followed (result_map_both (λ (plan : Config). plan) BadConfig r) next)
  of_plan_or_fault text (Ok plan) next e h = h plan (read_valid text plan e)
  of_plan_or_fault text (Err fault) next e h = holds.of_refusal (BadConfig fault)

  of_plan_at : (name : List ℕ) (files : HeldByName) (next : Config → Expected) → ((plan : Config) → IsConfig plan → P (next plan))
      → P (followed (plan_at name files) next)
  of_plan_at name files next h =
      of_file 1048576 (bytes_at files name) (λ text. result_map_both (λ (plan : Config). plan) BadConfig (read_of text)) next (λ bytes. of_plan_or_fault bytes (read_of bytes) next refl h)

  of_trace_or_fault : (plan : Config) (text : List ℕ) (r : Result (List SaidRow) TraceFault) (next : List ℕ → Expected) → rows_of plan text ≡ r
      → ((said : List SaidRow) → rows_of plan text ≡ Ok said → P (next text))
      → P (followed (result_map_both (λ (said : List SaidRow). text) BadTrace r) next)
  of_trace_or_fault plan text (Ok said) next e h = h said e
  of_trace_or_fault plan text (Err fault) next e h = holds.of_refusal (BadTrace fault)

  of_trace_at : (name : List ℕ) (files : HeldByName) (plan : Config) (next : List ℕ → Expected)
      → ((text : List ℕ) (said : List SaidRow) → rows_of plan text ≡ Ok said → P (next text))
      → P (followed (trace_at plan name files) next)
  of_trace_at name files plan next h =
      of_file 67108864 (bytes_at files name) (λ text. result_map_both (λ (said : List SaidRow). text) BadTrace (rows_of plan text)) next (λ text. of_trace_or_fault plan text (rows_of plan text) next refl (h text))

  of_report_or_fault : (text : List ℕ) (r : Option ℕ) (next : List ℕ → Expected) → first_bad text ≡ r → (first_bad text ≡ None → P (next text))
      → P (followed (good_or_bad text r) next)
  of_report_or_fault text None next e h = h e
  of_report_or_fault text (Some line) next e h = holds.of_refusal (BadReport line)

  of_report_at : (name : List ℕ) (files : HeldByName) (next : List ℕ → Expected) → ((text : List ℕ) → first_bad text ≡ None → P (next text))
      → P (followed (report_at name files) next)
  of_report_at name files next h =
      of_file 1073741824 (bytes_at files name) (λ text. good_or_bad text (first_bad text)) next (λ text. of_report_or_fault text (first_bad text) next refl (h text))

  of_comes : (files : HeldByName) (c : Command) → P (comes_to c files)
  of_comes files (replay config trace) =
      of_plan_at config files (λ plan. followed (trace_at plan trace files) (replays plan))
      (λ plan valid. of_trace_at trace files plan (replays plan) (λ text said read. holds.of_trace plan text said valid read))
  of_comes files (check config) =
      of_plan_at config files (λ plan. writes (check_line plan)) (λ plan valid. holds.of_text (check_line plan))
  of_comes files (shim bytes) = holds.of_shim bytes
  of_comes files (gen seed count config) =
      of_plan_at config files (λ plan. writes (generated plan seed count)) (λ plan valid. holds.of_text (generated plan seed count))
  of_comes files (audit config trace report) =
      of_plan_at config files (λ plan. followed (trace_at plan trace files) (λ rows. followed (report_at report files) (audits plan rows)))
      (λ plan valid.
      of_trace_at trace files plan (λ rows. followed (report_at report files) (audits plan rows))
      (λ text said read. of_report_at report files (audits plan text) (λ bytes good. holds.of_audit plan text said bytes valid read good)))

  of_command : (files : HeldByName) (c : Option Command) → IfSome (option_map (λ command. comes_to command files) c) P
  of_command files None = tt
  of_command files (Some c) = of_comes files c

  pub of_wanted : (words : List (List ℕ)) (files : HeldByName) → IfSome (wanted files words) P
  of_wanted words files = of_command files (command_of words)

-- ## promises, honest senders and files

-- what holds of the rows of each trace under a valid plan
of_rows : (E : Config → List Row → Type 0) → ((plan : Config) (rows : List Row) → IsConfig plan → AreTraceRows plan rows → E plan rows) → HoldsOfEach (OfRows E)
of_rows E h = record {
  of_text = λ text. tt;
  of_shim = λ bytes. tt;
  of_trace = λ plan trace said valid read rows are. h plan rows valid (rows_are_valid plan trace rows are);
  of_audit = λ plan trace said report valid read good rows are. h plan rows valid (rows_are_valid plan trace rows are);
  of_refusal = λ r. tt;
}

-- every run of a trace that is to be replayed keeps its promises
pub kept_of_wanted : (words : List (List ℕ)) (files : HeldByName) → IfSome (wanted files words) (OfRows EachKeepsPromises)
kept_of_wanted = of_wanted (OfRows EachKeepsPromises) (of_rows EachKeepsPromises (λ plan rows valid are until logs run. run_keeps plan rows until logs valid are run))

-- and takes what honest senders show
pub honest_of_wanted : (words : List (List ℕ)) (files : HeldByName) → IfSome (wanted files words) (OfRows EachTakesHonest)
honest_of_wanted = of_wanted (OfRows EachTakesHonest)
    (of_rows EachTakesHonest (λ plan rows valid are until logs run. honest_regular plan rows until logs valid (given plan rows until logs valid are run) run))

-- and its files
pub files_of_wanted : (words : List (List ℕ)) (files : HeldByName) → IfSome (wanted files words) (OfRows EachKeepsFiles)
files_of_wanted = of_wanted (OfRows EachKeepsFiles)
    (of_rows EachKeepsFiles (λ plan rows valid are until logs run. keeps plan rows until logs valid are.files (rows_have plan rows are) run))

-- ## sums

below_of_each : HoldsOfEach AreSumsBelow
below_of_each = record {
  of_text = λ text. tt;
  of_shim = λ bytes. tt;
  of_trace = λ plan trace said valid read. tt;
  of_audit =
      λ plan trace said report valid read good rows are sums has.
      subst (λ (ss : List RouterSum). All IsBelowLimit ss) (sym has.each)
      (sums_below plan (plan.horizon.0 + 1) has.logs
      (λ node site is. run_keeps plan rows (plan.horizon.0 + 1) has.logs valid (rows_are_valid plan trace rows are) has.run node site is));
  of_refusal = λ r. tt;
}

-- and the sums of an audit are below their limits
pub below_of_wanted : (words : List (List ℕ)) (files : HeldByName) → IfSome (wanted files words) AreSumsBelow
below_of_wanted = of_wanted AreSumsBelow below_of_each

-- ## one end

-- no run is within its number of events and past it
apart : (plan : Config) (rows : List Row) → IsConfig plan → IsWithinLimit plan rows → IsPastLimit plan rows → ⊥
apart plan rows valid (text, has) past =
    omega (arith, has.few, past.more, no_more_events plan rows (are_delayed plan valid) past.until past.told has.report.told past.events has.report.events)

module _ (plan : Config) (trace : List ℕ) (rows : List Row) (valid : IsConfig plan) (are : AreRows plan trace rows) where
  -- as a trace has the rows of just one list
  of_these : (s : status.Status) → Ends s (replays plan trace) → EndsReplay plan rows s
  of_these s (others, theirs, ends) = subst (λ (rs : List Row). EndsReplay plan rs s) (rows_are_one plan trace others rows theirs are) ends

  within_ends : (other : status.Status) → IsWithinLimit plan rows → EndsReplay plan rows other → other ≡ Done
  within_ends Done w o = refl
  within_ends (EventLimit m) w o = absurd (apart plan rows valid w o.1)
  within_ends _ w o = absurd o

  past_ends : (other : status.Status) → IsPastLimit plan rows → EndsReplay plan rows other → other ≡ EventLimit plan.max_events
  past_ends Done p o = absurd (apart plan rows valid o p)
  past_ends (EventLimit m) p o = ap EventLimit o.0
  past_ends _ p o = absurd o

  -- how many events the whole run has decides it
  one_end : (told : List Event) → AreEventsTo plan rows (plan.horizon.0 + 1) told → HasOneEnd (replays plan trace)
  one_end told events = elim (cases_lt plan.max_events (length told)) [
    | inl more ↦
        let past : IsPastLimit plan rows = record { until = plan.horizon.0 + 1; told = told; events = events; more = more } in
        (EventLimit plan.max_events, (rows, are, (refl, past)), λ other o. past_ends other past (of_these other o))
    | inr few ↦
        let within : IsWithinLimit plan rows = (report_of plan told, record { report = record { told = told; events = events; whole = refl }; few = few }) in
        (Done, (rows, are, within), λ other o. within_ends other within (of_these other o))
  ]

  -- ## audits

  module _ (report : List ℕ) (good : first_bad report ≡ None) where
    audit_of_these : (s : status.Status) → Ends s (audits plan trace report) → EndsAudit plan rows report s
    audit_of_these s (others, theirs, ends) = subst (λ (rs : List Row). EndsAudit plan rs report s) (rows_are_one plan trace others rows theirs are) ends

    past_audit : (other : status.Status) → IsPastLimit plan rows → EndsAudit plan rows report other → other ≡ EventLimit plan.max_events
    past_audit Done p o = absurd (apart plan rows valid (report, o) p)
    past_audit (Differs f) p o = absurd (apart plan rows valid (o.text, o.has) p)
    past_audit (EventLimit m) p o = ap EventLimit o.0
    past_audit _ p o = absurd o

    -- the report of the run decides the others
    of_text_of : (text : List ℕ) (f : Finding) → HasReport plan rows text → IsDifference plan rows report f
        → first_difference (report_lines text) (report_lines report) ≡ Some f
    of_text_of text f has found =
        subst (λ (t : List ℕ). first_difference (report_lines t) (report_lines report) ≡ Some f) (one_report plan rows valid found.text text found.has has) found.first

    same_audit : (text : List ℕ) (other : status.Status) → HasReport plan rows text
        → first_difference (report_lines text) (report_lines report) ≡ None → EndsAudit plan rows report other → other ≡ Done
    same_audit text Done has same o = refl
    same_audit text (Differs f) has same o = absurd (some_is_there f (sym (of_text_of text f has o) ∙ same))
    same_audit text (EventLimit m) has same o = absurd (apart plan rows valid (text, has) o.1)
    same_audit text _ has same o = absurd o

    differs_audit : (text : List ℕ) (f : Finding) (other : status.Status) → HasReport plan rows text
        → first_difference (report_lines text) (report_lines report) ≡ Some f → EndsAudit plan rows report other → other ≡ Differs f
    differs_audit text f Done has differs o =
        let same : text ≡ report = one_report plan rows valid text report has o in
        let found : first_difference (report_lines report) (report_lines report) ≡ Some f =
        subst (λ (t : List ℕ). first_difference (report_lines t) (report_lines report) ≡ Some f) same differs in
        absurd (some_is_there f (sym found ∙ none_of_same 1 (report_lines report)))
    differs_audit text f (Differs g) has differs o = ap Differs (some_same (sym (of_text_of text g has o) ∙ differs))
    differs_audit text f (EventLimit m) has differs o = absurd (apart plan rows valid (text, has) o.1)
    differs_audit text f _ has differs o = absurd o

    compared_end : (text : List ℕ) → HasReport plan rows text → (d : Option Finding)
        → first_difference (report_lines text) (report_lines report) ≡ d → HasOneEnd (audits plan trace report)
    compared_end text has None same =
        let is : text ≡ report = text_of_same text report (ends_report plan rows text has) good same in
        (Done, (rows, are, subst (λ (t : List ℕ). HasReport plan rows t) is has), λ other o. same_audit text other has same (audit_of_these other o))
    compared_end text has (Some f) differs =
        (Differs f, (rows, are, record { text = text; has = has; first = differs }), λ other o. differs_audit text f other has differs (audit_of_these other o))

    one_audit : (told : List Event) → AreEventsTo plan rows (plan.horizon.0 + 1) told → HasOneEnd (audits plan trace report)
    one_audit told events = elim (cases_lt plan.max_events (length told)) [
      | inl more ↦
          let past : IsPastLimit plan rows = record { until = plan.horizon.0 + 1; told = told; events = events; more = more } in
          (EventLimit plan.max_events, (rows, are, (refl, past)), λ other o. past_audit other past (audit_of_these other o))
      | inr few ↦
          let text : List ℕ = report_of plan told in
          compared_end text (record { report = record { told = told; events = events; whole = refl }; few = few })
          (first_difference (report_lines text) (report_lines report)) refl
    ]

end_of_trace : (plan : Config) (trace : List ℕ) (said : List SaidRow) → IsConfig plan → rows_of plan trace ≡ Ok said → HasOneEnd (replays plan trace)
end_of_trace plan trace said valid read =
    let found = rows_there plan trace said read in
    let events = traced_events plan found.0 valid (rows_are_valid plan trace found.0 found.1) in
    one_end plan trace found.0 valid found.1 events.0 events.1

end_of_audit : (plan : Config) (trace : List ℕ) (said : List SaidRow) (report : List ℕ) → IsConfig plan → rows_of plan trace ≡ Ok said → first_bad report ≡ None
    → HasOneEnd (audits plan trace report)
end_of_audit plan trace said report valid read good =
    let found = rows_there plan trace said read in
    let events = traced_events plan found.0 valid (rows_are_valid plan trace found.0 found.1) in
    one_audit plan trace found.0 valid found.1 report good events.0 events.1

one_end_of_each : HoldsOfEach HasOneEnd
one_end_of_each = record {
  of_text = λ text. (Done, refl, λ other o. o);
  of_shim = λ bytes. (Done, refl, λ other o. o);
  of_trace = end_of_trace;
  of_audit = end_of_audit;
  of_refusal = λ r. (r, refl, λ other o. o);
}

-- what words come to ends in just one way
pub one_end_of_wanted : (words : List (List ℕ)) (files : HeldByName) → IfSome (wanted files words) HasOneEnd
one_end_of_wanted = of_wanted HasOneEnd one_end_of_each
