-- What a replay answers, from what it found.
use Rattle.tva.proofs.Common.{take-length, ◌≡◌, inl, inr, ℕ, ◌+◌, List, ◌++◌, length, sym, ap, ◌∙◌, subst, append-nil, refl, Err, flat_map-append, HeldByName, Load, Event, Config, IsConfig, Row, line_of, summary_of, AreRows, rows_are_one, AreEventsTo, IsReport, lines_of, report_of, totals_of, are_delayed, events_begin, same_report, traced_report, Command, replay, AgreeSince, Expected, Sought, comes_to, refuses, plan_at, replays, trace_at, Answers, HasFound, Just, OfCommand, WroteAll, WroteCut, WroteLines, WrotePart, IsCut, IsFound, IsNotFound, IsReplayed, IsBegun, IsCutShort, all_of, Done, Usage, ReadFault, WriteFault, TooLarge, BadConfig, BadTrace, EventLimit, OutOfMemory}
use Rattle.tva.specs.declared.status.Status as status
use Rattle.tva.specs.declared.status.Status.TheVariants.{Found as Differs}
use Rattle.tva_trace.proofs.RowsValid.{rows_are_valid}
use Rattle.tva.proofs.Pieces.{cut_of_longer}

-- the lines of the windows before the one that passes the number of events are the first of all up to its end
pub cut_of_short : (plan : Config) (rows : List Row) (old new : List ℕ) (text : List ℕ) (short : IsCutShort plan rows text) → IsCut old new text
    → IsCut old new (lines_of plan (all_of short.shown ++ short.passing))
cut_of_short plan rows old new text short cut =
    subst (λ (t : List ℕ). IsCut old new t) (sym (flat_map-append (line_of plan) (all_of short.shown) short.passing))
    (cut_of_longer old new (lines_of plan (all_of short.shown)) (lines_of plan short.passing) (subst (λ (t : List ℕ). IsCut old new t) short.lines cut))

-- ## each run's report begins with what is written

module _ (plan : Config) (rows : List Row) (valid : IsConfig plan) where
  -- it begins with the lines of what happened up to some time
  begins_with : (old new : List ℕ) (until : ℕ) (first : List Event) (other : List ℕ) → AreEventsTo plan rows until first → IsReport plan rows other
      → IsCut old new (lines_of plan first) → IsCut old new other
  unfolding report_of
  begins_with old new until first other are report cut =
      let more = events_begin plan rows (are_delayed plan valid) until (plan.horizon.0 + 1) first report.told are.run.within are report.events in
      let rest : List Event = more.0 in
      let lines : lines_of plan report.told ≡ lines_of plan first ++ lines_of plan rest = ap (lines_of plan) more.1 ∙ flat_map-append (line_of plan) first rest in
      let total : List ℕ = summary_of (totals_of report.told) in
      let whole : other ≡ (lines_of plan first ++ lines_of plan rest) ++ total = report.whole ∙ ap (λ (ls : List ℕ). ls ++ total) lines in
      subst (λ (text : List ℕ). IsCut old new text) (sym whole)
      (cut_of_longer old new (lines_of plan first ++ lines_of plan rest) total (cut_of_longer old new (lines_of plan first) (lines_of plan rest) cut))

  begins_of_begun : (old new : List ℕ) (text other : List ℕ) → IsBegun plan rows text → IsReport plan rows other → IsCut old new text → IsCut old new other
  begins_of_begun old new text other (inl report) each cut = subst (λ (t : List ℕ). IsCut old new t) (same_report plan rows valid text other report each) cut
  begins_of_begun old new text other (inr lines) each cut =
      begins_with old new lines.until lines.told other lines.events each (subst (λ (t : List ℕ). IsCut old new t) lines.lines cut)

  begins_of_short : (old new : List ℕ) (text other : List ℕ) → IsCutShort plan rows text → IsReport plan rows other → IsCut old new text → IsCut old new other
  begins_of_short old new text other short each cut =
      begins_with old new short.until (all_of short.shown ++ short.passing) other short.events each (cut_of_short plan rows old new text short cut)

-- where nothing is written every text begins with it
pub cut_of_nothing : (old new : List ℕ) (text : List ℕ) → new ≡ old → IsCut old new text
cut_of_nothing old new text same = (0, same ∙ sym (append-nil old))

-- what is written whole is a cut
pub cut_of_whole : (old new : List ℕ) (text : List ℕ) → new ≡ old ++ text → IsCut old new text
cut_of_whole old new text w = (length text, w ∙ ap (λ (xs : List ℕ). old ++ xs) (sym (take-length text)))

-- ## what the replay of its rows answers

module _ (plan : Config) (trace : List ℕ) (rows : List Row) (valid : IsConfig plan) (are : AreRows plan trace rows) where
  pub of_rows : (text : List ℕ) (others : List Row) → AreRows plan trace others → IsReport plan others text → IsReport plan rows text
  of_rows text others theirs report = subst (λ (rs : List Row). IsReport plan rs text) (rows_are_one plan trace others rows theirs are) report

  -- the first bytes of what is begun are those of the report
  cut_of_begun : (old new : List ℕ) (text : List ℕ) → IsBegun plan rows text → IsCut old new text → WroteCut old new (replays plan trace)
  cut_of_begun old new text begun cut =
      let whole = traced_report plan rows valid (rows_are_valid plan trace rows are) in
      (whole.0, (rows, are, whole.1), begins_of_begun plan rows valid old new text whole.0 begun whole.1 cut)

  cut_at_limit : (old new : List ℕ) (text : List ℕ) → IsCutShort plan rows text → new ≡ old ++ text → WroteCut old new (replays plan trace)
  cut_at_limit old new text short written =
      let whole = traced_report plan rows valid (rows_are_valid plan trace rows are) in
      (whole.0, (rows, are, whole.1), begins_of_short plan rows valid old new text whole.0 short whole.1 (cut_of_whole old new text written))

  pub answers_of_replayed : (w : Type 0) (old new : List ℕ) (s : status.Status) → IsReplayed plan rows old new w s → Answers (Just (replays plan trace)) w old new s
  answers_of_replayed w old new Done (text, has, written) = (text, (rows, are, has), written)
  answers_of_replayed w old new WriteFault (rose, (text, begun, cut)) = (rose, cut_of_begun old new text begun cut)
  answers_of_replayed w old new (EventLimit most) (same, (text, short, written)) =
      ((rows, are, (same, (text, short, written))), inr (cut_at_limit old new text short written))
  answers_of_replayed w old new OutOfMemory (inl same) = inl same
  answers_of_replayed w old new OutOfMemory (inr (text, begun, cut)) = inr (cut_of_begun old new text begun cut)
  answers_of_replayed w old new _ a = absurd a

-- ## files

-- what holds of one thing alone holds of a command, where it comes to that over all files that agree
pub answers_of_just : (first last : List Load) (command : Command) (x : Expected) (w : Type 0) (old new : List ℕ) (s : status.Status)
    → ((files : HeldByName) → AgreeSince first last files → comes_to command files ≡ x)
    → Answers (Just x) w old new s → Answers (OfCommand first last command) w old new s
answers_of_just first last command x w old new Done comes a = λ files agree. subst (λ (y : Expected). WroteAll old new y) (sym (comes files agree)) a
answers_of_just first last command x w old new (Differs f) comes a = (λ files agree. subst (λ (y : Expected). HasFound f y) (sym (comes files agree)) a.0, a.1)
answers_of_just first last command x w old new Usage comes a = a
answers_of_just first last command x w old new WriteFault comes a = (a.0, λ files agree. subst (λ (y : Expected). WroteCut old new y) (sym (comes files agree)) a.1)
answers_of_just first last command x w old new (EventLimit m) comes a = λ files agree. subst (λ (y : Expected). WroteLines m old new y × WrotePart old new y) (sym (comes files agree)) a
answers_of_just first last command x w old new OutOfMemory comes a = λ files agree. subst (λ (y : Expected). WrotePart old new y) (sym (comes files agree)) a
answers_of_just first last command x w old new s comes a = (λ files agree. subst (λ (y : Expected). y ≡ refuses s) (sym (comes files agree)) a.0, a.1)

-- where what is sought isn't found, a command that comes to its refusal then is answered so, and nothing is written
pub answers_of_missing : {A : Type 0} (first between last : List Load) (seek : HeldByName → Sought A) (command : Command) (w : Type 0) (old : List ℕ) (s : status.Status)
    → ((files : HeldByName) → AgreeSince first last files → AgreeSince between last files)
    → ((files : HeldByName) (r : status.Status) → AgreeSince first last files → seek files ≡ Err r → comes_to command files ≡ refuses r)
    → IsNotFound between last seek s → Answers (OfCommand first last command) w old old s
answers_of_missing first between last seek command w old ReadFault here comes a = (λ files agree. comes files ReadFault agree (a files (here files agree)), refl)
answers_of_missing first between last seek command w old (TooLarge k) here comes a = (λ files agree. comes files (TooLarge k) agree (a files (here files agree)), refl)
answers_of_missing first between last seek command w old (BadConfig f) here comes a = (λ files agree. comes files (BadConfig f) agree (a files (here files agree)), refl)
answers_of_missing first between last seek command w old (BadTrace f) here comes a = (λ files agree. comes files (BadTrace f) agree (a files (here files agree)), refl)
answers_of_missing first between last seek command w old OutOfMemory here comes a = λ files agree. inl refl
answers_of_missing first between last seek command w old _ here comes a = absurd a

-- what a replay answers where its plan isn't found
pub replay_no_plan : (first last : List Load) (config trace : List ℕ) (w : Type 0) (old : List ℕ) (s : status.Status)
    → IsNotFound first last (plan_at config) s → Answers (OfCommand first last (replay config trace)) w old old s
replay_no_plan first last config trace w old s a =
    answers_of_missing first first last (plan_at config) (replay config trace) w old s (λ files agree. agree) (λ files r agree e. rw e refl) a

module _ (first between last : List Load) (config trace : List ℕ) (plan : Config)
    (before : (files : HeldByName) → AgreeSince first last files → AgreeSince first between files)
    (behind : (files : HeldByName) → AgreeSince first last files → AgreeSince between last files)
    (found : IsFound first between (plan_at config) plan) where
  -- or where its rows aren't
  pub replay_no_rows : (w : Type 0) (old : List ℕ) (s : status.Status)
      → IsNotFound between last (trace_at plan trace) s → Answers (OfCommand first last (replay config trace)) w old old s
  replay_no_rows w old s a =
      answers_of_missing first between last (trace_at plan trace) (replay config trace) w old s behind
      (λ files r agree e. let here = found files (before files agree) in rw (here, e) refl) a

  -- or where both are
  pub replay_found : (text : List ℕ) (rows : List Row) (w : Type 0) (old new : List ℕ) (s : status.Status) → IsConfig plan → AreRows plan text rows
      → IsFound between last (trace_at plan trace) text → IsReplayed plan rows old new w s → Answers (OfCommand first last (replay config trace)) w old new s
  replay_found text rows w old new s valid are there a =
      answers_of_just first last (replay config trace) (replays plan text) w old new s
      (λ files agree. let here = found files (before files agree) in let read = there files (behind files agree) in rw (here, read) refl)
      (answers_of_replayed plan text rows valid are w old new s a)
