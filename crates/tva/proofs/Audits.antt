-- What an audit answers, from what it found.
use Rattle.tva.proofs.Common.{◌≡◌, ◌⊎◌, inl, inr, ℕ, List, Err, Ok, refl, sym, subst, None, Some, HeldByName, Load, Config, first_bad, Row, AreRows, audit, IsText, audits, comes_to, file_at, plan_at, refuses, trace_at, Answers, Just, OfCommand, AgreeSince, EndsAudited, IsAudited, IsAuditText, IsFound, IsNotFound, IsWritten, Done, WriteFault, EventLimit, OutOfMemory, BadReport}
use Rattle.tva.specs.declared.status.Status as status
use Rattle.tva.specs.declared.status.Status.TheVariants.{Found as Differs}
use Rattle.tva.proofs.Replays.{answers_of_just, answers_of_missing}

-- ## what the audit of a report without a bad line answers

module _ (plan : Config) (trace report : List ℕ) (rows : List Row) (are : AreRows plan trace rows) where
  text_of_audit : (text : List ℕ) → IsAuditText plan rows report text → IsText (audits plan trace report) text
  text_of_audit text (has, sums, are_sums, same) = (rows, are, has, sums, are_sums, same)

  answers_of_ends : (w : Type 0) (old new : List ℕ) (s : status.Status) → EndsAudited plan rows report old new w s
      → Answers (Just (audits plan trace report)) w old new s
  answers_of_ends w old new Done (text, is, written) = (text, text_of_audit text is, written)
  answers_of_ends w old new (Differs f) (is, kept) = ((rows, are, is), kept)
  answers_of_ends w old new WriteFault (rose, (text, is, cut)) = (rose, (text, text_of_audit text is, cut))
  answers_of_ends w old new (EventLimit most) (same, past, kept) = ((rows, are, same, past, kept), inl kept)
  answers_of_ends w old new OutOfMemory (inl same) = inl same
  answers_of_ends w old new OutOfMemory (inr (text, is, cut)) = inr (text, text_of_audit text is, cut)
  answers_of_ends w old new _ a = absurd a

-- how writing the text of an audit ends is how the audit ends
pub audited_of_written : (plan : Config) (rows : List Row) (report old new : List ℕ) (w : Type 0) (text : List ℕ) (s : status.Status)
    → first_bad report ≡ None → IsAuditText plan rows report text → IsWritten old new w text s → IsAudited plan rows report old new w s
audited_of_written plan rows report old new w text Done good is a = (good, (text, is, a))
audited_of_written plan rows report old new w text WriteFault good is a = (good, (a.0, (text, is, a.1)))
audited_of_written plan rows report old new w text OutOfMemory good is a = (good, inr (text, is, a))
audited_of_written plan rows report old new w text _ good is a = absurd a

-- a bad line, or none
record IsBad (report : List ℕ) (old new : List ℕ) (s : status.Status) : Type 0 where
  pub line : ℕ
  pub told : s ≡ BadReport line
  pub first : first_bad report ≡ Some line
  pub kept : new ≡ old

bad_or_none : (plan : Config) (rows : List Row) (report : List ℕ) (old new : List ℕ) (w : Type 0) (s : status.Status)
    → IsAudited plan rows report old new w s
    → IsBad report old new s ⊎ ((first_bad report ≡ None) × EndsAudited plan rows report old new w s)
bad_or_none plan rows report old new w (BadReport k) a = inl (record { line = k; told = refl; first = a.0; kept = a.1 })
bad_or_none plan rows report old new w _ a = inr a

-- ## files

module _ (config trace report text : List ℕ) (plan : Config) (files : HeldByName) (found : plan_at config files ≡ Ok plan) (there : trace_at plan trace files ≡ Ok text) where
  of_good : (bytes : List ℕ) → file_at 1073741824 report files ≡ Ok bytes → first_bad bytes ≡ None → comes_to (audit config trace report) files ≡ audits plan text bytes
  of_good bytes read good = rw (found, there, read, good) refl

  of_bad : (bytes : List ℕ) (line : ℕ) → file_at 1073741824 report files ≡ Ok bytes → first_bad bytes ≡ Some line → comes_to (audit config trace report) files ≡ refuses (BadReport line)
  of_bad bytes line read bad = rw (found, there, read, bad) refl

  of_unread : (refusal : status.Status) → file_at 1073741824 report files ≡ Err refusal → comes_to (audit config trace report) files ≡ refuses refusal
  of_unread refusal read = rw (found, there, read) refl

-- what an audit answers where its plan isn't found
pub audit_no_plan : (first last : List Load) (config trace report : List ℕ) (w : Type 0) (old : List ℕ) (s : status.Status)
    → IsNotFound first last (plan_at config) s → Answers (OfCommand first last (audit config trace report)) w old old s
audit_no_plan first last config trace report w old s a =
    answers_of_missing first first last (plan_at config) (audit config trace report) w old s (λ files agree. agree)
    (λ files r agree e. rw e refl) a

module _ (first between last : List Load) (config trace report : List ℕ) (plan : Config)
    (before : (files : HeldByName) → AgreeSince first last files → AgreeSince first between files)
    (found : IsFound first between (plan_at config) plan) where
  -- or where its rows aren't
  pub audit_no_rows : (w : Type 0) (old : List ℕ) (s : status.Status) → ((files : HeldByName) → AgreeSince first last files → AgreeSince between last files)
      → IsNotFound between last (trace_at plan trace) s → Answers (OfCommand first last (audit config trace report)) w old old s
  audit_no_rows w old s behind a =
      answers_of_missing first between last (trace_at plan trace) (audit config trace report) w old s behind
      (λ files r agree e. let here = found files (before files agree) in rw (here, e) refl) a

  module _ (late : List Load) (text : List ℕ)
      (middle : (files : HeldByName) → AgreeSince first last files → AgreeSince between late files)
      (behind : (files : HeldByName) → AgreeSince first last files → AgreeSince late last files)
      (there : IsFound between late (trace_at plan trace) text) where
    -- or where its report isn't
    pub audit_no_report : (w : Type 0) (old : List ℕ) (s : status.Status)
        → IsNotFound late last (file_at 1073741824 report) s → Answers (OfCommand first last (audit config trace report)) w old old s
    audit_no_report w old s a =
        answers_of_missing first late last (file_at 1073741824 report) (audit config trace report) w old s behind
        (λ files r agree e. of_unread config trace report text plan files (found files (before files agree)) (there files (middle files agree)) r e) a

    -- or where all of them are, one after another
    pub audit_found : (bytes : List ℕ) (rows : List Row) (w : Type 0) (old new : List ℕ) (s : status.Status) → AreRows plan text rows
        → IsFound late last (file_at 1073741824 report) bytes → IsAudited plan rows bytes old new w s → Answers (OfCommand first last (audit config trace report)) w old new s
    audit_found bytes rows w old new s are read a = elim (bad_or_none plan rows bytes old new w s a) [
      | inl bad ↦
          subst (λ (t : status.Status). Answers (OfCommand first last (audit config trace report)) w old new t) (sym bad.told) (
            λ files agree.
                of_bad config trace report text plan files (found files (before files agree)) (there files (middle files agree)) bytes bad.line (read files (behind files agree)) bad.first,
            bad.kept,
          )
      | inr good ↦
          answers_of_just first last (audit config trace report) (audits plan text bytes) w old new s
          (λ files agree.
          of_good config trace report text plan files (found files (before files agree)) (there files (middle files agree)) bytes (read files (behind files agree)) good.0)
          (answers_of_ends plan text bytes rows are w old new s good.1)
    ]
