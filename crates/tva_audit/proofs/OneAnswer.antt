-- An audit has one answer.
use Rattle.tva_audit.proofs.Common.{◌≡◌, ◌⊎◌, inl, inr, ℕ, ◌+◌, List, Some, None, Result, Ok, Err, refl, sym, ◌∙◌, ap, subst, arith, Config, IsConfig, Row, IsReport, report_of, HasReport, IsPastLimit, Finding, first_difference, report_lines, none_of_same, Audited, Same, Differs, AuditError, BadReport, EventLimit, OutOfMemory, IsAudit, IsDifference}
use Rattle.tva_run.proofs.Reports.{no_more_events, one_list}
use Rattle.tva_run.proofs.Runs.{are_delayed}
use Rattle.tva_audit.specs.Answers.{IsTheAnswer}

module _ (config : Config) (rows : List Row) (valid : IsConfig config) where
  -- there is one report
  pub same_report : (text other : List ℕ) → IsReport config rows text → IsReport config rows other → text ≡ other
  same_report text other a b =
      a.whole ∙ ap (report_of config) (one_list config rows (are_delayed config valid) (config.horizon.0 + 1) a.told b.told a.events b.events) ∙ sym b.whole

  -- a run that has a report doesn't pass its number of events
  within : (text : List ℕ) → HasReport config rows text → IsPastLimit config rows → ⊥
  within text has past =
      let most = no_more_events config rows (are_delayed config valid) past.until past.told has.report.told past.events has.report.events in
      omega (arith, most, has.few, past.more)

  module _ (report : List ℕ) where
    no_difference : HasReport config rows report → (f : Finding) → IsDifference config rows report f → ⊥
    no_difference has f d =
        let same : d.text ≡ report = same_report d.text report d.has.report has.report in
        let none : Some f ≡ None = sym d.first ∙ ap (λ (t : List ℕ). first_difference (report_lines t) (report_lines report)) same ∙ none_of_same 1 (report_lines report) in
        absurd cc

    one_difference : (f g : Finding) → IsDifference config rows report f → IsDifference config rows report g → f ≡ g
    one_difference f g a b =
        let texts : a.text ≡ b.text = same_report a.text b.text a.has.report b.has.report in
        let same : Some f ≡ Some g = sym a.first ∙ ap (λ (t : List ℕ). first_difference (report_lines t) (report_lines report)) texts ∙ b.first in
        cc

    pub the_answer : (answer : Result Audited AuditError) → IsAudit config rows report answer → (answer ≡ Err OutOfMemory) ⊎ IsTheAnswer config rows report answer
    the_answer (Err OutOfMemory) is = inl refl
    the_answer (Err (BadReport k)) is = inr (record {
      bad = λ line. ((λ e. let same : k ≡ line = cc in is ∙ ap (λ (n : ℕ). Some n) same), λ h. let same : Some k ≡ Some line = sym is ∙ h in cc);
      limit = λ most. ((λ e. absurd cc), λ h. let none : Some k ≡ None = sym is ∙ h.0 in absurd cc);
      differs = λ f. ((λ e. absurd cc), λ h. let none : Some k ≡ None = sym is ∙ h.0 in absurd cc);
      same = ((λ s. let e = s.1 in absurd cc), λ h. let none : Some k ≡ None = sym is ∙ h.0 in absurd cc);
    })
    the_answer (Err (EventLimit m)) is = inr (record {
      bad = λ line. ((λ e. absurd cc), λ h. let none : Some line ≡ None = sym h ∙ is.0 in absurd cc);
      limit = λ most. ((λ e. let same : m ≡ most = cc in (is.0, sym same ∙ is.1, is.2)), λ h. ap (λ (n : ℕ). Err (EventLimit n)) (is.1 ∙ sym h.1));
      differs = λ f. ((λ e. absurd cc), λ h. absurd (within h.1.text h.1.has is.2));
      same = ((λ s. let e = s.1 in absurd cc), λ h. absurd (within report h.1 is.2));
    })
    the_answer (Ok (Differs f)) is = inr (record {
      bad = λ line. ((λ e. absurd cc), λ h. let none : Some line ≡ None = sym h ∙ is.0 in absurd cc);
      limit = λ most. ((λ e. absurd cc), λ h. absurd (within is.1.text is.1.has h.2));
      differs = λ g. ((λ e. let same : f ≡ g = cc in (is.0, subst (IsDifference config rows report) same is.1)), λ h. ap (λ (x : Finding). Ok (Differs x)) (one_difference f g is.1 h.1));
      same = ((λ s. let e = s.1 in absurd cc), λ h. absurd (no_difference h.1 f is.1));
    })
    the_answer (Ok (Same sums)) is = inr (record {
      bad = λ line. ((λ e. absurd cc), λ h. let none : Some line ≡ None = sym h ∙ is.0 in absurd cc);
      limit = λ most. ((λ e. absurd cc), λ h. absurd (within report is.1 h.2));
      differs = λ f. ((λ e. absurd cc), λ h. absurd (no_difference is.1 f h.1));
      same = ((λ s. (is.0, is.1)), λ h. (sums, refl, is.2));
    })
