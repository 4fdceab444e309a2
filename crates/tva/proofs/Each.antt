-- Each run of a trace that is replayed has what is written.
use Rattle.tva.proofs.Common.{ℕ, List, ◌++◌, None, Ok, ◌≡◌, ◌∙◌, ap, subst, inl, inr, IfSome, HeldByName, Config, IsConfig, first_bad, SaidRow, rows_of, WroteAll, WrotePart, Expected, audits, replays, IsCut, wanted, same_report}
use Rattle.tva.specs.Each.{BeginsEach, WroteEach}
use Rattle.tva.proofs.Replays.{cut_of_nothing, of_rows}
use Rattle.tva.proofs.Wants.{HoldsOfEach, of_wanted}

module _ (old new : List ℕ) where
  -- what is written whole is what each run has
  abbrev pub IsOne : Expected → Type 0
  IsOne x = WroteAll old new x → WroteEach old new x

  one_of_trace : (plan : Config) (trace : List ℕ) (said : List SaidRow) → IsConfig plan → rows_of plan trace ≡ Ok said → IsOne (replays plan trace)
  one_of_trace plan trace said valid read (text, (rows, are, has), written) = λ others other theirs report.
      written ∙ ap (λ (xs : List ℕ). old ++ xs) (same_report plan rows valid text other has.report (of_rows plan trace rows valid are other others theirs report))

  one_of_audit : (plan : Config) (trace : List ℕ) (said : List SaidRow) (report : List ℕ) → IsConfig plan → rows_of plan trace ≡ Ok said → first_bad report ≡ None
      → IsOne (audits plan trace report)
  one_of_audit plan trace said report valid read good (text, (rows, are, has, sums, are_sums, same), written) = λ others other theirs its.
      same_report plan rows valid other report (of_rows plan trace rows valid are other others theirs its) has.report

  one_of_each : HoldsOfEach IsOne
  one_of_each = record {
    of_text = λ text wrote. tt;
    of_shim = λ bytes wrote. tt;
    of_trace = one_of_trace;
    of_audit = one_of_audit;
    of_refusal = λ r wrote. tt;
  }

  pub one_of_wanted : (words : List (List ℕ)) (files : HeldByName) → IfSome (wanted files words) IsOne
  one_of_wanted = of_wanted IsOne one_of_each

  -- and a part of it is the first of what each run has
  abbrev pub IsFirst : Expected → Type 0
  IsFirst x = WrotePart old new x → BeginsEach old new x

  first_of_trace : (plan : Config) (trace : List ℕ) (said : List SaidRow) → IsConfig plan → rows_of plan trace ≡ Ok said → IsFirst (replays plan trace)
  first_of_trace plan trace said valid read (inl same) = λ others other theirs report. cut_of_nothing old new other same
  first_of_trace plan trace said valid read (inr (text, (rows, are, begun), cut)) = λ others other theirs report.
      subst (λ (t : List ℕ). IsCut old new t) (same_report plan rows valid text other begun (of_rows plan trace rows valid are other others theirs report)) cut

  first_of_each : HoldsOfEach IsFirst
  first_of_each = record {
    of_text = λ text wrote. tt;
    of_shim = λ bytes wrote. tt;
    of_trace = first_of_trace;
    of_audit = λ plan trace said report valid read good wrote. tt;
    of_refusal = λ r wrote. tt;
  }

  pub first_of_wanted : (words : List (List ℕ)) (files : HeldByName) → IfSome (wanted files words) IsFirst
  first_of_wanted = of_wanted IsFirst first_of_each
