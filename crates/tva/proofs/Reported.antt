-- The report of a run as lines: there is one, a line feed ends it, and a report of the same lines is the same.
use Rattle.tva.proofs.Common.{◌≡◌, ℕ, ◌+◌, true, List, [], ◌∷◌, ◌++◌, refl, sym, ap, ◌∙◌, append_assoc, inl, inr, None, Some, cases_Bool, list_all, list_any, Config, IsConfig, first_bad, is_feed, pieces, report_lines, text_of, first_difference, same_of_none, Row, text_of_totals, lines_of, report_of, totals_of, HasReport, are_delayed, one_list}
use Rattle.tva_report.proofs.LinesBack.{good_back, text_back}

pub some_is_there : {A : Type 0} (x : A) → Some x ≡ None → ⊥
some_is_there x e = cc

pub some_same : {A : Type 0} {x y : A} → Some x ≡ Some y → x ≡ y
some_same e = cc

-- a run has one report
pub one_report : (plan : Config) (rows : List Row) → IsConfig plan → (text other : List ℕ) → HasReport plan rows text → HasReport plan rows other → text ≡ other
one_report plan rows valid text other a b =
    a.report.whole ∙ ap (report_of plan) (one_list plan rows (are_delayed plan valid) (plan.horizon.0 + 1) a.report.told b.report.told a.report.events b.report.events) ∙ sym b.report.whole

-- a text that a line feed ends
abbrev pub IsFed : List ℕ → Type 0
IsFed text = (front : List ℕ) × (text ≡ front ++ 10 ∷ [])

-- a line feed ends each of its pieces, of which there is one at least
record HasFeeds (text : List ℕ) : Type 0 where
  pub first : List ℕ
  pub others : List (List ℕ)
  pub are : pieces text ≡ first ∷ others
  pub fed : list_all (list_any is_feed) (first ∷ others) ≡ true

pieces_fed : (front : List ℕ) → HasFeeds (front ++ 10 ∷ [])
pieces_fed [] = record { first = 10 ∷ []; others = []; are = refl; fed = refl }
pieces_fed (b ∷ bs) =
    let rest = pieces_fed bs in
    elim (cases_Bool (is_feed b)) [
      | inl a ↦ record { first = b ∷ []; others = rest.first ∷ rest.others; are = rw (a, rest.are) refl; fed = rw a rest.fed }
      | inr a ↦ record { first = b ∷ rest.first; others = rest.others; are = rw (a, rest.are) refl; fed = rw a rest.fed }
    ]

pub ends_report : (plan : Config) (rows : List Row) (text : List ℕ) → HasReport plan rows text → IsFed text
unfolding report_of
ends_report plan rows text has = (
  lines_of plan has.report.told ++ text_of_totals (totals_of has.report.told),
  has.report.whole ∙ sym (append_assoc (lines_of plan has.report.told) (text_of_totals (totals_of has.report.told)) (10 ∷ [])),
)

-- a report without a bad line, and of which no line differs from those of such a text, is that text
pub text_of_same : (text report : List ℕ) → IsFed text → first_bad report ≡ None → first_difference (report_lines text) (report_lines report) ≡ None → text ≡ report
text_of_same text report fed good same =
    text_back text (let ps = pieces_fed fed.0 in rw (fed.1, ps.are) ps.fed) ∙ ap text_of (same_of_none 1 (report_lines text) (report_lines report) same) ∙ good_back report good
