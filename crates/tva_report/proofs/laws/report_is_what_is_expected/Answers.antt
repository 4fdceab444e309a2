use Rattle.tva_report.proofs.Common.{sym, ◌∙◌, ap, report_lines, text_of}
use Rattle.tva_report.proofs.Differing.{none_of_same, same_of_none}
use Rattle.tva_report.proofs.LinesBack.{good_back, lines_made}
use Rattle.tva_report.proofs.laws.report_is_what_is_expected.Goals as goal

pub returns : goal.returns
returns c = λ report lines good each. (
  λ none. sym (good_back report good) ∙ ap text_of (sym (same_of_none 1 lines (report_lines report) none)),
  λ same. rw (same, lines_made lines each) (none_of_same 1 lines),
)
