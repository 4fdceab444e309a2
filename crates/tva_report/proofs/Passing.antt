-- A report is compared with a whole text that it goes on with.
use Rattle.tva_report.proofs.Common.{◌≡◌, ℕ, ◌+◌, List, [], ◌++◌, length, false, None, Some, Option, is_some, sym, ap, ◌∙◌, Ahead, IsPast, Leads, compared, difference_from, first_bad, report_lines}
use Rattle.tva_report.proofs.Differing.{past_same}
use Rattle.tva_report.proofs.LinesBack.{bad_before, lines_before}

-- the report goes on with the text
pub led_on : (before after : Ahead) (wanted : Option (List ℕ)) (text : List ℕ) (count : ℕ) → is_some wanted ≡ false → first_bad text ≡ None → count ≡ length (report_lines text)
    → IsPast before text count after → Leads (compared before wanted) (report_lines text) (compared after wanted) []
led_on before after (Some x) text count none good same past = absurd cc
led_on before after None text count none good same past =
    let lines = report_lines text in
    let there : report_lines before.rest ≡ lines ++ report_lines after.rest = ap report_lines past.bytes ∙ lines_before text after.rest good in
    let number : after.number ≡ before.number + length lines = past.number ∙ ap (λ (n : ℕ). before.number + n) same in
    record {
      bad = rw (past.bytes, number) (bad_before text after.rest before.number good);
      same = λ none more.
          ap (λ (ls : List (List ℕ)). difference_from before.number (lines ++ more) ls) there
          ∙ past_same before.number lines more (report_lines after.rest)
          ∙ ap (λ (n : ℕ). difference_from n more (report_lines after.rest)) (sym number);
    }
