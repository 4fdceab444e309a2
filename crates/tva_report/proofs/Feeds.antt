-- A text without a bad line has as many line feeds as lines.
use Rattle.tva_report.proofs.Common.{◌≡◌, ℕ, ◌+◌, Bool, cond, List, [], ◌∷◌, ◌++◌, length, None, refl, sym, ◌∙◌, ap, arith, count_by, AllByRecursion, recursion_from_All, sum_by-cons, IsLine, first_bad, is_feed, report_lines, text_of}
use Rattle.tva_report.proofs.Cuts.{HasNoFeed, first_no, rest_no}
use Rattle.tva_report.proofs.LinesBack.{good_are_lines, good_back, line_has_none}

feeds-cons : (b : ℕ) (bs : List ℕ) → count_by is_feed (b ∷ bs) ≡ cond (is_feed b) 1 0 + count_by is_feed bs
feeds-cons b bs = sum_by-cons (λ x. cond (is_feed x) 1 0) b bs

-- a line more in front
line_more : (line rest : List ℕ) → HasNoFeed line → count_by is_feed ((line ++ 10 ∷ []) ++ rest) ≡ 1 + count_by is_feed rest
line_more [] rest h = feeds-cons 10 rest
line_more (b ∷ bs) rest h =
    let all = feeds-cons b ((bs ++ 10 ∷ []) ++ rest) in
    let none : cond {A = ℕ} (is_feed b) 1 0 ≡ 0 = ap (λ (t : Bool). cond {A = ℕ} t 1 0) (first_no b bs h) in
    let more = line_more bs rest (rest_no b bs h) in
    omega (arith, all, none, more)

feeds_made : (lines : List (List ℕ)) → AllByRecursion IsLine lines → count_by is_feed (text_of lines) ≡ length lines
feeds_made [] h = refl
feeds_made (line ∷ lines) h =
    let rest = feeds_made lines h.1 in
    let here = line_more line (text_of lines) (line_has_none line h.0) in
    omega (arith, here, rest)

pub feeds_of_lines : (text : List ℕ) → first_bad text ≡ None → count_by is_feed text ≡ length (report_lines text)
feeds_of_lines text good =
    ap (count_by is_feed) (sym (good_back text good)) ∙ feeds_made (report_lines text) (recursion_from_All IsLine (report_lines text) (good_are_lines text good))
