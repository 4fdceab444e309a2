-- Lemmas on texts that are made of lines.
use Rattle.tva_report.proofs.Common.{◌≡◌, ℕ, ◌+◌, ◌≤◌, Bool, true, false, not, List, [], ◌∷◌, ◌++◌, length, map, refl, sym, ◌∙◌, ap, arith, inl, inr, None, All, append_assoc, add-zero, subst, ◌&&◌, nat_le, list_all, list_any, onto_first, position_from, AllByRecursion, cases_Bool, le-leb, eqb-true, ne_eqb, All-weaker, All-map, recursion_from_All, AllPass-from_list_all, list_all-from_AllPass, length-map, map-append, list_any_none, IsLine, IsPrintable, ended, first_bad, is_ended_line, is_feed, is_line, is_printable, pieces, report_lines, text_of, without_feed}
use Rattle.tva_report.proofs.Comparing.{are_lines, both_true, fits_line, some_byte}
use Rattle.tva_report.proofs.Cuts.{HasNoFeed, any_feed-ended, before-cons, pieces_ended, without_feed-ended}

-- ## one line

and_true : (a b : Bool) → a ≡ true → b ≡ true → (a && b) ≡ true
and_true a b h k = rw (h, k) refl

pub line_told : (text : List ℕ) → is_line text ≡ true → IsLine text
line_told text h = let f = fits_line text h in record { some = some_byte text h; short = f.short; printable = f.printable }

printable_passes : (b : ℕ) → IsPrintable b → is_printable b ≡ true
printable_passes b h = and_true (nat_le 32 b) (nat_le b 126) (le-leb 32 b h.0) (le-leb b 126 h.1)

pub line_passes : (text : List ℕ) → IsLine text → is_line text ≡ true
line_passes text h =
    and_true (nat_le 1 (length text) && nat_le (length text) 255) (list_all is_printable text)
    (and_true (nat_le 1 (length text)) (nat_le (length text) 255) (le-leb 1 (length text) h.some) (le-leb (length text) 255 h.short))
    (list_all-from_AllPass is_printable text (All-weaker IsPrintable (λ b. is_printable b ≡ true) printable_passes text h.printable))

no_feed : (b : ℕ) → IsPrintable b → is_feed b ≡ false
no_feed b h = ne_eqb b 10 (λ e. let low = h.0 in absurd (omega arith))

abbrev Printable : List ℕ → Type 0
Printable text = All IsPrintable text

has_none : (text : List ℕ) → Printable text → HasNoFeed text
has_none text h = list_any_none is_feed text (All-weaker IsPrintable (λ b. is_feed b ≡ false) no_feed text h)

pub line_has_none : (text : List ℕ) → IsLine text → HasNoFeed text
line_has_none text h = has_none text h.printable

each_printable : (lines : List (List ℕ)) → AllByRecursion IsLine lines → AllByRecursion Printable lines
each_printable [] h = tt
each_printable (line ∷ lines) h = (h.0.printable, each_printable lines h.1)

-- ## the text that lines make

pub pieces_made : (lines : List (List ℕ)) → AllByRecursion Printable lines → pieces (text_of lines) ≡ map ended lines
pieces_made [] h = refl
pieces_made (line ∷ lines) h =
    rw append_assoc
    (pieces_ended line (text_of lines) (has_none line h.0) ∙ ap (λ ps. ended line ∷ ps) (pieces_made lines h.1))

without_made : (lines : List (List ℕ)) → AllByRecursion Printable lines → map without_feed (map ended lines) ≡ lines
without_made [] h = refl
without_made (line ∷ lines) h = rw (without_feed-ended line (has_none line h.0), without_made lines h.1) refl

-- also of lines that are empty or too long
pub printable_made : (lines : List (List ℕ)) → All (λ line. All IsPrintable line) lines → report_lines (text_of lines) ≡ lines
printable_made lines h = let each = recursion_from_All Printable lines h in rw (pieces_made lines each) (without_made lines each)

pub lines_made : (lines : List (List ℕ)) → All IsLine lines → report_lines (text_of lines) ≡ lines
lines_made lines h = printable_made lines (All-weaker IsLine Printable (λ line is. is.printable) lines h)

made_is_ended : (line : List ℕ) → IsLine line → is_ended_line (ended line) ≡ true
made_is_ended line h = rw (any_feed-ended line, without_feed-ended line (line_has_none line h)) (line_passes line h)

none_made : (lines : List (List ℕ)) (k : ℕ) → AllByRecursion IsLine lines → position_from (λ piece. not (is_ended_line piece)) k (map ended lines) ≡ None
none_made [] k h = refl
none_made (line ∷ lines) k h = rw (made_is_ended line h.0) (none_made lines (k + 1) h.1)

pub good_made : (lines : List (List ℕ)) → All IsLine lines → first_bad (text_of lines) ≡ None
good_made lines h = let each = recursion_from_All IsLine lines h in rw (pieces_made lines (each_printable lines each)) (none_made lines 1 each)

-- ## a text without a bad line

has_feeds : (ps : List (List ℕ)) → list_all is_ended_line ps ≡ true → list_all (list_any is_feed) ps ≡ true
has_feeds [] h = refl
has_feeds (p ∷ ps) h =
    let here = both_true (is_ended_line p) (list_all is_ended_line ps) h in
    and_true (list_any is_feed p) (list_all (list_any is_feed) ps) (both_true (list_any is_feed p) (is_line (without_feed p)) here.0).0 (has_feeds ps here.1)

-- one more byte at the head of the first piece, which a line feed ends
onto_text : (b : ℕ) (bs : List ℕ) (ps : List (List ℕ)) → is_feed b ≡ false → list_all (list_any is_feed) (onto_first b ps) ≡ true → (list_all (list_any is_feed) ps ≡ true → bs ≡ text_of (map without_feed ps)) → b ∷ bs ≡ text_of (map without_feed (onto_first b ps))
onto_text b bs [] n h rest = let e = rw n at h in absurd cc
onto_text b bs (p ∷ ps) n h rest = let e = rw n at h in rw (before-cons b p n) (ap (λ xs. b ∷ xs) (rest e))

pub text_back : (text : List ℕ) → list_all (list_any is_feed) (pieces text) ≡ true → text ≡ text_of (report_lines text)
text_back [] h = refl
text_back (b ∷ bs) h =
    elim (cases_Bool (is_feed b)) [
      | inl a ↦
          let Back : ℕ → Type 0 = λ x. list_all (list_any is_feed) (pieces (x ∷ bs)) ≡ true → x ∷ bs ≡ text_of (report_lines (x ∷ bs)) in
          subst Back (sym (eqb-true b 10 a)) (λ e. ap (λ xs. 10 ∷ xs) (text_back bs e)) h
      | inr a ↦ rw a (onto_text b bs (pieces bs) a (rw a at h) (text_back bs))
    ]

pub lines_told : (ps : List (List ℕ)) → list_all is_ended_line ps ≡ true → All IsLine (map without_feed ps)
lines_told ps h =
    All-map IsLine without_feed ps
    (All-weaker (λ p. is_ended_line p ≡ true) (λ p. IsLine (without_feed p)) (λ p e. line_told (without_feed p) (both_true (list_any is_feed p) (is_line (without_feed p)) e).1) ps (AllPass-from_list_all is_ended_line ps h))

pub good_are_lines : (text : List ℕ) → first_bad text ≡ None → All IsLine (report_lines text)
good_are_lines text h = lines_told (pieces text) (are_lines text h)

pub good_back : (text : List ℕ) → first_bad text ≡ None → text_of (report_lines text) ≡ text
good_back text h = sym (text_back text (has_feeds (pieces text) (are_lines text h)))

-- ## a text that stands in front of another

pieces_before : (lines : List (List ℕ)) (more : List ℕ) → AllByRecursion IsLine lines → pieces (text_of lines ++ more) ≡ map ended lines ++ pieces more
pieces_before [] more h = refl
pieces_before (line ∷ lines) more h =
    ap pieces (append_assoc (ended line) (text_of lines) more ∙ append_assoc line (10 ∷ []) (text_of lines ++ more))
    ∙ pieces_ended line (text_of lines ++ more) (line_has_none line h.0)
    ∙ ap (λ (ps : List (List ℕ)). ended line ∷ ps) (pieces_before lines more h.1)

good_before : (text more : List ℕ) → first_bad text ≡ None → pieces (text ++ more) ≡ map ended (report_lines text) ++ pieces more
good_before text more good =
    ap (λ (t : List ℕ). pieces (t ++ more)) (sym (good_back text good))
    ∙ pieces_before (report_lines text) more (recursion_from_All IsLine (report_lines text) (good_are_lines text good))

pub lines_before : (text more : List ℕ) → first_bad text ≡ None → report_lines (text ++ more) ≡ report_lines text ++ report_lines more
lines_before text more good =
    let lines = report_lines text in
    ap (map without_feed) (good_before text more good) ∙ map-append without_feed (map ended lines) (pieces more)
    ∙ ap (λ (ls : List (List ℕ)). ls ++ report_lines more) (without_made lines (each_printable lines (recursion_from_All IsLine lines (good_are_lines text good))))

bad_from_more : (lines : List (List ℕ)) (ps : List (List ℕ)) (k : ℕ) → AllByRecursion IsLine lines
    → position_from (λ piece. not (is_ended_line piece)) k (map ended lines ++ ps) ≡ position_from (λ piece. not (is_ended_line piece)) (k + length lines) ps
bad_from_more [] ps k h = rw add-zero refl
bad_from_more (line ∷ lines) ps k h =
    let e : (k + 1) + length lines ≡ k + length (line ∷ lines) = omega arith in
    rw (made_is_ended line h.0, bad_from_more lines ps (k + 1) h.1, e) refl

-- the first bad line stands behind a text that has none
pub bad_before : (text more : List ℕ) (k : ℕ) → first_bad text ≡ None
    → position_from (λ piece. not (is_ended_line piece)) k (pieces (text ++ more)) ≡ position_from (λ piece. not (is_ended_line piece)) (k + length (report_lines text)) (pieces more)
bad_before text more k good =
    rw (good_before text more good)
    (bad_from_more (report_lines text) (pieces more) k (recursion_from_All IsLine (report_lines text) (good_are_lines text good)))

-- ## how many lines there are

onto_few : (b : ℕ) (ps : List (List ℕ)) (n : ℕ) → length ps ≤ n → length (onto_first b ps) ≤ n + 1
onto_few b [] n h = omega (arith, h)
onto_few b (p ∷ ps) n h = omega (arith, h)

few_pieces : (text : List ℕ) → length (pieces text) ≤ length text
few_pieces [] = omega arith
few_pieces (b ∷ bs) =
    let rest = few_pieces bs in
    elim (cases_Bool (is_feed b)) [
      | inl a ↦ rw a (omega (arith, rest))
      | inr a ↦ let few = onto_few b (pieces bs) (length bs) rest in rw a (omega (arith, few))
    ]

-- a text has no more lines than bytes
pub few_lines : (text : List ℕ) → length (report_lines text) ≤ length text
few_lines text = let few = few_pieces text in omega (arith, few, length-map (pieces text) without_feed)
