-- Lemmas on comparing a report with lines.
use Rattle.tva_report.proofs.Common.{◌≡◌, ℕ, ◌+◌, ◌≤◌, Bool, true, false, not, List, [], ◌∷◌, ◌++◌, length, refl, sym, ◌∙◌, inl, inr, Some, None, Option, MatchOption, is_some, append-nil, ◌&&◌, nat_le, list_all, position_from, cases_Bool, leb-true, All-weaker, AllPass-from_list_all, IsPrintable, Ahead, IsNext, IsOver, bad_ahead, AreLines, Compared, FitsLine, StandsFor, compared, found_there, outcome, first_difference, first_bad, is_ended_line, is_line, is_printable, pieces, report_lines}
use Rattle.tva_report.specs.declared.pieces.Piece.{Piece}

pub both_true : (a b : Bool) → (a && b) ≡ true → (a ≡ true) × (b ≡ true)
both_true false b h = absurd cc
both_true true b h = (refl, h)

none_bad : (ps : List (List ℕ)) (k : ℕ) → position_from (λ piece. not (is_ended_line piece)) k ps ≡ None → list_all is_ended_line ps ≡ true
none_bad [] k h = refl
none_bad (p ∷ ps) k h =
    elim (cases_Bool (is_ended_line p)) [
      | inl a ↦ rw a (none_bad ps (k + 1) (rw a at h))
      | inr a ↦ let e = rw a at h in absurd cc
    ]

-- a text without a bad line
pub are_lines : (text : List ℕ) → first_bad text ≡ None → AreLines text
are_lines text h = none_bad (pieces text) 1 h

pub some_byte : (text : List ℕ) → is_line text ≡ true → 1 ≤ length text
some_byte text h =
    let outer = both_true (nat_le 1 (length text) && nat_le (length text) 255) (list_all is_printable text) h in
    leb-true 1 (length text) (both_true (nat_le 1 (length text)) (nat_le (length text) 255) outer.0).0

pub fits_line : (text : List ℕ) → is_line text ≡ true → FitsLine text
fits_line text h =
    let outer = both_true (nat_le 1 (length text) && nat_le (length text) 255) (list_all is_printable text) h in
    let inner = both_true (nat_le 1 (length text)) (nat_le (length text) 255) outer.0 in
    record {
      short = leb-true (length text) 255 inner.1;
      printable =
          All-weaker (λ b. is_printable b ≡ true) IsPrintable
          (λ b e. let p = both_true (nat_le 32 b) (nat_le b 126) e in (leb-true 32 b p.0, leb-true b 126 p.1))
          text (AllPass-from_list_all is_printable text outer.1);
    }

-- ## one more line is expected

abbrev pub Came : Ahead → Option Piece → Ahead → Type 0
Came before r after = MatchOption r (IsOver before after) (λ p. IsNext before p after)

lines_next : (before : Ahead) (piece : Piece) (after : Ahead) → IsNext before piece after → report_lines before.rest ≡ piece.text.now ∷ report_lines after.rest
lines_next before piece after next = rw (next.first, next.text) refl

lines_over : (before after : Ahead) → IsOver before after → report_lines before.rest ≡ []
lines_over before after over = rw over.nothing refl

-- ## nothing more is expected

last : (before : Ahead) (wanted : Option (List ℕ)) (r : Option Piece) (after : Ahead) → Came before r after → outcome (compared before wanted) [] ≡ found_there before.number wanted r
last before None None after over = rw (lines_over before after over) refl
last before None (Some p) after next = rw (lines_next before p after next) refl
last before (Some x) None after over = rw (lines_over before after over) refl
last before (Some x) (Some p) after next = rw (lines_next before p after next) refl

pub finished : (before : Ahead) (wanted : Option (List ℕ)) (r : Option Piece) (after : Ahead) → bad_ahead before ≡ None → Came before r after
    → (report : List ℕ) (fed : List (List ℕ)) → StandsFor (compared before wanted) report fed
    → (first_bad report ≡ None) × (found_there before.number wanted r ≡ first_difference fed (report_lines report))
finished before wanted r after good came report fed stands =
    let none : first_bad report ≡ None = stands.bad ∙ good in
    let all : first_difference (fed ++ []) (report_lines report) ≡ outcome (compared before wanted) [] = stands.same none [] in
    (none, sym (last before wanted r after came) ∙ sym all ∙ rw append-nil refl)

-- ## over what was fed

-- the difference is there already
kept : (a : Ahead) (wanted : Option (List ℕ)) (xs ys : List (List ℕ)) → is_some wanted ≡ true → outcome (compared a wanted) xs ≡ outcome (compared a wanted) ys
kept a None xs ys h = absurd cc
kept a (Some x) xs ys h = refl

pub outcome_kept : (c : Compared) (xs ys : List (List ℕ)) → is_some c.wanted ≡ true → outcome c xs ≡ outcome c ys
outcome_kept c xs ys h = kept c.ahead c.wanted xs ys h
