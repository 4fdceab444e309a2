-- Crate: how far a report has been compared, and for which report and which lines that stands.
use Rattle.std.specs.Prelude.{◌≡◌, ℕ, ◌≤◌, true, List, [], ◌++◌, length, slice_index_or, All, Option, Some, None}
use Rattle.std.specs.List.{list_all}
use Rattle.std.specs.Option.{option_map, option_map_or}
use Rattle.tva_base.specs.Printable.{IsPrintable}
use Rattle.tva_report.specs.declared.pieces.Piece.{Piece}
use Rattle.tva_report.specs.declared.differences.Finding.{Finding}
use Rattle.tva_report.specs.Lines.{first_bad, is_ended_line, pieces, report_lines}
use Rattle.tva_report.specs.Differences.{difference_from, finding, first_difference}
use Rattle.tva_report.specs.Ahead.{Ahead, bad_ahead, line_there}

-- what is ahead in the report, and the line that is wanted there, where another stands or none
pub record Compared : Type 0 where
  pub ahead : Ahead
  pub wanted : Option (List ℕ)

abbrev pub compared : Ahead → Option (List ℕ) → Compared
compared ahead wanted = record { ahead = ahead; wanted = wanted }

-- the line that is ahead, empty where there is none
abbrev pub line_ahead : Ahead → List ℕ
line_ahead a = slice_index_or (report_lines a.rest) 0 []

-- what the first difference will be, with more lines expected
abbrev pub outcome : Compared → List (List ℕ) → Option Finding
outcome c more =
    option_map_or (λ line. Some (finding c.ahead.number line (line_ahead c.ahead))) c.wanted
    (difference_from c.ahead.number more (report_lines c.ahead.rest))

-- the difference where the next piece is this, or there is none
abbrev pub found_there : ℕ → Option (List ℕ) → Option Piece → Option Finding
found_there number None piece = option_map (λ p. finding number [] p.text.now) piece
found_there number (Some line) piece = Some (finding number line (line_there piece))

-- the one comes with these lines to what the other comes to with those
pub record Leads (c : Compared) (xs : List (List ℕ)) (d : Compared) (ys : List (List ℕ)) : Type 0 where
  pub bad : bad_ahead c.ahead ≡ bad_ahead d.ahead
  pub same : bad_ahead d.ahead ≡ None → (more : List (List ℕ)) → outcome c (xs ++ more) ≡ outcome d (ys ++ more)

-- of this report, compared with these lines: what is ahead tells its first bad line, and where it has none its first
-- difference
pub record StandsFor (c : Compared) (report : List ℕ) (fed : List (List ℕ)) : Type 0 where
  pub bad : first_bad report ≡ bad_ahead c.ahead
  pub same : first_bad report ≡ None
      → (more : List (List ℕ)) → first_difference (fed ++ more) (report_lines report) ≡ outcome c more

-- each piece is a line that a line feed ends
abbrev pub AreLines : List ℕ → Type 0
AreLines text = list_all is_ended_line (pieces text) ≡ true

-- a line, or nothing
pub record FitsLine (text : List ℕ) : Type 0 where
  pub short : length text ≤ 255
  pub printable : All IsPrintable text
