-- Crate: what a cursor over a text has ahead of it, and how far a report has been compared.
use Rattle.std.specs.Prelude.{◌≡◌, ℕ, ◌+◌, ◌≤◌, cond, not, List, [], ◌∷◌, ◌++◌, length, Option}
use Rattle.std.specs.List.{list_any, position_from}
use Rattle.std.specs.Option.{option_map_or}
use Rattle.tva_report.specs.declared.pieces.Piece.{Piece}
use Rattle.tva_report.specs.Lines.{ended, is_ended_line, is_feed, pieces, without_feed}

-- the rest of a text, and the number of its first piece
pub record Ahead : Type 0 where
  pub rest : List ℕ
  pub number : ℕ

abbrev pub ahead : List ℕ → ℕ → Ahead
ahead rest number = record { rest = rest; number = number }

-- the number of the first piece that is no line, or that no line feed ends
abbrev pub bad_ahead : Ahead → Option ℕ
bad_ahead a = position_from (λ piece. not (is_ended_line piece)) a.number (pieces a.rest)

-- nothing is ahead any more
pub record IsOver (before after : Ahead) : Type 0 where
  pub nothing : before.rest ≡ []
  pub same : after ≡ before

-- the bytes of a piece, with its line feed
abbrev pub whole : Piece → List ℕ
whole piece = cond piece.ended (ended piece.text.now) piece.text.now

-- the line of a piece, empty where there is none
abbrev pub line_there : Option Piece → List ℕ
line_there piece = option_map_or (λ p. p.text.now) piece []

-- the next piece, and what is ahead then
pub record IsNext (before : Ahead) (piece : Piece) (after : Ahead) : Type 0 where
  pub first : pieces before.rest ≡ whole piece ∷ pieces after.rest
  pub text : without_feed (whole piece) ≡ piece.text.now
  pub ended : list_any is_feed (whole piece) ≡ piece.ended
  pub bytes : before.rest ≡ whole piece ++ after.rest
  pub some : 1 ≤ length (whole piece)
  pub number : piece.number ≡ before.number
  pub next : after.number ≡ before.number + 1

-- a text is passed, in which there are so many pieces
pub record IsPast (before : Ahead) (text : List ℕ) (count : ℕ) (after : Ahead) : Type 0 where
  pub bytes : before.rest ≡ text ++ after.rest
  pub number : after.number ≡ before.number + count
