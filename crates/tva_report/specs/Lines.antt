-- Product: the lines of a report: a text is cut behind each of its line feeds. A piece is a line with the line feed
-- that ends it.
use Rattle.std.specs.Prelude.{ℕ, ◌==◌, ◌&&◌, nat_le, not, cond, Bool, List, [], ◌∷◌, ◌++◌, length, map, Option}
use Rattle.std.specs.List.{before_first, flat_map, list_all, list_any, onto_first, position_from}

abbrev pub is_feed : ℕ → Bool
is_feed byte = byte == 10

-- a text in pieces, each with the line feed that ends it; the last may lack one
abbrev pub pieces : List ℕ → List (List ℕ)
pieces [] = []
pieces (byte ∷ rest) = cond (is_feed byte) ((byte ∷ []) ∷ pieces rest) (onto_first byte (pieces rest))

-- what stands before the line feed of a piece, or all of it where it has none
abbrev pub without_feed : List ℕ → List ℕ
without_feed piece = before_first is_feed piece

-- a byte from the blank to `~`
abbrev pub is_printable : ℕ → Bool
is_printable byte = nat_le 32 byte && nat_le byte 126

-- a text may be a line: it has 1 to 255 bytes, each printable
abbrev pub is_line : List ℕ → Bool
is_line text = nat_le 1 (length text) && nat_le (length text) 255 && list_all is_printable text

-- a piece is a line that a line feed ends
abbrev pub is_ended_line : List ℕ → Bool
is_ended_line piece = list_any is_feed piece && is_line (without_feed piece)

-- the number, from 1, of the first piece that is no line, or that no line feed ends
abbrev pub first_bad : List ℕ → Option ℕ
first_bad text = position_from (λ piece. not (is_ended_line piece)) 1 (pieces text)

-- the lines of a text, without their line feeds
abbrev pub report_lines : List ℕ → List (List ℕ)
report_lines text = map without_feed (pieces text)

-- a line with the line feed that ends it
abbrev pub ended : List ℕ → List ℕ
ended line = line ++ 10 ∷ []

-- the text that these lines make
abbrev pub text_of : List (List ℕ) → List ℕ
text_of lines = flat_map ended lines
