-- Product: which bytes the lines of a report have.
use Rattle.std.specs.Prelude.{ℕ, ◌≤◌, List, length}
use Rattle.std.specs.List.{All}

-- a byte from the blank to `~`
abbrev pub IsPrintable : ℕ → Type 0
IsPrintable byte = (32 ≤ byte) × (byte ≤ 126)

-- the text of a line, without its line feed
pub record IsLine (text : List ℕ) : Type 0 where
  pub some : 1 ≤ length text
  pub short : length text ≤ 255
  pub printable : All IsPrintable text
