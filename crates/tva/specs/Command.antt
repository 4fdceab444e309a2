-- Product: what words ask for.
use Rattle.std.specs.Prelude.{ℕ, List, [], ◌∷◌, map, length, nat_le, String, string_bytes, codes}
use Rattle.std.specs.Prelude.{if◌then◌else◌, None, Some}
use Rattle.std.specs.declared.option.Option.{Option}
use Rattle.std.specs.declared.alloc.Global.{Global}
use Rattle.std.specs.Option.{option_map}
use Rattle.std.specs.Result.{result_ok}
use Rattle.std.specs.Str.{bytes_eq}
use Rattle.hex.specs.Hex.{decode_of}
use Rattle.tva_base.specs.Decimal.{decimal_of}
use Rattle.tva_base.specs.Options.{◌>>=◌}

-- a command, with the names of its files, the bytes of its shim, or a seed and a count of rows
pub data Command : Type 0 where
  replay : List ℕ → List ℕ → Command
  check : List ℕ → Command
  shim : List ℕ → Command
  gen : ℕ → ℕ → List ℕ → Command
  audit : List ℕ → List ℕ → List ℕ → Command

-- the words as bytes
abbrev pub texts : List (String Global) → List (List ℕ)
texts words = map string_bytes words

-- the bytes that a word of at most 800 hexadecimal digits writes, two digits each
unfoldable pub bytes_of_hex : List ℕ → Option (List ℕ)
bytes_of_hex word = if nat_le (length word) 800 then result_ok (decode_of word) else None

-- the command that generates a trace: a seed of 64 bits, and at most 500,000 rows
abbrev pub gen_of : List ℕ → List ℕ → List ℕ → Option Command
gen_of seed count config = do
  number ← decimal_of seed 18446744073709551615
  rows ← decimal_of count 500000
  Some (gen number rows config)

-- the command that the words are
abbrev pub command_of : List (List ℕ) → Option Command
command_of (word ∷ one ∷ two ∷ three ∷ []) =
    if bytes_eq word (codes "gen") then gen_of one two three
    else if bytes_eq word (codes "audit") then Some (audit one two three)
    else None
command_of (word ∷ config ∷ trace ∷ []) = if bytes_eq word (codes "replay") then Some (replay config trace) else None
command_of (word ∷ name ∷ []) =
    if bytes_eq word (codes "check") then Some (check name)
    else if bytes_eq word (codes "shim") then option_map shim (bytes_of_hex name)
    else None
command_of words = None
