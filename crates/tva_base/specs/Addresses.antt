-- Product: the texts of addresses and prefixes.
use Rattle.std.specs.Prelude.{◌≡◌, ◌≤◌, ℕ, ◌+◌, ◌-◌, ◌*◌, ◌/◌, ◌^◌, ◌==◌, Bool, List, ◌∷◌, ◌++◌, take, drop, position}
use Rattle.std.specs.Prelude.{Some}
use Rattle.std.specs.{declared.option.Option.Option, Option.option_map, Fmt.decimal}
use Rattle.tva_base.specs.declared.addresses.{Address.Address, Prefix.Prefix}
use Rattle.tva_base.specs.Decimal.{plain_decimal_of}
use Rattle.tva_base.specs.Options.{◌>>=◌}

-- what stands before the first such byte, and what stands behind it
unfoldable pub parted : ℕ → List ℕ → Option (List ℕ × List ℕ)
parted byte text = option_map (λ at. (take at text, drop (at + 1) text)) (position (λ b. b == byte) text)

-- a number from 0 to 255
abbrev pub octet_of : List ℕ → Option ℕ
octet_of text = plain_decimal_of text 255

-- the address of four numbers, the highest first
abbrev pub address_from : ℕ → ℕ → ℕ → ℕ → Address
address_from a b c d = record { 0 = ((a * 256 + b) * 256 + c) * 256 + d }

-- the address of a text: four numbers joined by single dots
unfoldable pub address_of : List ℕ → Option Address
address_of text = do
  first ← parted 46 text
  second ← parted 46 first.1
  third ← parted 46 second.1
  a ← octet_of first.0
  b ← octet_of second.0
  c ← octet_of third.0
  d ← octet_of third.1
  Some (address_from a b c d)

-- two texts with a dot between
abbrev pub joined : List ℕ → List ℕ → List ℕ
joined before after = before ++ 46 ∷ after

-- the text of four numbers: their decimal digits, joined by dots
abbrev pub dotted : ℕ → ℕ → ℕ → ℕ → List ℕ
dotted a b c d = joined (decimal a) (joined (decimal b) (joined (decimal c) (decimal d)))

-- the text is that of four numbers from 0 to 255, and the address is theirs
pub record Writes (text : List ℕ) (address : Address) : Type 0 where
  pub a : ℕ
  pub b : ℕ
  pub c : ℕ
  pub d : ℕ
  pub octets : (a ≤ 255) × (b ≤ 255) × (c ≤ 255) × (d ≤ 255)
  pub spelt : text ≡ dotted a b c d
  pub number : address ≡ address_from a b c d

-- an address whose bits past the length are zero
abbrev pub kept : Address → ℕ → Address
kept address bits = record { 0 = address.0 / 2 ^ (32 - bits) * 2 ^ (32 - bits) }

-- the address begins with the prefix
abbrev pub holds : Prefix → Address → Bool
holds prefix address = (kept address prefix.bits).0 == prefix.address.0

-- the prefix of a text: an address, a slash and a length from 0 to 32
unfoldable pub prefix_of : List ℕ → Option Prefix
prefix_of text = do
  parts ← parted 47 text
  address ← address_of parts.0
  bits ← plain_decimal_of parts.1 32
  Some (record { address = kept address bits; bits = bits })
