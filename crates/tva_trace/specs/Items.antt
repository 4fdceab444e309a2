-- Product: what the last field of a row says, by the row's kind.
use Rattle.std.specs.Prelude.{ℕ, ◌/◌, ◌==◌, nat_le, if◌then◌else◌, false, List, [], ◌∷◌, length, Result, Ok, Err, Option, Some, None}
use Rattle.std.specs.{Option.option_map, List.slice_split}
use Rattle.byteorder.specs.Endian.{big_number}
use Rattle.hex.specs.{declared.error.FromHexError.FromHexError, Hex.decode_sized}
use Rattle.tva_base.specs.{declared.packet.Flow.Flow, declared.packet.Rights.Rights, Decimal.decimal_of}
use Rattle.tva_base.specs.{Versions.seconds_max, Versions.units_max, Versions.version_for, Addresses.parted}
use Rattle.tva_base.specs.Options.{◌>>=◌}
use Rattle.tva_shim.specs.{declared.kinds.Shown.Shown, declared.kinds.Kind.Kind, Shims.ShimData}
use Rattle.tva_shim.specs.declared.kinds.Kind.TheVariants as shims
use Rattle.tva_shim.specs.declared.kinds.ReturnInfo.TheVariants as backs
use Rattle.tva_caps.specs.Formula.{precap_of, capability_of}
use Rattle.tva_plan.specs.declared.config.NodePlan.{NodePlan}
use Rattle.tva_trace.specs.declared.rows.RowKind as kinds
use Rattle.tva_trace.specs.declared.rows.RowKind.TheVariants as kind
use Rattle.tva_trace.specs.declared.said.SaidShim as said
use Rattle.tva_trace.specs.declared.said.SaidShim.TheVariants.{Bytes, Built}
use Rattle.tva_trace.specs.Names.{master_named}

-- the bytes that were decoded, if any were
abbrev pub decoded : Result (List ℕ) FromHexError → Option (List ℕ)
decoded (Ok bytes) = Some bytes
decoded (Err e) = None

-- the bytes that so many pairs of hexadecimal digits of either case write, if the text is that
abbrev pub hex_bytes_of : ℕ → List ℕ → Option (List ℕ)
hex_bytes_of count text = decoded (decode_sized text count)

-- a number in so many bytes, each of two digits: a nonce in 6, a capability in 8
abbrev pub hex_number_of : ℕ → List ℕ → Option ℕ
hex_number_of count text = option_map (big_number count) (hex_bytes_of count text)

-- the capability that a router minted in a second for the flow, and that was granted with the rights
unfoldable pub minted_of : List NodePlan → Flow → Rights → List ℕ × List ℕ → Option ℕ
minted_of plans flow rights parts = do
  master ← master_named plans parts.0
  second ← decimal_of parts.1 2000000
  Some (capability_of (precap_of master flow second) rights)

-- an item: sixteen digits, or a router's name and a second with an `@` between them
abbrev pub item_in : List NodePlan → Flow → Rights → List ℕ → Option (List ℕ × List ℕ) → Option ℕ
item_in plans flow rights text None = hex_number_of 8 text
item_in plans flow rights text (Some parts) = minted_of plans flow rights parts

unfoldable pub item_of : List NodePlan → Flow → Rights → List ℕ → Option ℕ
item_of plans flow rights text = item_in plans flow rights text (parted 64 text)

-- each of the items
abbrev pub each_of : List NodePlan → Flow → Rights → List (List ℕ) → Option (List ℕ)
each_of plans flow rights [] = Some []
each_of plans flow rights (item ∷ items) = do
  cap ← item_of plans flow rights item
  caps ← each_of plans flow rights items
  Some (cap ∷ caps)

-- items stand with a `;` between them; an empty text has none
abbrev pub items_in : List ℕ → List (List ℕ)
items_in [] = []
items_in (byte ∷ bytes) = slice_split (λ b. b == 59) (byte ∷ bytes)

-- at most 16 items
abbrev pub few : List (List ℕ) → Option (List (List ℕ))
few items = if nat_le (length items) 16 then Some items else None

unfoldable pub caps_of_items : List NodePlan → Flow → Rights → List ℕ → Option (List ℕ)
caps_of_items plans flow rights text = do
  items ← few (items_in text)
  each_of plans flow rights items

abbrev pub rights_from : ℕ → ℕ → Rights
rights_from n t = record { n = n; t = t }

-- rights that a shim of version 2 can carry
unfoldable pub rights_of : List ℕ → List ℕ → Option Rights
rights_of units seconds = do
  n ← decimal_of units (units_max 2)
  t ← decimal_of seconds (seconds_max 2)
  Some (rights_from n t)

abbrev pub shown_from : ℕ → ℕ → Rights → List ℕ → Shown
shown_from nonce pointer rights caps = record { nonce = nonce; pointer = pointer; rights = rights; caps = caps }

-- what a list or a renewal shows: NONCE/N/T/POINTER/ITEMS
unfoldable pub shown_of : List NodePlan → Flow → List ℕ → Option Shown
shown_of plans flow text = do
  first ← parted 47 text
  second ← parted 47 first.1
  third ← parted 47 second.1
  fourth ← parted 47 third.1
  nonce ← hex_number_of 6 first.0
  rights ← rights_of second.0 third.0
  caps ← caps_of_items plans flow rights fourth.1
  pointer ← decimal_of fourth.0 (length caps)
  Some (shown_from nonce pointer rights caps)

-- the bytes of a raw row: at most 800 digits, two a byte
unfoldable pub raw_of : List ℕ → Option (List ℕ)
raw_of text = if nat_le (length text) 800 then hex_bytes_of (length text / 2) text else None

-- a shim of a version with protocol 6, no mark and no return info
abbrev pub plain_shim : ℕ → Kind → ShimData
plain_shim version k = record { version = version; demoted = false; protocol = 6; kind = k; back = backs.Nothing }

-- what a row's shim is, by the row's kind; a row that sends or ticks has none. The version is 2 only where the
-- rights ask for it
unfoldable pub row_shim : List NodePlan → kinds.RowKind → Flow → List ℕ → Option said.SaidShim
row_shim plans kind.Send flow text = None
row_shim plans kind.File flow text = None
row_shim plans kind.Tick flow text = None
row_shim plans kind.Raw flow text = option_map Bytes (raw_of text)
row_shim plans kind.List flow text =
    option_map (λ shown. Built (plain_shim (version_for shown.rights) (shims.List shown))) (shown_of plans flow text)
row_shim plans kind.Renew flow text =
    option_map (λ shown. Built (plain_shim (version_for shown.rights) (shims.Renewal shown))) (shown_of plans flow text)
row_shim plans kind.Nonce flow text =
    option_map (λ nonce. Built (plain_shim 1 (shims.Nonce nonce))) (hex_number_of 6 text)
