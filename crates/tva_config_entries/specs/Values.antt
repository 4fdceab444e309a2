-- Product: the kinds of values of keys: what a value of the document is read as, or nothing where it isn't of the
-- kind.
use Rattle.std.specs.Prelude.{ℕ, ◌+◌, ◌*◌, ◌&&◌, pos, negsuc, ℤ, nat_le, if◌then◌else◌, List, [], ◌∷◌, length, fold, codes, Option, Some, None, option_and_then}
use Rattle.std.specs.{Option.option_map, Result.result_ok, List.list_all, Str.bytes_eq}
use Rattle.hex.specs.Hex.{decode_sized}
use Rattle.toml.specs.Data.{Data, Items, no_items, item, Members, as_integer, as_str, as_array, as_table}
use Rattle.tva_base.specs.declared.plan.PolicyKind as policies
use Rattle.tva_base.specs.declared.plan.PolicyKind.TheVariants as policy
use Rattle.tva_plan.specs.Names.{is_name_byte}

-- a number from low to high
abbrev pub within : ℕ → ℕ → ℤ → Option ℕ
within low high (pos n) = if nat_le low n && nat_le n high then Some n else None
within low high (negsuc n) = None

abbrev pub number : ℕ → ℕ → Data → Option ℕ
number low high d = option_and_then (within low high) (as_integer d)

-- a text that is written as the kind wants it
abbrev pub written : {A : Type 0} → (List ℕ → Option A) → Data → Option A
written kind d = option_and_then kind (as_str d)

-- a name: 1 to 16 letters, digits, `_` and `-`
abbrev pub name_of : List ℕ → Option (List ℕ)
name_of text =
    if nat_le 1 (length text) && nat_le (length text) 16 && list_all is_name_byte text then Some text else None

-- so many bytes, each written as two hexadecimal digits
abbrev pub hex_bytes_of : ℕ → List ℕ → Option (List ℕ)
hex_bytes_of count text = result_ok (decode_sized text count)

-- the number that bytes make, the highest first
abbrev pub number_of_bytes : List ℕ → ℕ
number_of_bytes bytes = fold (λ n b. n * 256 + b) 0 bytes

-- a nonce: 12 hexadecimal digits
abbrev pub hex_nonce_of : List ℕ → Option ℕ
hex_nonce_of text = option_map number_of_bytes (hex_bytes_of 6 text)

-- a word of a policy
abbrev pub policy_of : List ℕ → Option policies.PolicyKind
policy_of text =
    if bytes_eq text (codes "deny") then Some policy.DenyAll
    else if bytes_eq text (codes "client") then Some policy.Client
    else if bytes_eq text (codes "server") then Some policy.Server
    else None

-- the items of an array, each of the same kind
abbrev pub and_first : {A : Type 0} → Option A → Option (List A) → Option (List A)
and_first (Some x) (Some xs) = Some (x ∷ xs)
and_first _ _ = None

abbrev pub items : {A : Type 0} → (Data → Option A) → Items → Option (List A)
items kind no_items = Some []
items kind (item d ds) = and_first (kind d) (items kind ds)

-- an array of at most 1,024 of a kind
abbrev pub short_array : {A : Type 0} → List A → Option (List A)
short_array xs = if nat_le (length xs) 1024 then Some xs else None

abbrev pub few_items : {A : Type 0} → (Data → Option A) → Data → Option (List A)
few_items kind d = option_and_then short_array (option_and_then (items kind) (as_array d))

-- an array of tables
abbrev pub tables : Data → Option (List Members)
tables d = option_and_then (items as_table) (as_array d)
