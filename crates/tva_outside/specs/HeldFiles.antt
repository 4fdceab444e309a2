-- Crate: a map of files as what is held under each name.
use Rattle.std.specs.Prelude.{◌≡◌, ℕ, ◌+◌, ◌<◌, ◌≤◌, List, [], ◌∷◌, length, IsSomeAnd, None, Some}
use Rattle.std.specs.Prelude.{String, Vec, string_bytes}
use Rattle.std.specs.{declared.alloc.Global.Global, BTreeMap.BTreeMap, FinMap.empty, FinMap.insert}
use Rattle.tva_outside.specs.{declared.shelf.Loaded.Loaded, Held.HeldByName, Held.bytes_at}
use Rattle.tva_outside.specs.declared.shelf.Loaded.TheVariants.{Bytes, Failed, TooLarge, OutOfMemory}

abbrev pub held_of : List (String Global × Vec ℕ Global) → HeldByName
held_of [] = empty
held_of (e ∷ es) = insert (held_of es) (string_bytes e.0) e.1.items

abbrev pub held_in : BTreeMap (String Global) (Vec ℕ Global) → HeldByName
held_in files = held_of files.entries

-- what a copy of what is held under a name, of at most so many bytes, comes to
abbrev pub IsCopy : HeldByName → List ℕ → ℕ → Loaded → Type 0
IsCopy files name max (Bytes bytes) = (bytes_at files name ≡ Some bytes.items) × (length bytes.items ≤ max)
IsCopy files name max Failed = bytes_at files name ≡ None
IsCopy files name max (TooLarge k) = IsSomeAnd (bytes_at files name) (λ bytes. max < length bytes) × (k ≡ max + 1)
IsCopy files name max OutOfMemory = IsSomeAnd (bytes_at files name) (λ bytes. length bytes ≤ max)
