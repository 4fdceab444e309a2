-- Product: what a load may answer.
use Rattle.std.specs.Prelude.{◌≡◌, ◌⊎◌, ℕ, ◌+◌, ◌<◌, ◌≤◌, List, length, IfSome, IsSomeAnd, None, Some}
use Rattle.std.specs.declared.option.Option.{Option}
use Rattle.tva_outside.specs.{declared.shelf.Loaded.Loaded, Faults.Rose}
use Rattle.tva_outside.specs.declared.shelf.Loaded.TheVariants.{Bytes, Failed, TooLarge, OutOfMemory}
pub use Rattle.tva_outside.specs.Held.{HeldByName, bytes_at}

-- it is told that nothing is held under the name
abbrev pub IsMissing : Option HeldByName → List ℕ → Type 0
IsMissing held name = IsSomeAnd held (λ files. bytes_at files name ≡ None)

-- where it is told what is held, these bytes are held under the name
abbrev pub IsHeld : Option HeldByName → List ℕ → List ℕ → Type 0
IsHeld held name bytes = IfSome held (λ files. bytes_at files name ≡ Some bytes)

-- where it is told what is held, more than so many bytes are held under the name
abbrev pub HoldsMore : Option HeldByName → List ℕ → ℕ → Type 0
HoldsMore held name max = IfSome held (λ files. IsSomeAnd (bytes_at files name) (λ bytes. max < length bytes))

-- what a load of a name with this limit may answer, where the count of faults went from before to now: it may rise
-- at a failure, and at nothing else
abbrev pub IsLoaded : Option HeldByName → List ℕ → ℕ → ℕ → ℕ → Loaded → Type 0
IsLoaded held name max before now (Bytes bytes) =
    IsHeld held name bytes.items × (length bytes.items ≤ max) × (now ≡ before)
IsLoaded held name max before now Failed = Rose before now ⊎ IsMissing held name
IsLoaded held name max before now (TooLarge k) = HoldsMore held name max × (k ≡ max + 1) × (now ≡ before)
IsLoaded held name max before now OutOfMemory = now ≡ before
