-- Product: what a shelf was asked for, and what it gave.
use Rattle.std.specs.Prelude.{◌≡◌, ℕ, ◌≤◌, List, All, length, IsSomeAnd, None, Some}
use Rattle.tva_outside.specs.{declared.shelf.Loaded.Loaded, Held.HeldByName, Held.bytes_at}
use Rattle.tva_outside.specs.declared.shelf.Loaded.TheVariants.{Bytes, Failed, TooLarge, OutOfMemory}

-- what was given: bytes, nothing, as the load failed, the least number of bytes that are too many, or nothing for want
-- of memory
pub data Given : Type 0 where
  bytes : List ℕ → Given
  failure : Given
  too_many : ℕ → Given
  no_memory : Given

-- a load: the name that was asked for, and what was given
pub record Load : Type 0 where
  pub name : List ℕ
  pub given : Given

abbrev pub given_by : Loaded → Given
given_by (Bytes b) = bytes b.items
given_by Failed = failure
given_by (TooLarge k) = too_many k
given_by OutOfMemory = no_memory

abbrev pub load_of : List ℕ → Loaded → Load
load_of name loaded = record { name = name; given = given_by loaded }

-- files agree with what a load gave: they hold just these bytes under the name, or at least so many, and nothing where
-- the load failed
abbrev pub Holds : HeldByName → List ℕ → Given → Type 0
Holds files name (bytes b) = bytes_at files name ≡ Some b
Holds files name failure = bytes_at files name ≡ None
Holds files name (too_many k) = IsSomeAnd (bytes_at files name) (λ b. k ≤ length b)
Holds files name no_memory = Unit {0}

-- files agree with all of the loads
abbrev pub Agrees : HeldByName → List Load → Type 0
Agrees files loads = All (λ load. Holds files load.name load.given) loads
