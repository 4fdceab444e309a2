-- Product: steps that may give nothing, one after another.
use Rattle.std.specs.Prelude.{Option, Some, None}

-- a step after another, and nothing where the first gives nothing
infixl 10 ◌>>=◌
abbrev pub ◌>>=◌ : {A B : Type 0} → Option A → (A → Option B) → Option B
None >>= next = None
(Some x) >>= next = next x
