-- Product: what a shelf holds: bytes under names.
use Rattle.std.specs.Prelude.{ℕ, List}
use Rattle.std.specs.{declared.option.Option.Option, Ordering.nat_cmp, Cmp.Lexicographic.slice_cmp}
use Rattle.std.specs.FinMap.{FinMap, get}

-- from names, each as its bytes, to what is held there
abbrev pub HeldByName : Type 0
HeldByName = FinMap (slice_cmp nat_cmp) (List ℕ)

-- the bytes that are held under a name, if any are
abbrev pub bytes_at : HeldByName → List ℕ → Option (List ℕ)
bytes_at files name = get files name
