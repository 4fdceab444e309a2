-- Kit: a tree of addresses by their bits, for the invariant of the places and the functions on it.
use Rattle.std.specs.Prelude.{◌≡◌, ℕ, zero, suc, ◌/◌, ◌%◌, ◌<◌, ◌==◌, Bool, if◌then◌else◌, List, length, map, slice_index_or, slice_set, Option, Some, None, option_and_then}
use Rattle.tva_sender.specs.declared.places.{Node.Node, Hint.Hint, End.End}
use Rattle.tva_sender.specs.declared.places.End.TheVariants.{Found, Missing}
use Rattle.tva_sender.specs.Places.{IsFirstAt}

abbrev pub addresses_of : List Node → List ℕ
addresses_of ns = map (λ n. n.address) ns

-- an address without branches
abbrev pub leaf : ℕ → Node
leaf a = record { address = a; low = None; high = None }

-- the node at a place
abbrev pub node : List Node → ℕ → Node
node ns i = slice_index_or ns i (leaf 0)

-- where a branch leads
abbrev pub branch : Bool → Node → Option ℕ
branch high n = if high then n.high else n.low

-- the same node with that branch leading there
abbrev pub with_branch : Node → Bool → ℕ → Node
with_branch n high to =
    if high then record { address = n.address; low = n.low; high = Some to }
    else record { address = n.address; low = Some to; high = n.high }

-- an address without so many of its lowest bits
abbrev pub bits_past : ℕ → ℕ → ℕ
bits_past a zero = a
bits_past a (suc depth) = bits_past a depth / 2

-- the branch that a walk to the address takes after so many steps
abbrev pub is_high : ℕ → ℕ → Bool
is_high a depth = bits_past a depth % 2 == 1

-- where that step leads from a node: none leads away from the address itself
abbrev pub step : Node → ℕ → ℕ → ℕ → Option ℕ
step n a depth at = if n.address == a then Some at else branch (is_high a depth) n

-- where so many steps lead from the first place
abbrev pub spot : List Node → ℕ → ℕ → Option ℕ
spot ns a zero = Some 0
spot ns a (suc depth) = option_and_then (λ at. step (node ns at) a depth at) (spot ns a depth)

-- branches lead to later places, and steps to each address
pub record IsTree (ns : List Node) : Type 0 where
  pub later : (i j : ℕ) (high : Bool) → i < length ns → branch high (node ns i) ≡ Some j → (i < j) × (j < length ns)
  pub reached : (i : ℕ) → i < length ns → (depth : ℕ) × (spot ns (node ns i).address depth ≡ Some i)

-- steps to the address end at that place, since its next branch leads nowhere
pub record IsMissing (ns : List Node) (a at : ℕ) (high : Bool) : Type 0 where
  pub within : at < length ns
  pub other : (node ns at).address ≡ a → ⊥
  pub depth : ℕ
  pub here : spot ns a depth ≡ Some at
  pub turn : high ≡ is_high a depth
  pub nowhere : branch high (node ns at) ≡ None

abbrev pub IsEnd : List Node → ℕ → End → Type 0
IsEnd ns a (Found at) = (at < length ns) × ((node ns at).address ≡ a)
IsEnd ns a (Missing at high) = IsMissing ns a at high

-- the branch at which steps to the address end leads to the place past the last
pub record IsLed (ns : List Node) (a : ℕ) (led : List Node) : Type 0 where
  pub at : ℕ
  pub high : Bool
  pub missing : IsMissing ns a at high
  pub is : led ≡ slice_set ns at (with_branch (node ns at) high (length ns))

-- what is remembered of an address is its place
abbrev pub IsRecent : List ℕ → Option Hint → Type 0
IsRecent addresses None = Unit {0}
IsRecent addresses (Some hint) = IsFirstAt hint.address addresses hint.place
