-- Kit: how many rows of each node begin a transfer, as they are counted while a trace is read.
use Rattle.std.specs.Prelude.{◌≡◌, ◌+◌, ℕ, true, List, [], Option, Some, None, nat_eq}
use Rattle.std.specs.{Option.unwrap_or, HashMap.HashMap, HashMap.get}
use Rattle.tva_trace.specs.declared.said.SaidWhat as saids
use Rattle.tva_trace.specs.declared.said.SaidWhat.TheVariants as say
use Rattle.tva_trace.specs.{declared.said.SaidRow.SaidRow, Rows.filed_by, Rows.has_room, Rows.times}

-- how many are counted at a node
abbrev pub counted : {S : Type 0} → HashMap ℕ ℕ S → ℕ → ℕ
counted files node = unwrap_or (get nat_eq files node) 0

-- one more is counted for each of these nodes
abbrev pub Counts : (ℕ → ℕ) → (ℕ → ℕ) → List ℕ → Type 0
Counts old new nodes = (node : ℕ) → new node ≡ old node + times nodes node

-- the node of what is said, where it begins a transfer
abbrev pub filed_in : Option SaidRow → List ℕ
filed_in None = []
filed_in (Some said) = filed_by said.node said.what

-- a row that begins a transfer finds room
abbrev pub FindsRoom : (ℕ → ℕ) → ℕ → saids.SaidWhat → Type 0
FindsRoom files node (say.Send dst payload) = Unit {0}
FindsRoom files node (say.Inject flow payload shim) = Unit {0}
FindsRoom files node (say.File dst size segment) = has_room files node ≡ true
FindsRoom files node (say.Tick dst) = Unit {0}
