-- Kit: nodes in chunks whose routers are summed at once, for the contracts of the functions that do so.
use Rattle.std.specs.Prelude.{◌≡◌, ℕ, ◌<◌, ◌≤◌, List, length, slice_index_or, Result, IfOk}
use Rattle.std.specs.Fork.{slice_chunk}
use Rattle.std.specs.declared.alloc.AllocError.{AllocError}
use Rattle.std.specs.declared.alloc.Global.{Global}
use Rattle.std.specs.declared.vec.Vec.{Vec}
use Rattle.tva_node.specs.States.{KeepsAll, NodeState}
use Rattle.tva_audit.specs.declared.routers.RouterSum.{RouterSum}
use Rattle.tva_audit.specs.Sums.{sums_told}

-- a node with few events, which it keeps
pub record IsSummable (node : NodeState) : Type 0 where
  pub few : length node.events ≤ 4000000
  pub keeps : KeepsAll node.keeps

-- these are the sums of the chunks of so many nodes
abbrev pub AreParts : ℕ → List NodeState → List (Result (Vec RouterSum Global) AllocError) → Type 0
AreParts size nodes parts =
    (n : ℕ) (d : Result (Vec RouterSum Global) AllocError) → n < length parts
    → IfOk (slice_index_or parts n d) (λ sums. sums.items ≡ sums_told (slice_chunk nodes size n))
