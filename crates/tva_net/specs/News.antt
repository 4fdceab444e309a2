-- Crate: what nodes have that was not handed on yet, and when they have work again.
use Rattle.std.specs.Prelude.{◌≡◌, ℕ, ◌<◌, ◌≤◌, List, [], All, length, Option, Some, None, slice_get}
use Rattle.std.specs.Option.{option_map_or}
use Rattle.tva_base.specs.declared.packet.Time.{Time}
use Rattle.tva_run.specs.Entries.{Entry}
use Rattle.tva_run.specs.NodeLog.{in_turn}
use Rattle.tva_run.specs.Next.{IsWorkAt}
use Rattle.tva_node.specs.States.{NodeState, StandsFor}

-- ## news

-- what the node in that place has
abbrev pub of_place : {X : Type 0} → (NodeState → List X) → List NodeState → ℕ → List X
of_place has nodes place = option_map_or has (slice_get nodes place) []

-- a node has told and handed over all
pub record HasNoNews (v : NodeState) : Type 0 where
  pub told : v.gone.told ≡ length v.events
  pub sent : v.gone.sent ≡ length v.sendings

-- ## times

-- at that time, up to its horizon, there is work at the node that isn't done yet
abbrev pub HasWorkAt : ℕ → NodeState → Type 0
HasWorkAt time v =
    (log : List Entry) → StandsFor v log
    → (time ≤ v.horizon) × IsWorkAt v.site (in_turn v.inbox) log v.worked_to time

-- up to its horizon there is none
abbrev pub HasNone : NodeState → Type 0
HasNone v =
    (log : List Entry) (time : ℕ) → StandsFor v log → time ≤ v.horizon
    → IsWorkAt v.site (in_turn v.inbox) log v.worked_to time → ⊥

-- up to its horizon there is none before that time
abbrev pub HasNoneBefore : ℕ → NodeState → Type 0
HasNoneBefore until v =
    (log : List Entry) (time : ℕ) → StandsFor v log → time ≤ v.horizon → time < until
    → IsWorkAt v.site (in_turn v.inbox) log v.worked_to time → ⊥

-- one of the nodes has work at that time
pub record SomeHasWorkAt (time : ℕ) (nodes : List NodeState) : Type 0 where
  pub place : ℕ
  pub node : NodeState
  pub is_node : slice_get nodes place ≡ Some node
  pub work : HasWorkAt time node

-- the first time at which one of the nodes has work up to its horizon; none where none has
abbrev pub IsFirstTime : List NodeState → Option Time → Type 0
IsFirstTime nodes None = All HasNone nodes
IsFirstTime nodes (Some next) = SomeHasWorkAt next.0 nodes × All (HasNoneBefore next.0) nodes
