-- Crate: when each node has work next, as numbers at the nodes' places.
use Rattle.std.specs.Prelude.{◌≡◌, ℕ, ◌<◌, List, length, Option, Some, None, slice_index, slice_index_or, slice_set}
use Rattle.tva_base.specs.declared.packet.Time.{Time}
use Rattle.tva_run.specs.Entries.{Entry}
use Rattle.tva_run.specs.NodeLog.{in_turn}
use Rattle.tva_node.specs.States.{IsFirstWork, NodeState, StandsFor}
use Rattle.tva_net.specs.News.{HasWorkAt}

-- the node has work next at that time, or none up to its horizon
abbrev pub IsNext : NodeState → Option Time → Type 0
IsNext v next =
    (log : List Entry) → StandsFor v log → IsFirstWork v.site (in_turn v.inbox) log v.worked_to v.horizon next

-- the number of a next time: past every horizon where there is none
abbrev pub number_of : Option Time → ℕ
number_of None = 1000000000000001
number_of (Some next) = next.0

-- that is the number of the node's next time
abbrev pub IsNoted : ℕ → NodeState → Type 0
IsNoted number v = (next : Option Time) × (number ≡ number_of next) × IsNext v next

-- each node's is at its place
pub record AreNoted (times : List ℕ) (nodes : List NodeState) : Type 0 where
  pub count : length times ≡ length nodes
  pub each : (place : ℕ) (d : NodeState) → place < length nodes
      → IsNoted (slice_index times place) (slice_index_or nodes place d)

-- one more is written, that of the node in a place
pub record IsNotedAt (place : ℕ) (old new : List ℕ) (nodes : List NodeState) : Type 0 where
  pub number : ℕ
  pub written : new ≡ slice_set old place number
  pub noted : (d : NodeState) → IsNoted number (slice_index_or nodes place d)

-- a node has work before a time
abbrev pub HasWorkBefore : ℕ → NodeState → Type 0
HasWorkBefore until v = (time : ℕ) × (time < until) × HasWorkAt time v
