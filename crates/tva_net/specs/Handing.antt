-- Kit: how what nodes have is handed on, node by node.
use Rattle.std.specs.Prelude.{◌≡◌, ℕ, ◌<◌, List, All, length, Option, Some, None, flat_map, slice_index_or}
use Rattle.tva_base.specs.declared.event.Event.{Event}
use Rattle.tva_base.specs.declared.packet.Time.{Time}
use Rattle.tva_run.specs.Joins.{NeverFalls, from_source}
use Rattle.tva_node.specs.States.{NodeState, news}
use Rattle.tva_run.specs.Report.{event_time}
use Rattle.tva_net.specs.News.{HasNone, HasNoneBefore, HasWorkAt, of_place}

-- what the nodes in these places have, one node after another
abbrev pub picked : {X : Type 0} → (NodeState → List X) → List NodeState → List ℕ → List X
picked has nodes places = flat_map (of_place has nodes) places

-- all news are those of the node in that place
abbrev pub IsOnly : List NodeState → List ℕ → ℕ → Type 0
IsOnly nodes places place = (d : NodeState) → picked news nodes places ≡ news (slice_index_or nodes place d)

-- the same events by their times; those at one time stand as they stood
pub record IsByTime (told ordered : List Event) : Type 0 where
  pub times : NeverFalls event_time ordered
  pub ties : (time : ℕ) → from_source event_time time ordered ≡ from_source event_time time told

-- the node in that place has work at that time, and none has before; none where none has up to its horizon
abbrev pub IsFirstDue : List NodeState → Option (ℕ × Time) → Type 0
IsFirstDue nodes None = All HasNone nodes
IsFirstDue nodes (Some due) =
    (due.0 < length nodes) × ((d : NodeState) → HasWorkAt due.1.0 (slice_index_or nodes due.0 d))
    × All (HasNoneBefore due.1.0) nodes
