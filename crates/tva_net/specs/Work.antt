-- Kit: how the nodes are worked over a window, and over several.
use Rattle.std.specs.Prelude.{◌≡◌, ℕ, ◌+◌, ◌<◌, ◌≤◌, min, nat_lt, List, [], ◌∷◌, ◌++◌, filter}
use Rattle.std.specs.Prelude.{All, flat_map, length, Option, Some, None, slice_index_or, slice_set}
use Rattle.std.specs.List.{AllByRecursion, AllZip}
use Rattle.tva_base.specs.declared.event.Event.{Event}
use Rattle.tva_base.specs.declared.packet.Time.{Time}
use Rattle.tva_base.specs.declared.plan.LinkPlan.{LinkPlan}
use Rattle.tva_plan.specs.declared.config.Config.{Config}
use Rattle.tva_rows.specs.declared.rows.Row.{Row}
use Rattle.tva_run.specs.Joins.{IsJoin}
use Rattle.tva_run.specs.Report.{event_time, event_node}
use Rattle.tva_run.specs.Windows.{Window, given}
use Rattle.tva_node.specs.States.{IsAdvanced, Keeps, NodeState, Stands, news, unsent}
use Rattle.tva_net.specs.Mail.{GotMails, mail_to}
use Rattle.tva_net.specs.News.{HasNoneBefore, HasNoNews, IsFirstTime, of_place}
use Rattle.tva_net.specs.Places.{ArePlaces, IsElsewhere, Rises}
use Rattle.tva_net.specs.Kept.{WorksFor}
use Rattle.tva_net.specs.Nets.{IsWholeRun, WorkState}

-- ## how the work goes on

-- a list, where there is something in it
abbrev pub if_some : List Event → List (List Event)
if_some list = filter (λ events. nat_lt 0 (length events)) (list ∷ [])

-- the work goes on over one more window, in which this happens
pub record AddsWindow (config : Config) (rows : List Row) (windows : List Window) (told list : List Event)
    (work : WorkState) : Type 0 where
  pub window : Window
  pub works : WorksFor config rows (windows ++ window ∷ []) (told ++ list) work
  pub given : given (told ++ list) (windows ++ window ∷ []) ≡ given told windows ++ if_some list

-- over several, in the last of which this happens, and nothing in the others
pub record AddsWindows (config : Config) (rows : List Row) (windows : List Window) (told list : List Event)
    (work : WorkState) : Type 0 where
  pub more : List Window
  pub works : WorksFor config rows (windows ++ more) (told ++ list) work
  pub given : given (told ++ list) (windows ++ more) ≡ given told windows ++ if_some list

-- over several, in which nothing happens
pub record AddsNothing (config : Config) (rows : List Row) (windows : List Window) (told : List Event) (work : WorkState)
    : Type 0 where
  pub more : List Window
  pub works : WorksFor config rows (windows ++ more) told work
  pub given : given told (windows ++ more) ≡ given told windows

-- what holds of the run for which the work stands, whatever that is
abbrev pub OfEachRun : (Config → List Row → List Window → List Event → Type 0) → WorkState → Type 0
OfEachRun P work =
    (config : Config) (rows : List Row) (windows : List Window) (told : List Event)
    → WorksFor config rows windows told work → P config rows windows told

-- it stands for some run
abbrev pub CanWork : WorkState → Type 0
CanWork work =
    (config : Config) × (rows : List Row) × (windows : List Window) × (told : List Event)
    × WorksFor config rows windows told work

-- the next window was worked, in which this happens, or there is none
abbrev pub WorksOn : WorkState → Option (List Event) → WorkState → Type 0
WorksOn old None new =
    (new ≡ old) × OfEachRun (λ config rows windows told. IsWholeRun config rows windows told new.nodes) old
WorksOn old (Some list) new =
    (old.worked_to < new.worked_to) × (new.worked_to ≤ new.horizon + 1) × (new.horizon ≡ old.horizon)
    × OfEachRun (λ config rows windows told. AddsWindow config rows windows told list new) old

-- the next windows were worked up to one in which this happens, or all that are left
abbrev pub WorksUpTo : WorkState → Option (List Event) → WorkState → Type 0
WorksUpTo old None new =
    OfEachRun (λ config rows windows told. (passed : AddsNothing config rows windows told new)
    × IsWholeRun config rows (windows ++ passed.more) told new.nodes) old
WorksUpTo old (Some list) new =
    (0 < length list) × OfEachRun (λ config rows windows told. AddsWindows config rows windows told list new) old

-- ## one window

-- a window's end, where the nodes' next time is its start
pub record EndsWindow (work : WorkState) (until : ℕ) : Type 0 where
  pub config : Config
  pub rows : List Row
  pub windows : List Window
  pub told : List Event
  pub works : WorksFor config rows windows told work
  pub start : Time
  pub first : IsFirstTime work.nodes (Some start)
  pub ends : until ≡ min (start.0 + work.span) (work.horizon + 1)

-- the nodes can be worked up to a time as over a window
abbrev pub CanBeWorked : ℕ → ℕ → List LinkPlan → List NodeState → Type 0
CanBeWorked until horizon links nodes =
    (span worked_to : ℕ)
    × EndsWindow (record { horizon = horizon; links = links; span = span; nodes = nodes; worked_to = worked_to }) until

-- a node can be worked up to a time
abbrev pub CanGoTo : ℕ → NodeState → Type 0
CanGoTo until v = (v.worked_to ≤ until) × (until ≤ v.horizon + 1)

-- at a node nothing is left to be done before a time
pub record IsThrough (until : ℕ) (v : NodeState) : Type 0 where
  pub stands : Stands v
  pub worked_to : v.worked_to ≤ until
  pub rests : HasNoneBefore until v

-- the node in a place was worked up to a time, and nothing else happened
pub record IsWorkedAt (until place : ℕ) (olds news : List NodeState) : Type 0 where
  pub node : NodeState
  pub written : news ≡ slice_set olds place node
  pub advanced : (d : NodeState) → IsAdvanced until (slice_index_or olds place d) node
  pub keeps : (d : NodeState) → Keeps (slice_index_or olds place d) node

-- all places of so many nodes
pub record AreAllPlaces (count : ℕ) (places : List ℕ) : Type 0 where
  pub placed : ArePlaces count places
  pub all : (place : ℕ) → place < count → IsElsewhere places place → ⊥

-- a place is put among others
pub record IsPutAmong (place : ℕ) (old new : List ℕ) : Type 0 where
  pub rises : Rises new
  pub within : (count : ℕ) → place < count → AllByRecursion (λ other. other < count) old
      → AllByRecursion (λ other. other < count) new
  pub elsewhere : (other : ℕ) → IsElsewhere new other → (place ≡ other → ⊥) × IsElsewhere old other

-- nothing is left to be done before a time at any node, and nothing happened to nodes that aren't in these places
pub record AreThrough (until : ℕ) (olds news : List NodeState) (places : List ℕ) : Type 0 where
  pub each : AllByRecursion (IsThrough until) news
  pub placed : ArePlaces (length news) places
  pub others : (place : ℕ) (d : NodeState) → place < length news → IsElsewhere places place
      → slice_index_or news place d ≡ slice_index_or olds place d

-- the nodes were worked up to a time, what they told is this list, and what they sent was posted
pub record AreWorked (until horizon : ℕ) (links : List LinkPlan) (olds : List NodeState) (list : List Event)
    (new : List NodeState) : Type 0 where
  pub mids : List NodeState
  pub through : AllByRecursion (IsThrough until) mids
  pub kept : AllZip Keeps olds mids
  pub told : IsJoin event_time event_node (of_place news mids) list
  pub mail : GotMails (mail_to horizon links (flat_map unsent mids)) mids new
  pub quiet : All HasNoNews new
