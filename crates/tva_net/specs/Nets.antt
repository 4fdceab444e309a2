-- Crate: what a network tells of its run between two windows.
use Rattle.std.specs.Prelude.{◌≡◌, ℕ, ◌<◌, ◌≤◌, List, length, slice_index_or}
use Rattle.std.specs.Prelude.{Option, Some, None}
use Rattle.std.specs.List.{flat_map}
use Rattle.tva_base.specs.declared.event.Event.{Event}
use Rattle.tva_base.specs.declared.event.Totals.{Totals}
use Rattle.tva_base.specs.declared.plan.LinkPlan.{LinkPlan}
use Rattle.tva_plan.specs.declared.config.Config.{Config}
use Rattle.tva_plan.specs.Valid.{IsConfig}
use Rattle.tva_rows.specs.declared.rows.Row.{Row}
use Rattle.tva_rows.specs.Valid.{AreTraceRows}
use Rattle.tva_run.specs.Reaching.{Logs, site_at}
use Rattle.tva_run.specs.Report.{AreEvents, events_at, totals_of}
use Rattle.tva_run.specs.Run.{IsRun, IsRunTo}
use Rattle.tva_run.specs.Windows.{AreWindows, EachBeginsWith, Window}
use Rattle.tva_run.specs.Windows as spans
use Rattle.tva_node.specs.States.{NodeState}
use Rattle.tva_node.specs.States as states
use Rattle.tva_net.specs.declared.kinds.NetError.{NetError}
use Rattle.tva_net.specs.Sums.{AreWithin}

-- ## the run so far

-- what holds of each node by its place
abbrev pub ByPlace : (ℕ → NodeState → Type 0) → List NodeState → Type 0
ByPlace P nodes = (place : ℕ) (d : NodeState) → place < length nodes → P place (slice_index_or nodes place d)

-- a node stays at its site; its events begin with those that it had, and so does what it sent; and it keeps as much of
-- them
pub record GrowsFrom (old new : NodeState) : Type 0 where
  pub site : new.site ≡ old.site
  pub events : states.BeginsWith old.events new.events
  pub sendings : states.BeginsWith old.sendings new.sendings
  pub keeps : new.keeps ≡ old.keeps

-- the nodes, as many as the configuration's, tell what happened in these logs
pub record TellOf (config : Config) (logs : Logs) (nodes : List NodeState) : Type 0 where
  pub count : length nodes ≡ length config.nodes
  pub each : ByPlace (λ place node. node.events ≡ events_at config logs place) nodes

-- what the nodes tell is the run up to a time; these are its events, and these its windows so far
pub record IsRunSoFar (config : Config) (rows : List Row) (windows : List Window) (told : List Event) (until : ℕ)
    (nodes : List NodeState) : Type 0 where
  pub logs : Logs
  pub run : IsRunTo config rows until logs
  pub tell : TellOf config logs nodes
  pub events : AreEvents config logs told
  pub begins : EachBeginsWith config rows windows until

-- what the nodes tell is the run up to the horizon; these are its events, and these all its windows
pub record IsWholeRun (config : Config) (rows : List Row) (windows : List Window) (told : List Event)
    (nodes : List NodeState) : Type 0 where
  pub logs : Logs
  pub run : IsRun config rows logs
  pub tell : TellOf config logs nodes
  pub events : AreEvents config logs told
  pub all : AreWindows config rows logs 0 windows

-- the run of a valid configuration and a trace of it is under way: each node is the one of its place, what the nodes
-- tell is the run up to a time, and what was told is what its windows so far give
pub record IsUnderWay (config : Config) (rows : List Row) (windows : List Window) (told : List Event) (until : ℕ)
    (nodes : List NodeState) : Type 0 where
  pub valid : IsConfig config
  pub trace : AreTraceRows config rows
  pub sites : ByPlace (λ place node. site_at config place ≡ Some node.site) nodes
  pub run : IsRunSoFar config rows windows told until nodes
  pub held : flat_map (λ events. events) (spans.given told windows) ≡ told

-- ## the network

-- the nodes and links at work: the horizon in nanoseconds, the links, how long a window is, and the time before which
-- nothing is left to be done; what is told of it speaks of the nodes and of that time alone
pub record WorkState : Type 0 where
  pub horizon : ℕ
  pub links : List LinkPlan
  pub span : ℕ
  pub nodes : List NodeState
  pub worked_to : ℕ

-- a network: its work, the greatest number of events, the sums of what it gave, and the error that it has come to
pub record NetState : Type 0 where
  pub work : WorkState
  pub limit : ℕ
  pub totals : Totals
  pub failed : Option NetError

-- these many events were given, and no more than may be
pub record HasGiven (config : Config) (told : List Event) (limit : ℕ) (totals : Totals) : Type 0 where
  pub most : limit ≡ config.max_events
  pub few : length told ≤ config.max_events
  pub sums : totals ≡ totals_of told
  pub within : AreWithin totals

-- what a network tells of its run: how far it is, what was given of it, and that no error came
pub record TellsRun (config : Config) (rows : List Row) (windows : List Window) (told : List Event) (net : NetState)
    : Type 0 where
  pub way : IsUnderWay config rows windows told net.work.worked_to net.work.nodes
  pub given : HasGiven config told net.limit net.totals
  pub sound : net.failed ≡ None
