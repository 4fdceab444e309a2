-- Product: what is shown of a run that may have so many events: its report, or what comes before it passes that
-- number.
use Rattle.std.specs.Prelude.{◌≡◌, ℕ, ◌+◌, ◌<◌, ◌≤◌, ◌⊎◌, List, [], ◌∷◌, ◌++◌, length}
use Rattle.std.specs.List.{flat_map}
use Rattle.tva_base.specs.declared.event.Event.{Event}
use Rattle.tva_plan.specs.declared.config.Config.{Config}
use Rattle.tva_rows.specs.declared.rows.Row.{Row}
use Rattle.tva_run.specs.Report.{AreEventsTo, IsReport, lines_of}
use Rattle.tva_run.specs.Windows.{EachBeginsWith, Window, given}

-- this is the report of the run, which has no more events than it may have
pub record HasReport (config : Config) (rows : List Row) (text : List ℕ) : Type 0 where
  pub report : IsReport config rows text
  pub few : length report.told ≤ config.max_events

-- these are the lines of the events of the run up to some time
pub record AreLines (config : Config) (rows : List Row) (text : List ℕ) : Type 0 where
  pub until : ℕ
  pub told : List Event
  pub events : AreEventsTo config rows until told
  pub lines : text ≡ lines_of config told

-- a text that is begun: the report, or the lines of the events up to some time
abbrev pub IsBegun : Config → List Row → List ℕ → Type 0
IsBegun config rows text = IsReport config rows text ⊎ AreLines config rows text

-- what happened in all of these windows
abbrev pub all_of : List (List Event) → List Event
all_of windows = flat_map (λ events. events) windows

-- In a window the run passes the number of events that it may have. Each run up to the end of that window or later
-- begins with these windows, of which it is the last; what happened up to its end is what the windows before it show
-- and what passes the number. The text is the lines of the windows before it
pub record IsCutShort (config : Config) (rows : List Row) (text : List ℕ) : Type 0 where
  pub windows : List Window
  pub until : ℕ
  pub first : EachBeginsWith config rows windows until
  pub shown : List (List Event)
  pub passing : List Event
  pub events : AreEventsTo config rows until (all_of shown ++ passing)
  pub last : given (all_of shown ++ passing) windows ≡ shown ++ passing ∷ []
  pub few : length (all_of shown) ≤ config.max_events
  pub more : config.max_events < length (all_of shown ++ passing)
  pub lines : text ≡ lines_of config (all_of shown)

-- ## how many events there are

-- the run up to the horizon has no more events than it may have
abbrev pub IsWithinLimit : Config → List Row → Type 0
IsWithinLimit config rows = (text : List ℕ) × HasReport config rows text

-- the run up to some time has more
pub record IsPastLimit (config : Config) (rows : List Row) : Type 0 where
  pub until : ℕ
  pub told : List Event
  pub events : AreEventsTo config rows until told
  pub more : config.max_events < length told
