-- Crate: for which run a network stands, what a call of it answers, and what it leaves.
use Rattle.std.specs.Prelude.{◌≡◌, ◌<◌, List, ◌∷◌, [], ◌++◌, length, None}
use Rattle.tva_base.specs.declared.event.Event.{Event}
use Rattle.tva_plan.specs.declared.config.Config.{Config}
use Rattle.tva_rows.specs.declared.rows.Row.{Row}
use Rattle.tva_run.specs.Windows.{Window, given}
use Rattle.tva_net.specs.declared.kinds.NetError.{NetError}
use Rattle.tva_net.specs.declared.kinds.NetError.TheVariants.{EventLimit, OutOfMemory}
use Rattle.tva_net.specs.declared.kinds.Window as answers
use Rattle.tva_net.specs.declared.kinds.Window.TheVariants.{Events, Ended}
use Rattle.tva_net.specs.Nets.{IsRunSoFar, IsWholeRun, NetState, TellsRun}
use Rattle.tva_net.specs.Kept.{IsAtWork}

-- the network stands for the run of a configuration and a trace over these windows, in which this was told: it tells
-- that run, and keeps what goes on with it
pub record StandsFor (config : Config) (rows : List Row) (windows : List Window) (told : List Event) (net : NetState)
    : Type 0 where
  pub tells : TellsRun config rows windows told net
  pub kept : IsAtWork config rows tells.way.run.logs net.work

-- it stands for some run, or has come to an error
abbrev pub IsSound : NetState → Type 0
IsSound net =
    net.failed ≡ None
    → (config : Config) × (rows : List Row) × (windows : List Window) × (told : List Event)
    × StandsFor config rows windows told net

-- the network goes on over further windows: this happens in the last of them, and nothing in the others
pub record GoesOn (config : Config) (rows : List Row) (windows : List Window) (told list : List Event) (net : NetState)
    : Type 0 where
  pub more : List Window
  pub stands : StandsFor config rows (windows ++ more) (told ++ list) net
  pub given : given (told ++ list) (windows ++ more) ≡ given told windows ++ list ∷ []

-- nothing more happens up to the horizon
pub record HasEnded (config : Config) (rows : List Row) (windows : List Window) (told : List Event) (net : NetState)
    : Type 0 where
  pub more : List Window
  pub stands : StandsFor config rows (windows ++ more) told net
  pub given : given told (windows ++ more) ≡ given told windows
  pub whole : IsWholeRun config rows (windows ++ more) told net.work.nodes

-- with what happens in the last of further windows, and nothing in the others, it is more than may be
pub record PassesLimit (config : Config) (rows : List Row) (windows : List Window) (told : List Event) (net : NetState)
    : Type 0 where
  pub more : List Window
  pub list : List Event
  pub run : IsRunSoFar config rows (windows ++ more) (told ++ list) net.work.worked_to net.work.nodes
  pub given : given (told ++ list) (windows ++ more) ≡ given told windows ++ list ∷ []
  pub many : config.max_events < length (told ++ list)

-- what an answer says of the run for which the network stood
abbrev pub Gives : Config → List Row → List Window → List Event → answers.Window → NetState → Type 0
Gives config rows windows told (Events list) new = (0 < length list.items) × GoesOn config rows windows told list.items new
Gives config rows windows told Ended new = HasEnded config rows windows told new

-- what an error says of it; of want of memory nothing is said
abbrev pub Refuses : Config → List Row → List Window → List Event → NetError → NetState → NetState → Type 0
Refuses config rows windows told (EventLimit most) old new =
    (most ≡ config.max_events) × (new.totals ≡ old.totals) × PassesLimit config rows windows told new
Refuses config rows windows told OutOfMemory old new = Unit {0}
