-- Crate: a run that is worked window by window, each shown while the next is worked.
use Rattle.std.specs.Prelude.{◌≡◌, ◌+◌, ◌-◌, ◌<◌, ◌≤◌, List, ◌++◌, length, Result, Ok, Err}
use Rattle.tva_base.specs.declared.event.Event.{Event}
use Rattle.tva_base.specs.declared.event.Totals.{Totals}
use Rattle.tva_plan.specs.declared.config.Config.{Config}
use Rattle.tva_rows.specs.declared.rows.Row.{Row}
use Rattle.tva_run.specs.Report.{AreEventsTo, lines_of, totals_of}
use Rattle.tva_run.specs.Shown.{AreLines, IsCutShort}
use Rattle.tva_run.specs.Windows as run
use Rattle.tva_net.specs.Nets.{NetState}
use Rattle.tva_net.specs.declared.kinds.NetError.{NetError}
use Rattle.tva_net.specs.declared.kinds.NetError.TheVariants.{EventLimit, OutOfMemory}
use Rattle.tva_net.specs.declared.kinds.Window.{Window}
use Rattle.tva_net.specs.declared.kinds.Window.TheVariants.{Events, Ended}
use Rattle.tva_net.specs.Steps.{StandsFor}

-- the network stands for the run so far: these events, and then the last ones, which are still to be shown
pub record IsBehind (config : Config) (rows : List Row) (told last : List Event) (net : NetState) : Type 0 where
  pub windows : List run.Window
  pub stands : StandsFor config rows windows (told ++ last) net

-- these are the events of the whole run
pub record HasHappened (config : Config) (rows : List Row) (told : List Event) (totals : Totals) : Type 0 where
  pub events : AreEventsTo config rows (config.horizon.0 + 1) told
  pub few : length told ≤ config.max_events
  pub sums : totals ≡ totals_of told

-- what comes next, where these events are shown: further ones, of which there are fewer each time; the end; or too many
abbrev pub Comes : Config → List Row → List Event → Result Window NetError → NetState → NetState → Type 0
Comes config rows told (Ok (Events next)) old new =
    IsBehind config rows told next.items new × (new.limit - new.totals.events < old.limit - old.totals.events)
Comes config rows told (Ok Ended) old new = HasHappened config rows told new.totals
Comes config rows told (Err (EventLimit most)) old new =
    (most ≡ config.max_events) × IsCutShort config rows (lines_of config told)
Comes config rows told (Err OutOfMemory) old new = AreLines config rows (lines_of config told)
