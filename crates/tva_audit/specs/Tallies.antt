-- Kit: tallies of nodes, to which the events of a run are told as they come.
use Rattle.std.specs.Prelude.{◌≡◌, ℕ, ◌<◌, List, [], length, slice_get, slice_index_or, All}
use Rattle.std.specs.Option.{option_map_or}
use Rattle.tva_base.specs.declared.event.Event.{Event}
use Rattle.tva_base.specs.declared.packet.Time.{Time}
use Rattle.tva_plan.specs.declared.config.Config.{Config}
use Rattle.tva_plan.specs.Wiring.{picked}
use Rattle.tva_run.specs.Joins.{from_source}
use Rattle.tva_run.specs.Report.{event_node}
use Rattle.tva_node.specs.States.{restarts_in}
use Rattle.tva_report.specs.declared.sums.Tally.{Tally}
use Rattle.tva_report.specs.Charged.{charges_in}
use Rattle.tva_report.specs.Table.{HasRoom, IsSound, StandsFor}
use Rattle.tva_audit.specs.declared.routers.RouterSum.{RouterSum}
use Rattle.tva_audit.specs.Sums.{sum_told}

-- the restarts of the node of that number
abbrev pub restarts_at : Config → ℕ → List (Time × List ℕ)
restarts_at config node = option_map_or restarts_in (slice_get config.nodes node) []

-- each node has a tally, with room for so many charges more
pub record AreReady (config : Config) (more : ℕ) (tallies : List Tally) : Type 0 where
  pub count : length tallies ≡ length config.nodes
  pub sound : All IsSound tallies
  pub room : All (λ t. HasRoom t more) tallies

-- the tally stands for what the node of that number says was charged, among these events
abbrev pub IsTallied : Config → List Event → ℕ → Tally → Type 0
IsTallied config told node tally = StandsFor tally (restarts_at config node) (charges_in (from_source event_node node told))

-- each node has a tally that does
pub record AreTallied (config : Config) (told : List Event) (tallies : List Tally) : Type 0 where
  pub count : length tallies ≡ length config.nodes
  pub sound : All IsSound tallies
  pub each : (node : ℕ) (d : Tally) → node < length tallies → IsTallied config told node (slice_index_or tallies node d)

-- the sums of the routers, as these events tell them
abbrev pub sums_among : Config → List Event → List RouterSum
sums_among config told = picked (λ number plan. sum_told number plan (from_source event_node number told)) 0 config.nodes
