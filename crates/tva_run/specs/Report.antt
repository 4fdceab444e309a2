-- Product: the report of a run: the lines of its events, and the total line.
use Rattle.std.specs.Prelude.{◌≡◌, ℕ, ◌+◌, Bool, true, false, List, [], ◌++◌, length, count_by, sum_by, is_some}
use Rattle.std.specs.Option.{option_map_or}
use Rattle.std.specs.List.{flat_map}
use Rattle.tva_base.specs.declared.packet.Outcome as outcomes
use Rattle.tva_base.specs.declared.packet.Outcome.TheVariants.{Queued, Dropped}
use Rattle.tva_base.specs.declared.event.Event.{Event}
use Rattle.tva_base.specs.declared.event.Happened as happened
use Rattle.tva_base.specs.declared.event.Happened.TheVariants.{Arrived, Sent, Received, Started}
use Rattle.tva_base.specs.declared.event.WhatKind.TheVariants as what
use Rattle.tva_base.specs.declared.event.Totals.{Totals}
use Rattle.tva_router.specs.Marks.{calls_for_mark}
use Rattle.tva_plan.specs.declared.config.Config.{Config}
use Rattle.tva_rows.specs.declared.rows.Row.{Row}
use Rattle.tva_lines.specs.Lines.{line_of, summary_of}
use Rattle.tva_run.specs.Joins.{IsJoin}
use Rattle.tva_run.specs.Told.{events}
use Rattle.tva_run.specs.Reaching.{Logs, log_at, site_at}
use Rattle.tva_run.specs.Run.{IsRunTo}

-- ## the events of a run

abbrev pub event_time : Event → ℕ
event_time event = event.time.0

abbrev pub event_node : Event → ℕ
event_node event = event.node

-- the events of the node of that number
abbrev pub events_at : Config → Logs → ℕ → List Event
events_at config logs node = option_map_or (λ site. events site (log_at logs node)) (site_at config node) []

-- these are the events of the logs, by time, by node, and in the order of the node's log
abbrev pub AreEvents : Config → Logs → List Event → Type 0
AreEvents config logs told = IsJoin event_time event_node (events_at config logs) told

-- these are the events of a run up to a time
pub record AreEventsTo (config : Config) (rows : List Row) (until : ℕ) (told : List Event) : Type 0 where
  pub logs : Logs
  pub run : IsRunTo config rows until logs
  pub events : AreEvents config logs told

-- ## their sums

abbrev pub is_routed : happened.Happened → Bool
is_routed (Arrived id bytes from fate) = true
is_routed _ = false

abbrev pub is_charged : happened.Happened → Bool
is_charged (Arrived id bytes from fate) = is_some fate.charge
is_charged _ = false

abbrev pub is_demoted : happened.Happened → Bool
is_demoted (Arrived id bytes from fate) = calls_for_mark fate.cause
is_demoted _ = false

abbrev pub drops : outcomes.Outcome → Bool
drops (Queued link) = false
drops (Dropped why) = true

abbrev pub is_dropped : happened.Happened → Bool
is_dropped (Arrived id bytes from fate) = drops fate.outcome
is_dropped (Sent id bytes shape outcome) = drops outcome
is_dropped (Received id bytes from payload w back reply range) = option_map_or (λ r. drops r.outcome) reply false
is_dropped _ = false

abbrev pub is_started : happened.Happened → Bool
is_started (Started id bytes link class end) = true
is_started _ = false

abbrev pub is_received : happened.Happened → Bool
is_received (Received id bytes from payload w back reply range) = true
is_received _ = false

-- the payload of a receipt that isn't stray
abbrev pub received_bytes : happened.Happened → ℕ
received_bytes (Received id bytes from payload what.Stray back reply range) = 0
received_bytes (Received id bytes from payload w back reply range) = payload
received_bytes _ = 0

unfoldable pub totals_of : List Event → Totals
totals_of told = record {
  events = length told;
  routed = count_by (λ e. is_routed e.happened) told;
  authorised = count_by (λ e. is_charged e.happened) told;
  demoted = count_by (λ e. is_demoted e.happened) told;
  dropped = count_by (λ e. is_dropped e.happened) told;
  started = count_by (λ e. is_started e.happened) told;
  received = count_by (λ e. is_received e.happened) told;
  bytes = sum_by (λ e. received_bytes e.happened) told;
}

-- ## the text

abbrev pub lines_of : Config → List Event → List ℕ
lines_of config told = flat_map (line_of config) told

-- the lines of the events, and the total line
unfoldable pub report_of : Config → List Event → List ℕ
report_of config told = lines_of config told ++ summary_of (totals_of told)

-- the text is the report of the run
pub record IsReport (config : Config) (rows : List Row) (text : List ℕ) : Type 0 where
  pub told : List Event
  pub events : AreEventsTo config rows (config.horizon.0 + 1) told
  pub whole : text ≡ report_of config told
