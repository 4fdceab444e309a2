-- Product: the windows of a run: the spans of time in which the nodes are worked independently.
use Rattle.std.specs.Prelude.{◌≡◌, ℕ, ◌+◌, ◌<◌, ◌≤◌, min, nat_le, nat_lt, ◌&&◌}
use Rattle.std.specs.Prelude.{List, [], ◌∷◌, map, filter, length, Some}
use Rattle.tva_base.specs.declared.event.Event.{Event}
use Rattle.tva_base.specs.declared.plan.LinkPlan.{LinkPlan}
use Rattle.tva_plan.specs.declared.config.Config.{Config}
use Rattle.tva_rows.specs.declared.rows.Row.{Row}
use Rattle.tva_run.specs.Joins.{IsJoin, cut}
use Rattle.tva_run.specs.Sites.{Site}
use Rattle.tva_run.specs.declared.kinds.Input.{Input}
use Rattle.tva_run.specs.Entries.{Entry, input_time, input_source, entry_time}
use Rattle.tva_run.specs.NodeLog.{due}
use Rattle.tva_run.specs.Next.{IsQuiet, IsWorkAt}
use Rattle.tva_run.specs.Reaching.{Logs, log_at, site_at, reaches}
use Rattle.tva_run.specs.Report.{event_time}
use Rattle.tva_run.specs.Run.{IsRunTo}

-- at that time something reaches a node, or one of its links decides by itself, over what the log has before it
pub record IsWork (config : Config) (rows : List Row) (logs : Logs) (time : ℕ) : Type 0 where
  pub node : ℕ
  pub site : Site
  pub is_node : site_at config node ≡ Some site
  pub source : ℕ
  pub work : IsWorkAt site (reaches config rows logs node source) (cut entry_time time (log_at logs node)) time time

-- the least delay of these links, or what is said where there is none
abbrev pub least_delay : ℕ → List LinkPlan → ℕ
least_delay none [] = none
least_delay none (link ∷ []) = link.delay
least_delay none (link ∷ other ∷ links) = min link.delay (least_delay none (other ∷ links))

-- how long a window is: the least delay, or the horizon and one nanosecond more
abbrev pub window_length : Config → ℕ
window_length config = least_delay (config.horizon.0 + 1) config.links

-- a window: its first time, and the time just past it
abbrev pub Window : Type 0
Window = ℕ × ℕ

-- the next window from a time on: it starts at the least time at which there is work, up to the horizon
pub record IsNextWindow (config : Config) (rows : List Row) (logs : Logs) (from : ℕ) (window : Window)
    : Type 0 where
  pub later : from ≤ window.0
  pub within : window.0 ≤ config.horizon.0
  pub work : IsWork config rows logs window.0
  pub first : (time : ℕ) → from ≤ time → time < window.0 → IsWork config rows logs time → ⊥
  pub ends : window.1 ≡ min (window.0 + window_length config) (config.horizon.0 + 1)

-- from a time on there is no work up to the horizon
abbrev pub IsOver : Config → List Row → Logs → ℕ → Type 0
IsOver config rows logs from =
    (time : ℕ) → from ≤ time → time ≤ config.horizon.0 → IsWork config rows logs time → ⊥

-- from a time on these are the windows, each the next past the one before
abbrev pub AreWindows : Config → List Row → Logs → ℕ → List Window → Type 0
AreWindows config rows logs from [] = IsOver config rows logs from
AreWindows config rows logs from (window ∷ windows) =
    IsNextWindow config rows logs from window × AreWindows config rows logs window.1 windows

-- from a time on these windows come first, each the next past the one before; behind them it goes on from another time
abbrev pub AreFirstWindows : Config → List Row → Logs → ℕ → List Window → ℕ → Type 0
AreFirstWindows config rows logs from [] behind = from ≡ behind
AreFirstWindows config rows logs from (window ∷ windows) behind =
    IsNextWindow config rows logs from window × AreFirstWindows config rows logs window.1 windows behind

-- every run up to that time or a later one begins with these windows, the last of which ends at that time
abbrev pub EachBeginsWith : Config → List Row → List Window → ℕ → Type 0
EachBeginsWith config rows windows until =
    (later : ℕ) (logs : Logs) → until ≤ later → IsRunTo config rows later logs
    → AreFirstWindows config rows logs 0 windows until

-- what happens in a window
abbrev pub events_in : List Event → Window → List Event
events_in told window = filter (λ e. nat_le window.0 (event_time e) && nat_lt (event_time e) window.1) told

-- the events of each window that has one; the others are passed over
abbrev pub given : List Event → List Window → List (List Event)
given told windows = filter (λ es. nat_lt 0 (length es)) (map (events_in told) windows)

-- ## how a run goes on

-- where so much was sent, a node with this log has nothing to do from one time on up to another, over what reaches it
-- before that
pub record IsAtRest (config : Config) (rows : List Row) (sent : Logs) (from until : ℕ) (site : Site) (log : List Entry)
    : Type 0 where
  pub inputs : List Input
  pub join : IsJoin input_time input_source (λ source. due until (reaches config rows sent site.number source)) inputs
  pub quiet : IsQuiet site inputs log from until

-- at that time, no earlier than `from`, a node has something to do, where so much was sent
pub record HasWork (config : Config) (rows : List Row) (sent : Logs) (from time : ℕ) : Type 0 where
  pub node : ℕ
  pub site : Site
  pub is_node : site_at config node ≡ Some site
  pub source : ℕ
  pub work : IsWorkAt site (reaches config rows sent node source) (log_at sent node) from time
