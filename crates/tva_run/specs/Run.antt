-- Product: the run of a network, as one condition on the logs of all its nodes.
use Rattle.std.specs.Prelude.{◌≡◌, ℕ, ◌+◌, ◌≤◌, List, length, map, Some}
use Rattle.tva_plan.specs.declared.config.Config.{Config}
use Rattle.tva_rows.specs.declared.rows.Row.{Row}
use Rattle.tva_run.specs.Joins.{IsJoin, cut}
use Rattle.tva_run.specs.declared.kinds.Input.{Input}
use Rattle.tva_run.specs.Sites.{Site}
use Rattle.tva_run.specs.Entries.{Entry, input_time, input_source, entry_time}
use Rattle.tva_run.specs.NodeLog.{IsNodeLog, due}
use Rattle.tva_run.specs.Reaching.{Logs, log_at, site_at, reaches}

-- a node has this log up to a time, where so much was sent: it is the node's log over inputs that are just what reaches
-- it before that time, by time, at one time rows first, then by link
pub record HasLog (config : Config) (rows : List Row) (sent : Logs) (until : ℕ) (site : Site) (log : List Entry)
    : Type 0 where
  pub inputs : List Input
  pub join : IsJoin input_time input_source (λ source. due until (reaches config rows sent site.number source)) inputs
  pub is_log : IsNodeLog site inputs until log

-- these logs are a run up to a time, which is no later than just past the horizon: each node has its log
pub record IsRunTo (config : Config) (rows : List Row) (until : ℕ) (logs : Logs) : Type 0 where
  pub within : until ≤ config.horizon.0 + 1
  pub count : length logs ≡ length config.nodes
  pub each : (node : ℕ) (site : Site) → site_at config node ≡ Some site
      → HasLog config rows logs until site (log_at logs node)

-- the whole run goes on to the horizon
abbrev pub IsRun : Config → List Row → Logs → Type 0
IsRun config rows logs = IsRunTo config rows (config.horizon.0 + 1) logs

-- the logs before a time
abbrev pub logs_before : ℕ → Logs → Logs
logs_before time logs = map (λ log. cut entry_time time log) logs
