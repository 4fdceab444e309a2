-- Kit: what a network keeps of its run to go on with it: the nodes at work, and how far each is.
use Rattle.std.specs.Prelude.{◌≡◌, ℕ, ◌+◌, ◌≤◌, List, All, length}
use Rattle.std.specs.Prelude.{Some, None}
use Rattle.tva_base.specs.declared.event.Event.{Event}
use Rattle.tva_plan.specs.declared.config.Config.{Config}
use Rattle.tva_rows.specs.declared.rows.Row.{Row}
use Rattle.tva_run.specs.Joins.{from_source}
use Rattle.tva_run.specs.Entries.{input_source}
use Rattle.tva_run.specs.NodeLog.{due, in_turn}
use Rattle.tva_run.specs.Next.{IsQuiet}
use Rattle.tva_run.specs.Reaching.{Logs, log_at, site_at, reaches}
use Rattle.tva_run.specs.Windows.{Window, window_length}
use Rattle.tva_node.specs.States.{NodeState}
use Rattle.tva_node.specs.States as states
use Rattle.tva_net.specs.News.{HasNoNews}
use Rattle.tva_net.specs.declared.parts.Parts.{Parts}
use Rattle.tva_net.specs.declared.works.Works.{Works}
use Rattle.tva_net.specs.Times.{AreNoted}
use Rattle.tva_net.specs.Nets.{ByPlace, IsUnderWay, NetState, WorkState}

-- a node at work in the network: it is worked up to a time from which on nothing is to be done up to that one, and has
-- just what reaches it up to the horizon over the logs so far, from each source in the order in which it comes
pub record IsNodeAt (config : Config) (rows : List Row) (logs : Logs) (until : ℕ) (place : ℕ) (node : NodeState)
    : Type 0 where
  pub site : site_at config place ≡ Some node.site
  pub horizon : node.horizon ≡ config.horizon.0
  pub worked_to : node.worked_to ≤ until
  pub stands : states.StandsFor node (log_at logs place)
  pub rests : IsQuiet node.site (in_turn node.inbox) (log_at logs place) node.worked_to until
  pub mail : (source : ℕ)
      → from_source input_source source node.inbox ≡ due (config.horizon.0 + 1) (reaches config rows logs place source)

-- the work goes on with the run of which these are the logs so far
pub record IsAtWork (config : Config) (rows : List Row) (logs : Logs) (work : WorkState) : Type 0 where
  pub horizon : work.horizon ≡ config.horizon.0
  pub links : work.links ≡ config.links
  pub span : work.span ≡ window_length config
  pub count : length work.nodes ≡ length config.nodes
  pub nodes : ByPlace (IsNodeAt config rows logs work.worked_to) work.nodes
  pub news : All HasNoNews work.nodes

-- the work stands for a run that is under way
pub record WorksFor (config : Config) (rows : List Row) (windows : List Window) (told : List Event) (work : WorkState)
    : Type 0 where
  pub way : IsUnderWay config rows windows told work.worked_to work.nodes
  pub kept : IsAtWork config rows way.run.logs work

abbrev pub work_of : Works → WorkState
work_of w = record {
  horizon = w.horizon.0;
  links = w.links.items;
  span = w.span;
  nodes = w.nodes.items;
  worked_to = w.worked_to;
}

abbrev pub state_of : Parts → NetState
state_of p = record { work = work_of p.works; limit = p.limit; totals = p.totals; failed = p.failed }

-- a network that has come to no error knows when each node has work next
abbrev pub KnowsTimes : Parts → Type 0
KnowsTimes p = p.failed ≡ None → AreNoted p.works.times p.works.nodes.items
