-- Kit: what nodes are built with.
use Rattle.std.specs.Prelude.{◌≡◌, ℕ, ◌<◌, List, [], length, Some, slice_index, slice_index_or}
use Rattle.tva_plan.specs.declared.config.Config.{Config}
use Rattle.tva_rows.specs.declared.rows.Row.{Row}
use Rattle.tva_node.specs.States.{NodeState, Stands}
use Rattle.tva_run.specs.Reaching.{rows_at, site_at}
use Rattle.tva_net.specs.News.{HasNoNews}

-- the node of that number, with its rows of the trace, to which nothing happened yet
pub record IsFirstNode (config : Config) (rows : List Row) (number : ℕ) (v : NodeState) : Type 0 where
  pub site : site_at config number ≡ Some v.site
  pub horizon : v.horizon ≡ config.horizon.0
  pub inbox : v.inbox ≡ rows_at rows number
  pub nothing : (v.events ≡ []) × (v.sendings ≡ []) × (v.worked_to ≡ 0)
  pub news : HasNoNews v
  pub stands : Stands v

-- the nodes of a configuration in their order, each such
pub record AreFirstNodes (config : Config) (rows : List Row) (nodes : List NodeState) : Type 0 where
  pub count : length nodes ≡ length config.nodes
  pub each : (number : ℕ) (d : NodeState) → number < length nodes
      → IsFirstNode config rows number (slice_index_or nodes number d)

-- so many nodes have so many rows
pub record AreRowCounts (nodes : ℕ) (rows : List Row) (counts : List ℕ) : Type 0 where
  pub count : length counts ≡ nodes
  pub each : (number : ℕ) → number < nodes → slice_index counts number ≡ length (rows_at rows number)
