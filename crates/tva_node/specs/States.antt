-- Crate: for which log a node stands, and what its work leaves of it.
use Rattle.std.specs.Prelude.{◌≡◌, ℕ, ◌+◌, ◌<◌, ◌≤◌, min, max, List, ◌++◌, Option, Some, None}
use Rattle.tva_base.specs.declared.packet.Time.{Time}
use Rattle.tva_run.specs.declared.kinds.Input.{Input}
use Rattle.tva_run.specs.Sites.{Site, IsSite}
use Rattle.tva_run.specs.Entries.{Entry}
use Rattle.tva_run.specs.NodeLog.{IsNodeLog, in_turn}
use Rattle.tva_run.specs.Told.{events, sendings}
use Rattle.tva_run.specs.Next.{IsWorkAt}
use Rattle.tva_node.specs.Besides.{StandsBesides}
pub use Rattle.tva_node.specs.Nodes.{AreLeft, Fits, FitsRow, Gone, Holds, KeepsAll, NodeState}
pub use Rattle.tva_node.specs.Nodes.{all_given, all_told, gone_after, gone_by, gone_in, news, none_gone, restarts_in, role_plan, unsent}
pub use Rattle.tva_node.specs.Nodes.{router_in, router_number, site_at, state_of}

-- the node stands for the log: it is the log over the node's inputs up to the time up to which it is worked, its events
-- and sendings are the node's, and what the node keeps besides is by it
pub record StandsFor (v : NodeState) (log : List Entry) : Type 0 where
  pub site : IsSite v.site
  pub horizon : (v.horizon ≤ 1000000000000000) × (v.worked_to ≤ v.horizon + 1)
  pub whole : IsNodeLog v.site (in_turn v.inbox) v.worked_to log
  pub events : v.events ≡ events v.site log
  pub sendings : v.sendings ≡ sendings v.site log
  pub besides : StandsBesides v log

-- it stands for some log, which is the only one
abbrev pub Stands : NodeState → Type 0
Stands v = (log : List Entry) × StandsFor v log

-- what posting leaves of a node, whatever it answers: all but its inbox, and what memory holds of that
pub record IsAsBefore (old new : NodeState) : Type 0 where
  pub site : new.site ≡ old.site
  pub horizon : new.horizon ≡ old.horizon
  pub events : new.events ≡ old.events
  pub sendings : new.sendings ≡ old.sendings
  pub worked_to : new.worked_to ≡ old.worked_to
  pub keeps : new.keeps ≡ old.keeps
  pub gone : new.gone ≡ record old.gone { inputs = new.gone.inputs }

-- a list begins with another
abbrev pub BeginsWith : {X : Type 0} → List X → List X → Type 0
BeginsWith {X = X} old new = (more : List X) × (new ≡ old ++ more)

-- what a call leaves of a node, whatever it answers
pub record Keeps (old new : NodeState) : Type 0 where
  pub site : new.site ≡ old.site
  pub horizon : new.horizon ≡ old.horizon
  pub inbox : new.inbox ≡ old.inbox
  pub events : BeginsWith old.events new.events
  pub sendings : BeginsWith old.sendings new.sendings
  pub keeps : new.keeps ≡ old.keeps
  pub gone : new.gone ≡ old.gone

-- a node that was worked up to a time, and no further than the horizon
pub record IsAdvanced (until : ℕ) (old new : NodeState) : Type 0 where
  pub stands : Stands new
  pub upto : new.worked_to ≡ max old.worked_to (min until (old.horizon + 1))

-- the first time up to the horizon at which there is work that isn't done yet
abbrev pub IsFirstWork : Site → List Input → List Entry → ℕ → ℕ → Option Time → Type 0
IsFirstWork site inputs log from horizon None =
    (time : ℕ) → time ≤ horizon → IsWorkAt site inputs log from time → ⊥
IsFirstWork site inputs log from horizon (Some next) =
    (next.0 ≤ horizon) × IsWorkAt site inputs log from next.0
    × ((time : ℕ) → time < next.0 → IsWorkAt site inputs log from time → ⊥)
