-- Crate: the log of a node by what it takes and by what its links have.
use Rattle.std.specs.Prelude.{◌≡◌, ℕ, ◌<◌, ◌≤◌, List, [], ◌∷◌, ◌++◌, All, Some}
use Rattle.std.specs.List.{AllByRecursion}
use Rattle.tva_base.specs.declared.limits.LinkLimits.{LinkLimits}
use Rattle.tva_shim.specs.Packets.{packet_length}
use Rattle.tva_port.specs.Log as port
use Rattle.tva_port.specs.Legal as ports
use Rattle.tva_port.specs.Decide.{MissesNone}
use Rattle.tva_run.specs.Joins.{IsInOrder}
use Rattle.tva_run.specs.declared.kinds.Input.{Input}
use Rattle.tva_run.specs.Sites.{Site, limits_out}
use Rattle.tva_run.specs.Entries.{Entry, Took, Started, entry_time, entry_rank}
use Rattle.tva_run.specs.Parts.{port_logs}
use Rattle.tva_run.specs.Contents.{content}
use Rattle.tva_run.specs.NodeLog.{due}

-- the link of that number is a link out of the node
abbrev pub HasLink : Site → ℕ → Type 0
HasLink site link = (o : ℕ × LinkLimits) × (limits_out site link ≡ Some o)

-- after the entries before, the rest takes just these inputs in their order, each with what the node makes of it there;
-- of what starts it says that the link is one of the node's
abbrev pub Takes : Site → List Entry → List Input → List Entry → Type 0
Takes site before [] [] = Unit {0}
Takes site before (i ∷ is) [] = ⊥
Takes site before [] (Took input made ∷ es) = ⊥
Takes site before (i ∷ is) (Took input made ∷ es) =
    (input ≡ i) × (content site before i ≡ Some made) × Takes site (before ++ Took input made ∷ []) is es
Takes site before [] (Started time link class packet ∷ es) =
    HasLink site link × Takes site (before ++ Started time link class packet ∷ []) [] es
Takes site before (i ∷ is) (Started time link class packet ∷ es) =
    HasLink site link × Takes site (before ++ Started time link class packet ∷ []) (i ∷ is) es

-- entries in order and before a time; just the inputs before it are taken, each once and in its turn; and the log of
-- each link's port is legal, with no start missed before that time
pub record IsLegalLog (site : Site) (inputs : List Input) (until : ℕ) (log : List Entry) : Type 0 where
  pub in_order : IsInOrder entry_time entry_rank log
  pub early : AllByRecursion (λ e. entry_time e < until) log
  pub takes : Takes site [] (due until inputs) log
  pub links : (link : ℕ) (o : ℕ × LinkLimits) → limits_out site link ≡ Some o
      → ports.IsLegal o.1 (port_logs log link) × MissesNone o.1 until (port_logs log link)

-- a packet that is queued has at most 2,048 bytes
abbrev pub IsShort : port.Entry → Type 0
IsShort (port.Queued time class key packet) = packet_length packet ≤ 2048
IsShort (port.Started time class packet) = Unit {0}

-- so has each that a link of the node queued
abbrev pub AreShort : Site → List Entry → Type 0
AreShort site log = (link : ℕ) (o : ℕ × LinkLimits) → limits_out site link ≡ Some o → All IsShort (port_logs log link)
