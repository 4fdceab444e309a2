-- Product: the log of a node: all that happens there, as a condition on the whole list.
use Rattle.std.specs.Prelude.{◌≡◌, ℕ, suc, ◌<◌, nat_le, if◌then◌else◌, List, [], ◌∷◌, ◌++◌, Option, Some, None}
use Rattle.std.specs.Option.{option_and_then}
use Rattle.std.specs.List.{AllByRecursion}
use Rattle.tva_base.specs.declared.limits.LinkLimits.{LinkLimits}
use Rattle.tva_base.specs.declared.packet.Class.{Class}
use Rattle.tva_shim.specs.Packets.{PacketData}
use Rattle.tva_port.specs.Log as port
use Rattle.tva_port.specs.declared.decision.Decision as decided
use Rattle.tva_port.specs.declared.decision.Decision.TheVariants.{Start}
use Rattle.tva_port.specs.Decide.{decision}
use Rattle.tva_run.specs.Joins.{IsInOrder, cut, sorted}
use Rattle.tva_run.specs.declared.kinds.Input.{Input}
use Rattle.tva_run.specs.Sites.{Site, limits_out}
use Rattle.tva_run.specs.Entries.{Entry, Took, Started, input_time, input_source, entry_time, entry_rank}
use Rattle.tva_run.specs.Parts.{port_logs}
use Rattle.tva_run.specs.Contents.{content}

-- ## what starts

abbrev pub start_of : decided.Decision → Option (Class × PacketData)
start_of (Start class packet) = Some (class, packet)
start_of _ = None

-- what a link with these limits starts at a time, after that log of its port: a busy link nothing, a free one what it
-- decides
unfoldable pub start_after : LinkLimits → List port.Entry → ℕ → Option (Class × PacketData)
start_after limits log now =
    if nat_le (port.free_after limits log) now then start_of (decision limits log now) else None

-- what the link of that number starts at a time, after these entries: nothing where it is no link out of the node
abbrev pub starts : Site → List Entry → ℕ → ℕ → Option (Class × PacketData)
starts site before link now = option_and_then (λ o. start_after o.1 (port_logs before link) now) (limits_out site link)

-- ## the log

-- the inputs, by time, at one time rows first, then by link
abbrev pub in_turn : List Input → List Input
in_turn inputs = sorted input_time input_source inputs

-- the inputs before a time
abbrev pub due : ℕ → List Input → List Input
due until inputs = cut input_time until inputs

-- after the entries before, the rest takes just these inputs in their order, each with what the node makes of it there,
-- and each start is what its link starts there
abbrev pub GoesOn : Site → List Entry → List Input → List Entry → Type 0
GoesOn site before is (Started time link class packet ∷ es) =
    (starts site before link time ≡ Some (class, packet))
    × GoesOn site (before ++ Started time link class packet ∷ []) is es
GoesOn site before (i ∷ is) (Took input made ∷ es) =
    (input ≡ i) × (content site before i ≡ Some made) × GoesOn site (before ++ Took input made ∷ []) is es
GoesOn site before [] [] = Unit {0}
GoesOn site before is es = ⊥

-- no start was left out: after all entries up to each earlier time, no link starts anything then
abbrev pub LeavesNone : Site → ℕ → List Entry → Type 0
LeavesNone site until log =
    (time link : ℕ) → time < until → starts site (cut entry_time (suc time) log) link time ≡ None

-- the log over these inputs, which stand in their order, up to a time: its entries are in order and before that time,
-- just the inputs before that time are taken, and just what is to start starts
pub record IsNodeLog (site : Site) (inputs : List Input) (until : ℕ) (log : List Entry) : Type 0 where
  pub in_order : IsInOrder entry_time entry_rank log
  pub early : AllByRecursion (λ e. entry_time e < until) log
  pub steps : GoesOn site [] (due until inputs) log
  pub none_left : LeavesNone site until log
