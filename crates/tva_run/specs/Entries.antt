-- Product: an entry of a node's log: an input that it took, with what became of it, or a start on a link.
use Rattle.std.specs.Prelude.{ℕ, suc, Option}
use Rattle.tva_base.specs.declared.packet.Class.{Class}
use Rattle.tva_base.specs.declared.packet.Fate.{Fate}
use Rattle.tva_base.specs.declared.packet.Outcome.{Outcome}
use Rattle.tva_base.specs.declared.event.DataLine.{DataLine}
use Rattle.tva_shim.specs.Packets.{PacketData}
use Rattle.tva_host.specs.declared.made.Made.{Made}
use Rattle.tva_host.specs.declared.made.Receipt.{Receipt}
use Rattle.tva_run.specs.declared.kinds.Input.{Input}
use Rattle.tva_run.specs.declared.kinds.Input.TheVariants.{FromTrace, Arrival}

-- what a node makes of an input
pub data Content : Type 0 where
  -- a router: the link on which a packet came, but for the trace's; the packet as it came in; what
  -- became of it; and the packet as it goes on
  Arrived : (from : Option ℕ) (packet : PacketData) (fate : Fate) (onward : PacketData) → Content
  -- a host, at a row: the packet that it made or that the row injects, and where that ended up
  Sent : (made : Made) (outcome : Outcome) → Content
  -- a host, at a tick for which it sends nothing
  Ticked : Content
  -- a host: the link on which a packet came, the packet, what the host made of it, where its reply
  -- ended up, and the range of a file that it delivered
  Received : (from : ℕ) (packet : PacketData) (receipt : Receipt) (went : Option Outcome) (range : Option DataLine)
      → Content

-- an entry of a node's log: an input is taken, or at a time a link starts a packet of a class
pub data Entry : Type 0 where
  Took : (input : Input) (content : Content) → Entry
  Started : (time link : ℕ) (class : Class) (packet : PacketData) → Entry

abbrev pub input_time : Input → ℕ
input_time (FromTrace row) = row.time.0
input_time (Arrival time link packet) = time.0

-- where an input comes from: the trace, then each link by its number
abbrev pub input_source : Input → ℕ
input_source (FromTrace row) = 0
input_source (Arrival time link packet) = suc link

abbrev pub entry_time : Entry → ℕ
entry_time (Took input content) = input_time input
entry_time (Started time link class packet) = time

-- at one time all inputs come first, then the starts of each link by its number
abbrev pub entry_rank : Entry → ℕ
entry_rank (Took input content) = 0
entry_rank (Started time link class packet) = suc link
