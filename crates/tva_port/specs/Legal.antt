-- Product: which logs a port can have.
use Rattle.std.specs.Prelude.{◌≡◌, ℕ, ◌≤◌, List, [], ◌∷◌, ◌++◌}
use Rattle.tva_base.specs.declared.limits.LinkLimits.{LinkLimits}
use Rattle.tva_base.specs.declared.packet.Class.{Class}
use Rattle.tva_shim.specs.Packets.{PacketData, packet_length}
use Rattle.tva_drr.specs.declared.offered.Offered.TheVariants as offers
use Rattle.tva_port.specs.declared.decision.Decision.TheVariants.{Start}
use Rattle.tva_port.specs.Log.{Entry, Queued, Started, NoneLater, free_after}
use Rattle.tva_port.specs.Waiting.{waiting_after, queue_answer}
use Rattle.tva_port.specs.Decide.{decision}

-- after the entries before it, a packet of 20 to 2,048 bytes is queued
pub record IsQueued (l : LinkLimits) (before : List Entry) (time : ℕ) (class : Class) (key : ℕ) (packet : PacketData)
    : Type 0 where
  pub order : NoneLater time before
  pub sized : (20 ≤ packet_length packet) × (packet_length packet ≤ 2048)
  pub offer : queue_answer l (waiting_after l before) class key packet ≡ offers.Queued

-- after the entries before it, the link is free, and the start is its decision
pub record IsStarted (l : LinkLimits) (before : List Entry) (time : ℕ) (class : Class) (packet : PacketData)
    : Type 0 where
  pub order : NoneLater time before
  pub free : free_after l before ≤ time
  pub decided : decision l before time ≡ Start class packet

-- what an entry asks of the entries before it
abbrev pub Follows : LinkLimits → List Entry → Entry → Type 0
Follows l before (Queued time class key packet) = IsQueued l before time class key packet
Follows l before (Started time class packet) = IsStarted l before time class packet

-- after the entries before, each entry follows those before it
abbrev pub AllFollow : LinkLimits → List Entry → List Entry → Type 0
AllFollow l before [] = Unit {0}
AllFollow l before (e ∷ es) = Follows l before e × AllFollow l (before ++ e ∷ []) es

-- times never fall, each packet that was queued had its place, each start is the decision at its
-- place, and none comes before the end of the start before it
abbrev pub IsLegal : LinkLimits → List Entry → Type 0
IsLegal l log = AllFollow l [] log
