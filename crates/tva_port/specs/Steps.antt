-- Kit: the steps of a port on what it keeps.
use Rattle.std.specs.Prelude.{ℕ, ◌+◌, ◌-◌, ◌*◌, ◌≤◌, min, if◌then◌else◌, [], ◌∷◌, ◌++◌, drop}
use Rattle.tva_base.specs.declared.limits.LinkLimits.{LinkLimits}
use Rattle.tva_base.specs.declared.packet.Class.{Class}
use Rattle.tva_base.specs.declared.packet.Class.TheVariants.{Request, Regular, Legacy}
use Rattle.tva_shim.specs.Packets.{PacketData, packet_length}
use Rattle.tva_drr.specs.Offer.{offer_leaves}
use Rattle.tva_drr.specs.Take.{take_leaves}
use Rattle.tva_port.specs.declared.decision.Decision.{Decision}
use Rattle.tva_port.specs.declared.decision.Decision.TheVariants.{Start}
use Rattle.tva_port.specs.Levels.{request_leaves, request_taken}
use Rattle.tva_port.specs.Requests.{cost, cap}
use Rattle.tva_port.specs.Waiting.{Waiting, waiting, lacks_legacy_room}

-- the credit after so many nanoseconds
abbrev pub grown : LinkLimits → ℕ → ℕ → ℕ
grown l credit passed = min (cap l) (credit + passed)

-- what waits after a packet was queued or refused
abbrev pub put_leaves : LinkLimits → Waiting → Class → ℕ → PacketData → Waiting
put_leaves l w Request key packet = waiting (request_leaves w.requests key packet) w.regulars w.legacy
put_leaves l w Regular key packet = waiting w.requests (offer_leaves packet_length w.regulars key packet) w.legacy
put_leaves l w Legacy key packet =
    waiting w.requests w.regulars (if lacks_legacy_room l w.legacy packet then w.legacy else w.legacy ++ packet ∷ [])

-- what waits after a start of the class
abbrev pub start_leaves : Class → Waiting → Waiting
start_leaves Request w = waiting (request_taken w.requests) w.regulars w.legacy
start_leaves Regular w = waiting w.requests (take_leaves packet_length w.regulars) w.legacy
start_leaves Legacy w = waiting w.requests w.regulars (drop 1 w.legacy)

-- what waits after a decision
abbrev pub decision_leaves : Decision → Waiting → Waiting
decision_leaves (Start class packet) w = start_leaves class w
decision_leaves d w = w

-- the credit after a decision
abbrev pub paid : LinkLimits → ℕ → Decision → ℕ
paid l credit (Start Request packet) = credit - cost l (packet_length packet)
paid l credit d = credit

-- when the link is free after a decision at that time
abbrev pub freed : LinkLimits → ℕ → ℕ → Decision → ℕ
freed l free now (Start class packet) = now + packet_length packet * l.ns_per_byte
freed l free now d = free

-- the credit covers what a decision costs
abbrev pub IsPaid : LinkLimits → ℕ → Decision → Type 0
IsPaid l credit (Start Request packet) = cost l (packet_length packet) ≤ credit
IsPaid l credit d = Unit {0}
