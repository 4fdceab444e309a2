-- Crate: an offer and a decision of which the packet is in the caller's hand.
use Rattle.std.specs.Prelude.{◌≡◌, Option, Some, None, IsSome}
use Rattle.tva_shim.specs.Packets.{PacketData}
use Rattle.tva_drr.specs.declared.offered.Offered.{Offered}
use Rattle.tva_drr.specs.declared.offered.Offered.TheVariants as offers
use Rattle.tva_port.specs.declared.decision.Decision.{Decision}
use Rattle.tva_port.specs.declared.decision.Decision.TheVariants as decisions
use Rattle.tva_port.specs.declared.hand.Answer.{Answer}
use Rattle.tva_port.specs.declared.hand.Answer.TheVariants as answers
use Rattle.tva_port.specs.declared.hand.Next.{Next}
use Rattle.tva_port.specs.declared.hand.Next.TheVariants as nexts

-- an answer, with the packet in the hand where it is refused
abbrev pub answer_by : Answer → Option PacketData → Offered PacketData
answer_by answers.NoQueue (Some p) = offers.NoQueue p
answer_by answers.QueueFull (Some p) = offers.QueueFull p
answer_by answer hand = offers.Queued

-- the hand is empty exactly where the packet is queued
abbrev pub AreOneAnswer : Answer → Option PacketData → Type 0
AreOneAnswer answers.Queued hand = hand ≡ None
AreOneAnswer answer hand = IsSome hand

-- what a hand holds that held a packet, after such an answer
abbrev pub kept_by : Answer → PacketData → Option PacketData
kept_by answers.Queued p = None
kept_by answer p = Some p

-- a decision, with the packet in the hand where it starts
abbrev pub decision_by : Next → Option PacketData → Decision
decision_by (nexts.Start class) (Some p) = decisions.Start class p
decision_by (nexts.WaitUntil time) hand = decisions.WaitUntil time
decision_by next hand = decisions.Idle

-- the hand holds a packet exactly where one starts
abbrev pub AreOneDecision : Next → Option PacketData → Type 0
AreOneDecision (nexts.Start class) hand = IsSome hand
AreOneDecision next hand = hand ≡ None
