-- What is known of a packet in the caller's hand.
use Rattle.tva_port.proofs.Common.{◌≡◌, ℕ, Bool, true, false, cond, Option, Some, None, refl, sym, true≢false, IsSome, LinkLimits, Class, PacketData, packet_length, inner_key_of, Offered, lacks_queue, lacks_room, lacks_place, lacks_space, RequestQueues, OneLevel, TwoLevels, Answer, AreOneAnswer, answer_by, kept_by, request_answer, Decision, Waiting, queue_answer, is_start, decision_leaves, freed, arith, nat_tests}
use Rattle.tva_drr.specs.declared.offered.Offered.TheVariants as offers
use Rattle.tva_port.specs.declared.hand.Answer.TheVariants as answers

pub same_packet : (hand : Option PacketData) (one other : PacketData) → hand ≡ Some one → hand ≡ Some other → one ≡ other
same_packet hand one other e f = cc

-- what is so of each packet that the hand may hold is so, where it holds one
pub by_packet : {A : Type 0} (hand : Option PacketData) → IsSome hand → ((packet : PacketData) → hand ≡ Some packet → A) → A
by_packet (Some packet) held by = by packet refl
by_packet None held by = absurd (true≢false (sym held))

-- what doesn't start leaves what waits
pub rested_leaves : (d : Decision) (w : Waiting) → is_start d ≡ false → decision_leaves d w ≡ w
rested_leaves d w e = grind (arith, nat_tests)

-- and the time at which the link is free
pub rested_free : (l : LinkLimits) (free now : ℕ) (d : Decision) → is_start d ≡ false → freed l free now d ≡ free
rested_free l free now d e = grind (arith, nat_tests)

-- ## what a hand holds after an offer

-- an answer gives back no other packet
abbrev pub IsOf : PacketData → Offered PacketData → Type 0
IsOf p offers.Queued = Unit {0}
IsOf p (offers.NoQueue q) = q ≡ p
IsOf p (offers.QueueFull q) = q ≡ p

of_tests : (b c : Bool) (p : PacketData) → IsOf p (cond b (offers.NoQueue p) (cond c (offers.QueueFull p) offers.Queued))
of_tests b c p = grind (arith, nat_tests)

of_requests : (rs : RequestQueues) (key : ℕ) (p : PacketData) → IsOf p (request_answer rs key p)
of_requests (OneLevel f) key p = of_tests (lacks_queue f key) (lacks_room packet_length f key p) p
of_requests (TwoLevels h) key p = of_tests (lacks_place h key (inner_key_of p)) (lacks_space packet_length h key (inner_key_of p) p) p

of_legacy : (b : Bool) (p : PacketData) → IsOf p (cond b (offers.QueueFull p) offers.Queued)
of_legacy true p = refl
of_legacy false p = tt

pub of_queue : (l : LinkLimits) (w : Waiting) (class : Class) (key : ℕ) (p : PacketData) → IsOf p (queue_answer l w class key p)
of_queue l w class key p = grind (arith, nat_tests, of_requests, of_tests, of_legacy)

pub kept : (answer : Answer) (hand : Option PacketData) (p : PacketData) → AreOneAnswer answer hand → IsOf p (answer_by answer hand) → hand ≡ kept_by answer p
kept answer hand p one of = grind (arith, one, of)
