-- What waits after one more entry, by the class of its packet.
use Rattle.tva_port.proofs.Common.{◌≡◌, ℕ, Bool, cond, List, [], ◌∷◌, ◌++◌, ◌⊎◌, LinkLimits, Class, PacketData, packet_length, Fair, fair, lacks_queue, lacks_room, put, offer_answer, offer_leaves, Hier, hier, lacks_place, lacks_space, put_under, answer_to_offer, left_by_offer, RequestQueues, request_answer, request_leaves, Entry, Queued, Started, Waiting, waiting_after, queue_answer, queued_by, put_leaves, start_leaves, arith, nat_tests}
use Rattle.tva_drr.specs.declared.offered.Offered.TheVariants as offers
use Rattle.tva_port.proofs.Logs.{requests-push, regulars-push, FewStarted, legacy-same, legacy-queued, legacy-started}

-- a packet is queued, or nothing changes
abbrev pub Puts : LinkLimits → Waiting → Class → ℕ → PacketData → Type 0
Puts l w class key p =
    (queue_answer l w class key p ≡ offers.Queued)
    ⊎ ((put_leaves l w class key p ≡ w) × ((t : ℕ) → queued_by (queue_answer l w class key p) t class key p ≡ []))

answered : {A : Type 0} (b c : Bool) (f g : A) (key : ℕ) (p : PacketData)
    → (cond b (offers.NoQueue p) (cond c (offers.QueueFull p) offers.Queued) ≡ offers.Queued)
    ⊎ ((cond b f (cond c f g) ≡ f) × ((t : ℕ) (class : Class) → queued_by
    (cond b (offers.NoQueue p) (cond c (offers.QueueFull p) offers.Queued)) t class key p ≡ []))
answered b c f g key p = grind (arith, nat_tests)

offers_or : (f : Fair PacketData) (key : ℕ) (p : PacketData) → (offer_answer packet_length f key p ≡ offers.Queued) ⊎ ((offer_leaves packet_length f key p ≡ f) × ((t : ℕ) (class : Class) → queued_by (offer_answer packet_length f key p) t class key p ≡ []))
offers_or f key p = answered (lacks_queue f key) (lacks_room packet_length f key p) f
    (fair f.limits (put f.limits.quantum key p f.queues)) key p

pub within_or : (h : Hier PacketData) (key inner : ℕ) (p : PacketData)
    → (answer_to_offer packet_length h key inner p ≡ offers.Queued) ⊎
    ((left_by_offer packet_length h key inner p ≡ h) ×
    ((t : ℕ) (class : Class) → queued_by (answer_to_offer packet_length h key inner p) t class key p ≡ []))
within_or h key inner p = answered (lacks_place h key inner) (lacks_space packet_length h key inner p) h
    (hier h.limits h.inner (put_under packet_length h key inner p)) key p

requests_or : (rs : RequestQueues) (key : ℕ) (p : PacketData)
    → (request_answer rs key p ≡ offers.Queued) ⊎
    ((request_leaves rs key p ≡ rs) × ((t : ℕ) (class : Class) → queued_by
    (request_answer rs key p) t class key p ≡ []))
requests_or rs key p = grind (arith, nat_tests, offers_or, within_or)

pub puts_or : (l : LinkLimits) (w : Waiting) (class : Class) (key : ℕ) (p : PacketData) → Puts l w class key p
puts_or l w class key p = grind (arith, nat_tests, requests_or, offers_or)

pub waits-queued : (l : LinkLimits) (log : List Entry) (t : ℕ) (class : Class) (key : ℕ) (p : PacketData) → FewStarted log → queue_answer l (waiting_after l log) class key p ≡ offers.Queued
    → put_leaves l (waiting_after l log) class key p ≡ waiting_after l (log ++ Queued t class key p ∷ [])
waits-queued l log t class key p f e = grind (arith, requests-push, regulars-push, legacy-same, legacy-queued)

pub waits-started : (l : LinkLimits) (log : List Entry) (t : ℕ) (class : Class) (p : PacketData) → start_leaves class (waiting_after l log) ≡ waiting_after l (log ++ Started t class p ∷ [])
waits-started l log t class p = grind (arith, requests-push, regulars-push, legacy-same, legacy-started)
