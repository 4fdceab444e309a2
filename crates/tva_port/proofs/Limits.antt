-- What waits after a legal log is within the limits of each class.
use Rattle.tva_port.proofs.Common.{◌≡◌, ℕ, ◌+◌, ◌≤◌, ◌<◌, Bool, true, false, cond, List, [], ◌∷◌, ◌++◌, length, drop, Option, refl, ap, ◌∙◌, subst, arith, nat_tests, sum_by-cons, sum_by_push, DrrLimits, LinkLimits, Class, AreDrrLimits, AreClassLimits, AreLinkLimits, PacketData, packet_length, Fair, fair, has_key, items_of, bytes_in, all_bytes, lacks_queue, lacks_room, put, offer_leaves, take_leaves, IsFair, offer_cases, inner_key_of, Hier, hier, lacks_place, lacks_space, put_under, left_by_offer, left_keeps, hier_taken, RequestQueues, OneLevel, TwoLevels, none_under, request_leaves, request_taken, Entry, Queued, Started, Waiting, waiting_after, lacks_legacy_room, Follows, AllFollow, IsLegal, AreWithin, IsWithinLimits, StaysWithinLimits, put_leaves, start_leaves}
use Rattle.std.proofs.lemmas.List.{length-append}
use Rattle.tva_drr.proofs.Keeps.{fair-put, fair-taken}
use Rattle.tva_port.proofs.Logs.{FewStarted, legal-all, legal-front}
use Rattle.tva_port.proofs.Legality.{few-step}
use Rattle.tva_port.proofs.Waits.{waits-queued, waits-started}

pub class_limits : (l : DrrLimits) → AreClassLimits l → AreDrrLimits l
class_limits l a = grind (arith, nat_tests)

abbrev Stays : DrrLimits → Fair PacketData → Type 0
Stays l f = IsFair packet_length f × (f.limits ≡ l)

fair_empty : (l : DrrLimits) → AreClassLimits l → Stays l (fair l [])
fair_empty l a = (record { limits = class_limits l a; queues = record { few = omega arith; each = tt; turn = tt; bytes = omega arith } }, refl)

put_room : (f : Fair PacketData) (key : ℕ) (p : PacketData) → lacks_queue f key ≡ false → lacks_room packet_length f key p ≡ false
    → (has_key key f.queues ≡ false → length f.queues < f.limits.queues) × ((length (items_of key f.queues) + 1 ≤ f.limits.ring) × ((bytes_in packet_length (items_of key f.queues) + packet_length p ≤ f.limits.queue_bytes) × (all_bytes packet_length f.queues + packet_length p ≤ f.limits.class_bytes)))
put_room f key p h k = (λ n. grind (arith, nat_tests), (grind (arith, nat_tests), (grind (arith, nat_tests), grind (arith, nat_tests))))

stays-put : (l : DrrLimits) (f : Fair PacketData) (key : ℕ) (p : PacketData) → AreClassLimits l → (20 ≤ packet_length p) × (packet_length p ≤ 2048) → Stays l f → lacks_queue f key ≡ false → lacks_room packet_length f key p ≡ false → Stays l (fair f.limits (put f.limits.quantum key p f.queues))
stays-put l f key p a z s h k =
    let r = put_room f key p h k in
    let most : f.limits.max ≡ 2048 = ap (λ (x : DrrLimits). x.max) s.1 ∙ a.max in
    (record { limits = s.0.limits; queues = fair-put packet_length f.limits key p f.queues s.0.limits (omega arith, omega (arith, most)) s.0.queues r.0 r.1.0 r.1.1.0 r.1.1.1 }, s.1)

stays-offered : (l : DrrLimits) (f : Fair PacketData) (key : ℕ) (p : PacketData) → AreClassLimits l → (20 ≤ packet_length p) × (packet_length p ≤ 2048) → Stays l f → Stays l (offer_leaves packet_length f key p)
stays-offered l f key p a z s = offer_cases (lacks_queue f key) (lacks_room packet_length f key p) f (fair f.limits (put f.limits.quantum key p f.queues)) (λ (g : Fair PacketData). Stays l g) s (stays-put l f key p a z s)

stays-taken : (l : DrrLimits) (f : Fair PacketData) → Stays l f → Stays l (take_leaves packet_length f)
stays-taken l f s = (record { limits = s.0.limits; queues = fair-taken packet_length f.limits f.queues s.0.limits s.0.queues }, s.1)

pub left_same : (h : Hier PacketData) (o i : ℕ) (x : PacketData)
    → ((left_by_offer packet_length h o i x).limits ≡ h.limits) ×
    ((left_by_offer packet_length h o i x).inner ≡ h.inner)
left_same h o i x =
    offer_cases (lacks_place h o i) (lacks_space packet_length h o i x) h
    (hier h.limits h.inner (put_under packet_length h o i x))
    (λ (z : Hier PacketData). (z.limits ≡ h.limits) × (z.inner ≡ h.inner)) (refl, refl) (λ _ _. (refl, refl))

pub within-offered : (l : LinkLimits) (rs : RequestQueues) (key : ℕ) (p : PacketData) → AreLinkLimits l
    → (20 ≤ packet_length p) × (packet_length p ≤ 2048) → AreWithin l rs → AreWithin l (request_leaves rs key p)
within-offered l (OneLevel f) key p a z w = let s = stays-offered l.request f key p a.request z (w.1, w.2) in
    (w.0, s.0, s.1)
within-offered l (TwoLevels h) key p a z w = grind (arith, nat_tests, (left_same h key (inner_key_of p) p), (left_keeps packet_length h key (inner_key_of p) p w.1))

pub within-taken : (l : LinkLimits) (rs : RequestQueues) → AreWithin l rs → AreWithin l (request_taken rs)
within-taken l (OneLevel f) w = let s = stays-taken l.request f (w.1, w.2) in (w.0, s.0, s.1)
within-taken l (TwoLevels h) w = (w.0, hier_taken packet_length h.limits h.inner h.groups w.1, w.2)

within_none : (l : LinkLimits) (inner : Option ℕ) → l.request_inner ≡ inner → AreLinkLimits l
    → AreWithin l (none_under l.request inner)
within_none l inner e a = grind (arith, nat_tests, fair_empty)

legacy_room : (l : LinkLimits) (xs : List PacketData) (p : PacketData) → lacks_legacy_room l xs p ≡ false → (length (xs ++ p ∷ []) ≤ l.legacy_ring) × (bytes_in packet_length (xs ++ p ∷ []) ≤ l.legacy_bytes)
legacy_room l xs p h = grind (arith, nat_tests, length-append xs (p ∷ []), sum_by_push packet_length xs p)

legacy_kept : (l : LinkLimits) (xs : List PacketData) (p : PacketData) (b : Bool) → lacks_legacy_room l xs p ≡ b → (length xs ≤ l.legacy_ring) × (bytes_in packet_length xs ≤ l.legacy_bytes) → (length (cond b xs (xs ++ p ∷ [])) ≤ l.legacy_ring) × (bytes_in packet_length (cond b xs (xs ++ p ∷ [])) ≤ l.legacy_bytes)
legacy_kept l xs p true e h = h
legacy_kept l xs p false e h = legacy_room l xs p e

legacy_less : (l : LinkLimits) (xs : List PacketData) → (length xs ≤ l.legacy_ring) × (bytes_in packet_length xs ≤ l.legacy_bytes) → (length (drop 1 xs) ≤ l.legacy_ring) × (bytes_in packet_length (drop 1 xs) ≤ l.legacy_bytes)
legacy_less l [] h = h
legacy_less l (x ∷ xs) h = (omega arith, omega (arith, h.1, sum_by-cons packet_length x xs))

pub within-queued : (l : LinkLimits) (w : Waiting) (class : Class) (key : ℕ) (p : PacketData) → AreLinkLimits l → (20 ≤ packet_length p) × (packet_length p ≤ 2048) → IsWithinLimits l w → IsWithinLimits l (put_leaves l w class key p)
within-queued l w class key p a z h = grind (arith, within-offered l w.requests key p a z, stays-offered l.regular w.regulars key p a.regular z, legacy_kept l w.legacy p)

pub within-started : (l : LinkLimits) (w : Waiting) (class : Class) → IsWithinLimits l w → IsWithinLimits l (start_leaves class w)
within-started l w class h = grind (arith, within-taken l w.requests, stays-taken l.regular w.regulars, legacy_less l w.legacy)

abbrev IsBounded : LinkLimits → List Entry → Type 0
IsBounded l log = IsWithinLimits l (waiting_after l log) × FewStarted log

bounded-step : (l : LinkLimits) → AreLinkLimits l → (before : List Entry) (e : Entry) → Follows l before e → IsBounded l before → IsBounded l (before ++ e ∷ [])
bounded-step l a before (Queued t class key p) f h =
    (subst (λ (w : Waiting). IsWithinLimits l w) (waits-queued l before t class key p h.1 f.offer) (within-queued l (waiting_after l before) class key p a f.sized h.0), few-step l before (Queued t class key p) f h.1)
bounded-step l a before (Started t class p) f h =
    (subst (λ (w : Waiting). IsWithinLimits l w) (waits-started l before t class p) (within-started l (waiting_after l before) class h.0), few-step l before (Started t class p) f h.1)

pub begins : (l : LinkLimits) → AreLinkLimits l → IsBounded l []
begins l a = grind (arith, nat_tests, within_none, fair_empty)

pub stays_within : (l : LinkLimits) (log : List Entry) → AreLinkLimits l → IsLegal l log → StaysWithinLimits l log
stays_within l log a g = λ before rest e. (legal-all l (IsBounded l) (begins l a) (bounded-step l a) before (legal-front l [] before rest (subst (λ z. AllFollow l [] z) e g))).0
