-- A link while a packet waits: what its log says of each time, and of each start, where the packet is queued, and what
-- then goes before it.
use Rattle.tva_port.proofs.Common.{◌≡◌, ℕ, zero, suc, ◌+◌, ◌*◌, ◌<◌, ◌≤◌, true, false, cond, ltb, List, [], ◌∷◌, ◌++◌, drop, Option, Some, None, refl, sym, ap, ◌∙◌, subst, inl, inr, arith, append-nil, mul_assoc, ◌-◌, length, length-append, append_assoc, filter_map, mul-le-mul_right, add-mul, mul_comm, filter-append, LinkLimits, Class, Request, Regular, Legacy, AreLinkLimits, PacketData, packet_length, first, head, Fair, items_of, bytes_in, Decision, Start, cost, next_in, request_answer, request_leaves, requests_with, Entry, Queued, Started, entry_time, NoneLater, entries_before, free_after, waiting_after, queued_legacy, covered, start_or, decision, credit_after, is_start, RestsAt, MissesNone, Follows, AllFollow, IsStarted, IsLegal, IsQueued, starts_first, start_among, waiting_with, requests_until, StartsBy, DrrLimits, lacks_queue, lacks_room, offer_answer, offer_leaves, most_until, goes_last, inner_key_of, offered_is, left_last, RequestQueues, OneLevel, TwoLevels, nat_tests}
use Rattle.tva_port.proofs.Logs.{later-front, entries_before-all, free-queued, free-started, legal-all, queued-push, goes_on-push, legal-front, requests-push, regulars-push}
use Rattle.tva_port.proofs.Deciding.{Rests, none_starts, covered_pays}
use Rattle.tva_port.proofs.Legality.{started_is}
use Rattle.tva_port.proofs.Levels.{head_sized, request_sized}
use Rattle.tva_port.proofs.Idling.{within}
use Rattle.tva_port.proofs.Tracking.{regulars_now, IsQueueing, kept_within, most_of_requests, Tracks, tracks_first}
use Rattle.tva_drr.specs.declared.offered.Offered.TheVariants as offers
use Rattle.tva_port.proofs.Stocked.{queued_tests}

-- ## costs

pub cost-add : (l : LinkLimits) (a b : ℕ) → cost l (a + b) ≡ cost l a + cost l b
cost-add l a b = ap (λ z. z * l.ns_per_byte) (add-mul a b l.share) ∙ add-mul (a * l.share) (b * l.share) l.ns_per_byte

pub cost_le : (l : LinkLimits) (a b : ℕ) → a ≤ b → cost l a ≤ cost l b
cost_le l a b h = mul-le-mul_right l.ns_per_byte (mul-le-mul_right l.share h)

-- a request costs at least twice the time that it occupies the link
pub cost_twice : (l : LinkLimits) (n : ℕ) → AreLinkLimits l → 2 * (n * l.ns_per_byte) ≤ cost l n
cost_twice l n a =
    let m : 2 * n ≤ n * l.share = (let k = mul-le-mul_right n a.share.0 in omega (arith, k, mul_comm l.share n)) in
    let k = mul-le-mul_right l.ns_per_byte m in
    omega (arith, k, mul_assoc 2 n l.ns_per_byte)

-- ## times

pub order_of : (l : LinkLimits) (before : List Entry) (e : Entry) → Follows l before e → NoneLater (entry_time e) before
order_of l before (Queued t c k p) f = f.order
order_of l before (Started t c p) f = f.order

-- an entry is no later than those after it
abbrev ComeFrom : ℕ → List Entry → Type 0
ComeFrom time [] = Unit {0}
ComeFrom time (e ∷ es) = (time ≤ entry_time e) × ComeFrom time es

come_from : (l : LinkLimits) (time : ℕ) (before es : List Entry) → AllFollow l before es → ((t : ℕ) → NoneLater t before → time ≤ t) → ComeFrom time es
come_from l time before [] g h = tt
come_from l time before (e ∷ es) g h = (h (entry_time e) (order_of l before e g.0), come_from l time (before ++ e ∷ []) es g.1 (λ t n. h t (later-front t before e n).0))

cut_none : (until : ℕ) (es : List Entry) → ComeFrom until es → entries_before until es ≡ []
cut_none until [] c = refl
cut_none until (e ∷ es) c = grind (arith, nat_tests, cut_none until es)

later_from : (time until : ℕ) (es : List Entry) → until ≤ time → ComeFrom time es → ComeFrom until es
later_from time until [] h c = tt
later_from time until (e ∷ es) h c = (omega (arith, h, c.0), later_from time until es h c.1)

-- just before an entry, the log up to then stands
cut_here : (l : LinkLimits) (log : List Entry) (e : Entry) (es : List Entry) (time until : ℕ) → IsLegal l (log ++ e ∷ []) → AllFollow l (log ++ e ∷ []) es → NoneLater time log → time < until → until ≤ entry_time e → entries_before until (log ++ e ∷ es) ≡ log
cut_here l log e es time until g r n h k =
    let after : ComeFrom (entry_time e) es = come_from l (entry_time e) (log ++ e ∷ []) es r (λ t m. (later-front t log e m).1) in
    let none : entries_before until (e ∷ es) ≡ [] = cut_none until (e ∷ es) (k, later_from (entry_time e) until es k after) in
    filter-append (λ (x : Entry). ltb (entry_time x) until) log (e ∷ es) ∙ (ap (λ zs. entries_before until log ++ zs) none ∙ (append-nil (entries_before until log) ∙ entries_before-all time until log h n))

-- so where no start was missed, the link rests until the next entry, and behind the last one
module _ (l : LinkLimits) (last until : ℕ) (whole : List Entry) (none : MissesNone l until whole) (known : last < until) where
  pub quiet : (log : List Entry) (e : Entry) (es : List Entry) (time later : ℕ) → whole ≡ log ++ e ∷ es → IsLegal l log → Follows l log e → AllFollow l (log ++ e ∷ []) es → NoneLater time log → later ≤ entry_time e → later ≤ until → (v : ℕ) → time ≤ v → v < later → RestsAt l log v
  quiet log e es time later q g f r n h u v i k =
      subst (λ z. RestsAt l z v) (ap (λ z. entries_before (v + 1) z) q ∙ cut_here l log e es time (v + 1) (goes_on-push l [] log e g f) r n (omega arith) (omega arith)) (none v (omega arith))

  pub quiet_end : (log : List Entry) (time : ℕ) → whole ≡ log → NoneLater time log → (v : ℕ) → time ≤ v → v < last + 1 → RestsAt l log v
  quiet_end log time q n v i k = subst (λ z. RestsAt l z v) (ap (λ z. entries_before (v + 1) z) q ∙ entries_before-all time (v + 1) log (omega arith) n) (none v (omega arith))

-- where no start was missed, and the log up to a time is this one, a link that is free starts nothing then
pub rests_free : (l : LinkLimits) (log : List Entry) (time : ℕ) → RestsAt l log time → free_after l log ≤ time → is_start (decision l log time) ≡ false
rests_free l log time r h = elim r [ inl k ↦ absurd (omega arith) | inr k ↦ k ]

pub resting_at : (l : LinkLimits) (log : List Entry) (time : ℕ) → is_start (decision l log time) ≡ false → Rests l (waiting_after l log) (credit_after l log time)
unfolding decision
resting_at l log time e = none_starts l (waiting_after l log) (credit_after l log time) time e

-- ## starts

-- a start of another class finds no request that is covered, and a legacy one no regular packet
no_request : (a other : Decision) (o : Option PacketData) (class : Class) (p : PacketData) → (class ≡ Request → ⊥) → start_or Request o other ≡ Start class p → o ≡ None
no_request a other None class p n e = refl
no_request a other (Some x) class p n e = absurd (n (let k : Request ≡ class = cc in sym k))

no_regular : (o b : Option PacketData) (other : Decision) (p : PacketData) → start_or Request o (start_or Regular b other) ≡ Start Legacy p → b ≡ None
no_regular o b other p e = grind arith

pub not_covered : (l : LinkLimits) (log : List Entry) (time : ℕ) (class : Class) (p : PacketData)
    → (class ≡ Request → ⊥) → decision l log time ≡ Start class p
    → covered l (credit_after l log time) (next_in (waiting_after l log).requests) ≡ None
unfolding decision
not_covered l log time class p n e = no_request (Start class p) _
    (covered l (credit_after l log time) (next_in (waiting_after l log).requests)) class p n e

pub no_regulars : (l : LinkLimits) (log : List Entry) (time : ℕ) (p : PacketData) → decision l log time ≡ Start Legacy p → head (waiting_after l log).regulars.queues ≡ None
unfolding decision
no_regulars l log time p e = no_regular (covered l (credit_after l log time)
    (next_in (waiting_after l log).requests)) (head (waiting_after l log).regulars.queues) _ p e

-- ## sizes

abbrev AreSized : List PacketData → Type 0
AreSized [] = Unit {0}
AreSized (p ∷ ps) = (packet_length p ≤ 2048) × AreSized ps

sized-push : (ps qs : List PacketData) → AreSized ps → AreSized qs → AreSized (ps ++ qs)
sized-push [] qs h k = k
sized-push (p ∷ ps) qs h k = (h.0, sized-push ps qs h.1 k)

legacy_sized : (l : LinkLimits) (before : List Entry) (e : Entry) → Follows l before e → AreSized (filter_map queued_legacy (e ∷ []))
legacy_sized l before e f = grind (arith, nat_tests)

all_sized : (l : LinkLimits) (log : List Entry) → IsLegal l log → AreSized (filter_map queued_legacy log)
all_sized l log g =
    legal-all l (λ (z : List Entry). AreSized (filter_map queued_legacy z)) tt
    (λ before e f h. subst AreSized (sym (queued-push before e)) (sized-push (filter_map queued_legacy before) (filter_map queued_legacy (e ∷ [])) h (legacy_sized l before e f))) log g

sized-drop : (n : ℕ) (ps : List PacketData) (p : PacketData) → AreSized ps → first (drop n ps) ≡ Some p → packet_length p ≤ 2048
sized-drop zero [] p h e = absurd (cc)
sized-drop zero (x ∷ xs) p h e = let k : x ≡ p = cc in subst (λ z. packet_length z ≤ 2048) k h.0
sized-drop (suc n) [] p h e = absurd (cc)
sized-drop (suc n) (x ∷ xs) p h e = sized-drop n xs p h.1 e

-- each packet that starts has at most 2,048 bytes
pub start_sized : (l : LinkLimits) (log : List Entry) (time : ℕ) (class : Class) (p : PacketData) → AreLinkLimits l → IsLegal l log → IsStarted l log time class p → packet_length p ≤ 2048
start_sized l log time Request p a g f = grind (arith, nat_tests, (covered_pays l (credit_after l log time) (next_in (waiting_after l log).requests) p (started_is l log time Request p f)), (started_is l log time Request p f), (request_sized l (waiting_after l log).requests p (within l log a g).requests))
start_sized l log time Regular p a g f = grind (arith, nat_tests, (head_sized l.regular (waiting_after l log).regulars.queues p (regulars_now l log (within l log a g)).queues.each (started_is l log time Regular p f)), (regulars_now l log (within l log a g)), (started_is l log time Regular p f))
start_sized l log time Legacy p a g f = sized-drop _ (filter_map queued_legacy log) p (all_sized l log g) (started_is l log time Legacy p f)

-- so a link is free at most the time of a greatest packet after its last entry
abbrev IsFreeSoon : LinkLimits → List Entry → Type 0
IsFreeSoon l log = IsLegal l log × ((time : ℕ) → NoneLater time log → free_after l log ≤ time + 2048 * l.ns_per_byte)

free_soon-step : (l : LinkLimits) → AreLinkLimits l → (before : List Entry) (e : Entry) → Follows l before e → IsFreeSoon l before → IsFreeSoon l (before ++ e ∷ [])
free_soon-step l a before (Queued t c k p) f h =
    (goes_on-push l [] before (Queued t c k p) h.0 f, λ time n. let r = later-front time before (Queued t c k p) n in omega (arith, free-queued l 0 before t c k p, h.1 time r.0))
free_soon-step l a before (Started t c p) f h = (
  goes_on-push l [] before (Started t c p) h.0 f,
  λ time n.
      let r = later-front time before (Started t c p) n in
      omega (arith, free-started l 0 before t c p, r.1, mul-le-mul_right l.ns_per_byte (start_sized l before t c p a h.0 f)),
)

pub free_soon : (l : LinkLimits) (log : List Entry) (time : ℕ) → AreLinkLimits l → IsLegal l log → NoneLater time log → free_after l log ≤ time + 2048 * l.ns_per_byte
free_soon l log time a g n = (legal-all l (IsFreeSoon l) (tt, λ t _. omega arith) (free_soon-step l a) log g).1 time n

-- ## the start of an item

-- among these entries the packet starts by that time, where so many wait before it
pub record Finds (l : LinkLimits) (class : Class) (key : ℕ) (p : PacketData) (ahead : ℕ) (log rest : List Entry) (time : ℕ) : Type 0 where
  pub start : ℕ
  pub found : start_among l class key p ahead log rest ≡ Some (Started start class p)
  pub soon : start ≤ time

module _ (l : LinkLimits) (class : Class) (key : ℕ) (p : PacketData) where
  start_other : (n : ℕ) (log : List Entry) (e : Entry) (es : List Entry) → starts_first l class key p log e ≡ false
      → start_among l class key p n log (e ∷ es) ≡ start_among l class key p n (log ++ e ∷ []) es
  start_other zero log e es h = ap (λ b. cond b (Some e) (start_among l class key p zero (log ++ e ∷ []) es)) h
  start_other (suc n) log e es h = ap (λ b. start_among l class key p (cond b n (suc n)) (log ++ e ∷ []) es) h

  pub finds_later : (n : ℕ) (log : List Entry) (e : Entry) (es : List Entry) (time : ℕ)
      → starts_first l class key p log e ≡ false → Finds l class key p n (log ++ e ∷ []) es time
      → Finds l class key p n log (e ∷ es) time
  finds_later n log e es time h f = record { start = f.start; found = start_other n log e es h ∙ f.found; soon = f.soon }

  pub finds_next : (n : ℕ) (log : List Entry) (e : Entry) (es : List Entry) (time : ℕ)
      → starts_first l class key p log e ≡ true → Finds l class key p n (log ++ e ∷ []) es time
      → Finds l class key p (suc n) log (e ∷ es) time
  finds_next n log e es time h f = record { start = f.start; found = grind (arith, nat_tests, f.found); soon = f.soon }

  pub finds_here : (log : List Entry) (start : ℕ) (q : PacketData) (es : List Entry) (time : ℕ)
      → starts_first l class key p log (Started start class q) ≡ true → q ≡ p → start ≤ time
      → Finds l class key p zero log (Started start class q ∷ es) time
  finds_here log start q es time h e k = record { start = start; found = grind (arith, nat_tests); soon = k }

pub goes_rest : (l : LinkLimits) (past log rest : List Entry) → AllFollow l past (log ++ rest) → AllFollow l (past ++ log) rest
goes_rest l past [] rest g = subst (λ z. AllFollow l z rest) (sym (append-nil past)) g
goes_rest l past (e ∷ es) rest g = subst (λ z. AllFollow l z rest) (append_assoc past (e ∷ []) es) (goes_rest l (past ++ e ∷ []) es rest g.1)

pub legal_rest : (l : LinkLimits) (before : List Entry) (e : Entry) (rest : List Entry) → IsLegal l (before ++ e ∷ rest) → AllFollow l (before ++ e ∷ []) rest
legal_rest l before e rest g = goes_rest l [] (before ++ e ∷ []) rest (subst (λ z. AllFollow l [] z) (sym (append_assoc before (e ∷ []) rest)) g)

pub legal_up : (l : LinkLimits) (before : List Entry) (e : Entry) (rest : List Entry) → IsLegal l (before ++ e ∷ rest) → IsLegal l (before ++ e ∷ [])
legal_up l before e rest g = legal-front l [] (before ++ e ∷ []) rest (subst (λ z. AllFollow l [] z) (sym (append_assoc before (e ∷ []) rest)) g)

-- a queued item goes last
put_items : (f : Fair PacketData) (key : ℕ) (p : PacketData) → offer_answer packet_length f key p ≡ offers.Queued
    → items_of key (offer_leaves packet_length f key p).queues ≡ items_of key f.queues ++ p ∷ []
put_items f key p e = grind (arith, nat_tests, (queued_tests (lacks_queue f key) (lacks_room packet_length f key p) p e), (offered_is packet_length f key p), (goes_last f.limits f.limits.quantum key p f.queues))

put_request : (rs : RequestQueues) (key : ℕ) (p : PacketData) → request_answer rs key p ≡ offers.Queued
    → requests_with (request_leaves rs key p) key p ≡ requests_with rs key p ++ p ∷ []
put_request (OneLevel f) key p e = put_items f key p e
put_request (TwoLevels h) key p e = (left_last packet_length h key (inner_key_of p) p e).own

-- after a queueing the packet is the last in its queue
pub queued_last : (l : LinkLimits) (c : Class) (before : List Entry) (t key : ℕ) (p : PacketData) → IsQueueing c
    → IsQueued l before t c key p
    → waiting_with l c key p (before ++ Queued t c key p ∷ []) ≡ waiting_with l c key p before ++ p ∷ []
queued_last l c before t key p q f = grind (arith, nat_tests, requests-push, put_request, regulars-push, put_items)

-- and at most the bound goes up to it
pub regular_first : (l : LinkLimits) (before : List Entry) (t key : ℕ) (p : PacketData) → AreLinkLimits l
    → IsLegal l (before ++ Queued t Regular key p ∷ []) → IsQueued l before t Regular key p
    → Tracks key p (most_until l.regular
    (bytes_in packet_length (waiting_with l Regular key p (before ++ Queued t Regular key p ∷ []))))
    (OneLevel (waiting_after l (before ++ Queued t Regular key p ∷ [])).regulars)
    (waiting_with l Regular key p before) 0
regular_first l before t key p a g f =
    let log : List Entry = before ++ Queued t Regular key p ∷ [] in
    let own : List PacketData = waiting_with l Regular key p before in
    let most : ℕ = most_until l.regular (bytes_in packet_length (waiting_with l Regular key p log)) in
    let e = queued_last l Regular before t key p tt f in
    let w = (within l log a g).regulars in
    tracks_first key p most (OneLevel (waiting_after l log).regulars) own w.0 (omega (arith, f.sized)) e
    (omega (
      arith,
      ap (λ (d : DrrLimits). most_until d (bytes_in packet_length (own ++ p ∷ []))) w.1,
      ap (λ xs. most_until l.regular (bytes_in packet_length xs)) e,
    ))

pub request_first : (l : LinkLimits) (before : List Entry) (t key : ℕ) (p : PacketData) → AreLinkLimits l
    → IsLegal l (before ++ Queued t Request key p ∷ []) → IsQueued l before t Request key p
    → Tracks key p
    (requests_until l.request l.request_inner
    (bytes_in packet_length (waiting_with l Request key p (before ++ Queued t Request key p ∷ []))))
    (waiting_after l (before ++ Queued t Request key p ∷ [])).requests (waiting_with l Request key p before) 0
request_first l before t key p a g f =
    let log : List Entry = before ++ Queued t Request key p ∷ [] in
    let own : List PacketData = waiting_with l Request key p before in
    let most : ℕ = requests_until l.request l.request_inner (bytes_in packet_length (waiting_with l Request key p log)) in
    let e = queued_last l Request before t key p tt f in
    let rs : RequestQueues = (waiting_after l log).requests in
    let w = (within l log a g).requests in
    tracks_first key p most rs own (kept_within l rs w) (omega (arith, f.sized)) e
    (omega (
      arith,
      most_of_requests l rs (bytes_in packet_length (own ++ p ∷ [])) w,
      ap (λ xs. requests_until l.request l.request_inner (bytes_in packet_length xs)) e,
    ))

-- what is found is the start of the packet
pub starts_by_found : (l : LinkLimits) (c : Class) (before after : List Entry) (t key : ℕ) (p : PacketData)
    (time : ℕ) → waiting_with l c key p (before ++ Queued t c key p ∷ []) ≡ waiting_with l c key p before ++ p ∷ []
    → Finds l c key p (length (waiting_with l c key p before)) (before ++ Queued t c key p ∷ []) after time
    → StartsBy l c key p (before ++ Queued t c key p ∷ []) after time
starts_by_found l c before after t key p time e f = grind (arith, nat_tests, length-append)
