-- What every legal log keeps: no more legacy packets start than were queued, the debt never passes the
-- cap, the requests keep their rate, and no two packets start at one time.
use Rattle.tva_port.proofs.Common.{◌≡◌, ℕ, ◌+◌, ◌-◌, ◌*◌, ◌≤◌, ◌<◌, List, [], ◌∷◌, ◌++◌, length, drop, filter, Some, refl, sym, ap, subst, zero, suc, arith, append-nil, filter_map, count_by, All, mul-le-mul, AreLinkLimits, sum_by_push, filter-append, filter_map-append, All-nil, All-head, All-tail, All-push, All-weaker, LinkLimits, Class, Request, Regular, Legacy, PacketData, packet_length, first, start, cost, costs, debt, cap, next_in, Entry, Queued, Started, NoneLater, request_starts, free_after, queued_legacy, is_legacy_start, waiting_after, decision, credit_after, IsStarted, Follows, IsLegal, is_between, IsWithinRate, start_time, start_times, AreRising, nat_tests}
use Rattle.std.proofs.lemmas.List.{length-append}
use Rattle.tva_port.specs.Requests.{Start}
use Rattle.tva_port.proofs.Debts.{AreBy, cost_at, debt-push, by_between, costs_owed}
use Rattle.tva_port.proofs.Logs.{later-front, starts_by, starts-push, starts-same, free-queued, free-started, FewStarted, count-push, queued-push, legal-all}
use Rattle.tva_port.proofs.Deciding.{next_of, start_is, covered_pays}

-- the next packet of the class at a start
pub started_is : (l : LinkLimits) (before : List Entry) (time : ℕ) (class : Class) (p : PacketData) → IsStarted l before time class p → next_of l (waiting_after l before) (credit_after l before time) class ≡ Some p
unfolding decision
started_is l before time class p s = start_is l (waiting_after l before) (credit_after l before time) time class p s.decided

some_left : (n : ℕ) (xs : List PacketData) (p : PacketData) → first (drop n xs) ≡ Some p → n < length xs
some_left zero [] p e = absurd (cc)
some_left zero (x ∷ xs) p e = omega arith
some_left (suc n) [] p e = absurd (cc)
some_left (suc n) (x ∷ xs) p e = let h = some_left n xs p e in omega arith

pub few-step : (l : LinkLimits) (before : List Entry) (e : Entry) → Follows l before e → FewStarted before → FewStarted (before ++ e ∷ [])
few-step l before (Queued t Request k p) f h = omega (arith, count-push before (Queued t Request k p), ap length (queued-push before (Queued t Request k p)), length-append (filter_map queued_legacy before) [])
few-step l before (Queued t Regular k p) f h = omega (arith, count-push before (Queued t Regular k p), ap length (queued-push before (Queued t Regular k p)), length-append (filter_map queued_legacy before) [])
few-step l before (Queued t Legacy k p) f h = omega (arith, count-push before (Queued t Legacy k p), ap length (queued-push before (Queued t Legacy k p)), length-append (filter_map queued_legacy before) (p ∷ []))
few-step l before (Started t Request p) f h = omega (arith, count-push before (Started t Request p), ap length (queued-push before (Started t Request p)), length-append (filter_map queued_legacy before) [])
few-step l before (Started t Regular p) f h = omega (arith, count-push before (Started t Regular p), ap length (queued-push before (Started t Regular p)), length-append (filter_map queued_legacy before) [])
few-step l before (Started t Legacy p) f h = grind (arith, nat_tests, (some_left (count_by is_legacy_start before) (filter_map queued_legacy before) p (started_is l before t Legacy p f)), (count_by is_legacy_start before), (filter_map queued_legacy before), (started_is l before t Legacy p f), (count-push before (Started t Legacy p)), (queued-push before (Started t Legacy p)), (length-append (filter_map queued_legacy before) []))

pub few_started : (l : LinkLimits) (log : List Entry) → IsLegal l log → FewStarted log
few_started l log g = legal-all l FewStarted (omega arith) (few-step l) log g

-- ## debts

-- the debt is within the cap from the last entry on
abbrev IsCapped : LinkLimits → List Entry → Type 0
IsCapped l log = (now : ℕ) → NoneLater now log → debt l (request_starts log) now ≤ cap l

pub request_paid : (l : LinkLimits) (before : List Entry) (time : ℕ) (p : PacketData) → IsStarted l before time Request p → cost l (packet_length p) ≤ cap l - debt l (request_starts before) time
request_paid l before time p s = (covered_pays l (credit_after l before time)
    (next_in (waiting_after l before).requests) p (started_is l before time Request p s)).1

capped-same : (l : LinkLimits) (before : List Entry) (e : Entry) → request_starts (e ∷ []) ≡ [] → IsCapped l before → IsCapped l (before ++ e ∷ [])
capped-same l before e n h now k = subst (λ ss. debt l ss now ≤ cap l) (sym (starts-same before e n)) (h now (later-front now before e k).0)

capped-step : (l : LinkLimits) (before : List Entry) (e : Entry) → Follows l before e → IsCapped l before → IsCapped l (before ++ e ∷ [])
capped-step l before (Queued t c k p) f h = capped-same l before (Queued t c k p) refl h
capped-step l before (Started t Regular p) f h = capped-same l before (Started t Regular p) refl h
capped-step l before (Started t Legacy p) f h = capped-same l before (Started t Legacy p) refl h
capped-step l before (Started t Request p) f h = λ now k.
    let b = starts_by t before f.order in
    subst (λ ss. debt l ss now ≤ cap l) (sym (starts-push before (Started t Request p)))
    (let d = debt-push l (request_starts before) (start t (packet_length p)) now b (later-front now before (Started t Request p) k).1 in
    omega (arith, d, h t f.order, request_paid l before t p f))

pub debt_capped : (l : LinkLimits) (log : List Entry) → IsLegal l log → (now : ℕ) → NoneLater now log → debt l (request_starts log) now ≤ cap l
debt_capped l log g = legal-all l (IsCapped l) (λ now n. omega arith) (capped-step l) log g

-- ## the rate

abbrev IsKept : LinkLimits → List Entry → Type 0
IsKept l log = IsWithinRate l log × IsCapped l log

rate-same : (l : LinkLimits) (before : List Entry) (e : Entry) → request_starts (e ∷ []) ≡ [] → IsWithinRate l before → IsWithinRate l (before ++ e ∷ [])
rate-same l before e n h from to k = subst (λ ss. costs l (filter (is_between from to) ss) ≤ cap l + (to - from)) (sym (starts-same before e n)) (h from to k)

rate-started : (l : LinkLimits) (ss : List Start) (s : Start) (from to : ℕ) → AreBy s.time ss → debt l ss s.time ≤ cap l → cost_at l s ≤ cap l - debt l ss s.time
    → costs l (filter (is_between from to) ss) ≤ cap l + (to - from) → costs l (filter (is_between from to) (ss ++ s ∷ [])) ≤ cap l + (to - from)
rate-started l ss s from to b d c h = grind (arith, nat_tests, (filter-append (is_between from to) ss (s ∷ [])), by_between, (sum_by_push (cost_at l) (filter (is_between from to) ss) s), (costs_owed l ss from to s.time b), (append-nil (filter (is_between from to) ss)))

kept-step : (l : LinkLimits) (before : List Entry) (e : Entry) → Follows l before e → IsKept l before → IsKept l (before ++ e ∷ [])
kept-step l before (Queued t c k p) f h = (rate-same l before (Queued t c k p) refl h.0, capped-step l before (Queued t c k p) f h.1)
kept-step l before (Started t Regular p) f h = (rate-same l before (Started t Regular p) refl h.0, capped-step l before (Started t Regular p) f h.1)
kept-step l before (Started t Legacy p) f h = (rate-same l before (Started t Legacy p) refl h.0, capped-step l before (Started t Legacy p) f h.1)
kept-step l before (Started t Request p) f h = grind (arith, nat_tests, (starts-push before (Started t Request p)), (rate-started l (request_starts before) (start t (packet_length p))), (starts_by t before f.order), (request_paid l before t p f), (capped-step l before (Started t Request p) f h.1))

pub rate_kept : (l : LinkLimits) (log : List Entry) → IsLegal l log → IsWithinRate l log
rate_kept l log g = (legal-all l (IsKept l) (λ from to k. omega arith, λ now n. omega arith) (kept-step l) log g).0

-- ## the times of starts

rising-push : (ts : List ℕ) (t : ℕ) → AreRising ts → All (λ u. u < t) ts → AreRising (ts ++ t ∷ [])
rising-push [] t r a = (All-nil (λ u. t < u), tt)
rising-push (u ∷ us) t r a = (All-push (λ v. u < v) us t r.0 (All-head (λ v. v < t) u us a), rising-push us t r.1 (All-tail (λ v. v < t) u us a))

-- all starts are before the link is free again
abbrev IsApart : LinkLimits → List Entry → Type 0
IsApart l log = AreRising (start_times log) × All (λ u. u < free_after l log) (start_times log)

times-push : (log : List Entry) (e : Entry) → start_times (log ++ e ∷ []) ≡ start_times log ++ start_times (e ∷ [])
times-push log e = filter_map-append start_time log (e ∷ [])

pub occupies : (l : LinkLimits) (t : ℕ) (p : PacketData) → AreLinkLimits l → t < t + packet_length p * l.ns_per_byte
occupies l t p a = let one : 1 ≤ packet_length p = omega arith in let k = mul-le-mul one a.ns_per_byte.0 in omega (arith, k)

apart-step : (l : LinkLimits) → AreLinkLimits l → (before : List Entry) (e : Entry) → Follows l before e → IsApart l before → IsApart l (before ++ e ∷ [])
apart-step l a before (Queued t class key p) f h = grind (arith, nat_tests, times-push, append-nil, free-queued)
apart-step l a before (Started t class p) f h =
    let more = times-push before (Started t class p) in
    let past : All (λ u. u < t) (start_times before) = All-weaker (λ u. u < free_after l before) (λ u. u < t) (λ u k. omega (arith, f.free)) (start_times before) h.1 in
    let longer : t < t + packet_length p * l.ns_per_byte = occupies l t p a in (
      subst AreRising (sym more) (rising-push (start_times before) t h.0 past),
      subst (λ ts. All (λ u. u < free_after l (before ++ Started t class p ∷ [])) ts) (sym more) (subst (λ n. All (λ u. u < n) (start_times before ++ t ∷ [])) (sym (free-started l 0 before t class p))
          (All-push (λ u. u < t + packet_length p * l.ns_per_byte) (start_times before) t (All-weaker (λ u. u < t) (λ u. u < t + packet_length p * l.ns_per_byte) (λ u k. omega arith) (start_times before) past) longer)),
    )

pub starts_apart : (l : LinkLimits) (log : List Entry) → AreLinkLimits l → IsLegal l log → AreRising (start_times log)
starts_apart l log a g = (legal-all l (IsApart l) (tt, All-nil (λ u. u < 0)) (apart-step l a) log g).0
