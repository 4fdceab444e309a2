-- What a decision leaves until the next one is due: a wait stays the same wait, an idle link stays idle,
-- and neither a start nor a queueing lets a start be missed meanwhile.
use Rattle.tva_port.proofs.Common.{◌≡◌, ℕ, ◌+◌, ◌-◌, ◌≤◌, ◌<◌, max, false, List, [], ◌∷◌, ◌++◌, Option, Some, sym, ap, ◌∙◌, arith, append-nil, LinkLimits, Class, Time, AreLinkLimits, PacketData, packet_length, Offered, Decision, WaitUntil, cost, Entry, Queued, NoneLater, free_after, waiting_after, next_request, queued_by, wait_for, decision, credit_after, is_start, started_by, RestsAt, MissesNone, NoneDueBefore, IsLegal, freed, nat_tests}
use Rattle.tva_drr.specs.declared.offered.Offered.TheVariants as offers
use Rattle.tva_port.proofs.Logs.{later-push, entries_before-all, entries_before-push, free-queued, free-started}
use Rattle.tva_port.proofs.Deciding.{rests_is}
use Rattle.tva_port.proofs.Legality.{occupies}
use Rattle.tva_port.proofs.Levels.{none_first, request_sized}
use Rattle.tva_port.proofs.Resting.{credit-later, still_lacks, resting, wait_is, lacks_before, same_head, rests_same, rests, misses, cost_within, first_covered}
use Rattle.tva_port.proofs.Idling.{within, idles, empty_idles}

-- the next request has at most 2,048 bytes
pub next_sized : (l : LinkLimits) (log : List Entry) (p : PacketData) → AreLinkLimits l → IsLegal l log → next_request (waiting_after l log) ≡ Some p → packet_length p ≤ 2048
next_sized l log p a g e = grind (arith, nat_tests, (request_sized l (waiting_after l log).requests p (within l log a g).requests e))

-- the wait at a later time ends when it did
same_end : (l : LinkLimits) (credit time : ℕ) (o : Option PacketData) (p : PacketData) (u : Time) → o ≡ Some p → time + (cost l (packet_length p) - credit) ≡ u.0 → wait_for l credit time o ≡ WaitUntil u
same_end l credit time o p u e k = ap (wait_for l credit time) e ∙ ap (λ (x : ℕ). WaitUntil (record { 0 = x })) k

wait_same : (l : LinkLimits) (log : List Entry) (now time : ℕ) (u : Time) → AreLinkLimits l → IsLegal l log → NoneLater now log → WaitUntil u ≡ decision l log now → now ≤ time → time < u.0 → decision l log time ≡ WaitUntil u
unfolding decision
wait_same l log now time u a g n e h k = grind (arith, nat_tests, (resting l log now (ap is_start (sym e))), wait_is, (lacks_before l log now time u.0), still_lacks, (same_head (next_request (waiting_after l log))), (credit-later l log now time g n h), (cost_within l), (next_sized l log), (rests_is l (waiting_after l log) (credit_after l log time) time), (same_end l (credit_after l log time) time (next_request (waiting_after l log))))

-- a link that starts nothing decides the same until the next decision is due
pub steady : (l : LinkLimits) (log : List Entry) (now free : ℕ) (d : Decision) (until time : ℕ) → AreLinkLimits l → IsLegal l log → NoneLater now log → d ≡ decision l log now → is_start d ≡ false → NoneDueBefore d free until → now ≤ time → time < until → decision l log time ≡ d
steady l log now free d until time a g n e s i h k = grind (arith, nat_tests, wait_same, empty_idles, idles)

-- a wait ends later than it begins
pub ends_later : (l : LinkLimits) (log : List Entry) (now : ℕ) (u : Time) → AreLinkLimits l → IsLegal l log → NoneLater now log → WaitUntil u ≡ decision l log now → now < u.0
ends_later l log now u a g n e = grind (arith, nat_tests, resting, wait_is, first_covered, next_sized)

-- ## over logs alone

due_as_freed : (l : LinkLimits) (log : List Entry) (now : ℕ) (d : Decision) (until : ℕ) → NoneDueBefore d (free_after l (log ++ started_by d now)) until → NoneDueBefore d (freed l 0 now d) until
due_as_freed l log now d until i = grind (arith, free-started l 0 log now)

pub rests_after : (l : LinkLimits) (log : List Entry) (now : ℕ) (d : Decision) (until time : ℕ) → IsLegal l log → NoneLater now log → d ≡ decision l log now → NoneDueBefore d (free_after l (log ++ started_by d now)) until → now ≤ time → time < until → RestsAt l (log ++ started_by d now) time
rests_after l log now d until time g n e i h k = rests l log now 0 d until time g n e (due_as_freed l log now d until i) h k

pub misses_after : (l : LinkLimits) (log : List Entry) (now : ℕ) (d : Decision) (until : ℕ) → IsLegal l log → NoneLater now log → d ≡ decision l log now → MissesNone l now log → NoneDueBefore d (free_after l (log ++ started_by d now)) until → MissesNone l until (log ++ started_by d now)
misses_after l log now d until g n e m i = misses l log now 0 d until g n e m (due_as_freed l log now d until i)

-- nothing starts again at the time of a decision
pub none_again : (l : LinkLimits) (log : List Entry) (now : ℕ) (d : Decision) → AreLinkLimits l → d ≡ decision l log now → RestsAt l (log ++ started_by d now) now
none_again l log now d a e = grind (arith, free-started l 0 log now, occupies l now, rests_same l log now)

-- where nothing came, nothing is missed
pub misses_empty : (l : LinkLimits) (until : ℕ) → MissesNone l until []
misses_empty l until = grind (arith, nat_tests, empty_idles, none_first)

-- ## a queueing

pub misses_queued : (l : LinkLimits) (log : List Entry) (now until : ℕ) (class : Class) (key : ℕ) (p : PacketData) → NoneLater now log → until ≤ max now (free_after l log) → MissesNone l until log → MissesNone l until (log ++ Queued now class key p ∷ [])
misses_queued l log now until class key p n i m = λ time k. grind (arith, entries_before-push (time + 1) log (Queued now class key p), entries_before-all now (time + 1) (log ++ Queued now class key p ∷ []), later-push now log (Queued now class key p) n, m time k, free-queued l 0 log now class key p)

-- a packet that is queued lets no start be missed up to its time, nor while the link is busy
pub misses_offered : (l : LinkLimits) (log : List Entry) (now until : ℕ) (a : Offered PacketData) (class : Class) (key : ℕ) (p : PacketData) → NoneLater now log → until ≤ max now (free_after l log) → MissesNone l until log → MissesNone l until (log ++ queued_by a now class key p)
misses_offered l log now until a class key p n i m = grind (arith, misses_queued l log now until class key p n i m, append-nil log)
