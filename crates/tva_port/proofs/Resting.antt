-- When nothing starts: up to the end of a start, while a request waits, and while nothing waits.
use Rattle.tva_port.proofs.Common.{◌≡◌, ℕ, ◌+◌, ◌-◌, ◌≤◌, ◌<◌, min, false, List, [], ◌++◌, Option, Some, None, refl, sym, ap, ◌∙◌, subst, inl, inr, suc, arith, append-nil, mul-le-mul_right, leb_tells, LinkLimits, AreLinkLimits, Time, PacketData, packet_length, Decision, WaitUntil, Idle, cost, cap, next_in, Entry, NoneLater, entries_before, request_starts, Waiting, waiting_after, covered, wait_for, decision, decide_on, credit_after, is_start, started_by, RestsAt, MissesNone, NoneDueBefore, IsFirstCovered, IsLegal, freed, nat_tests}
use Rattle.tva_port.proofs.Debts.{debt-later}
use Rattle.tva_port.proofs.Logs.{later-push, starts_by, entries_before-all, entries_before-push, free-started}
use Rattle.tva_port.proofs.Deciding.{Rests, none_starts, rests_is, rests_no_start, lacking, not_covered}
use Rattle.tva_port.proofs.Legality.{debt_capped}
pub use Rattle.tva_port.proofs.Hands.{same_packet as same_head}

-- the credit grows by one each nanosecond, up to the cap
pub credit-later : (l : LinkLimits) (log : List Entry) (now time : ℕ) → IsLegal l log → NoneLater now log → now ≤ time → credit_after l log time ≡ min (cap l) (credit_after l log now + (time - now))
credit-later l log now time g n h = omega (arith, debt_capped l log g now n, debt-later l (request_starts log) now time (starts_by now log n) h)

pub still_lacks : (l : LinkLimits) (later : ℕ) (o : Option PacketData) → ((p : PacketData) → o ≡ Some p → later < cost l (packet_length p)) → covered l later o ≡ None
still_lacks l later None h = refl
still_lacks l later (Some p) h = not_covered l later p (h p refl)

-- nothing starts at a later time either, where the request at the head is still not covered
still : (l : LinkLimits) (w : Waiting) (credit later time : ℕ) → Rests l w credit
    → ((p : PacketData) → next_in w.requests ≡ Some p → later < cost l (packet_length p))
    → is_start (decide_on l w later time) ≡ false
still l w credit later time r h = rests_no_start l w later time
    (record { requests = still_lacks l later (next_in w.requests) h; regulars = r.regulars; legacy = r.legacy })

no_start_later : (l : LinkLimits) (log : List Entry) (credit time : ℕ) → Rests l (waiting_after l log) credit
    → ((p : PacketData) → next_in (waiting_after l log).requests ≡ Some p → credit_after l log time < cost l
    (packet_length p)) → is_start (decision l log time) ≡ false
unfolding decision
no_start_later l log credit time r h = still l (waiting_after l log) credit (credit_after l log time) time r h

-- a decision to wait tells the request at the head, and until when it waits
pub wait_is : (l : LinkLimits) (credit now : ℕ) (o : Option PacketData) (u : Time) → wait_for l credit now o ≡ WaitUntil u → (p : PacketData) × ((o ≡ Some p) × (u.0 ≡ now + (cost l (packet_length p) - credit)))
wait_is l credit now o u e = grind (arith, nat_tests)

pub idle_is : (l : LinkLimits) (credit now : ℕ) (o : Option PacketData) → wait_for l credit now o ≡ Idle → o ≡ None
idle_is l credit now None e = refl
idle_is l credit now (Some p) e = absurd (cc)

-- where a decision starts nothing, it says how long the request at the head waits
pub resting : (l : LinkLimits) (log : List Entry) (now : ℕ) → is_start (decision l log now) ≡ false
    → Rests l (waiting_after l log) (credit_after l log now) ×
    (decision l log now ≡ wait_for l (credit_after l log now) now (next_in (waiting_after l log).requests))
unfolding decision
resting l log now e = grind (arith, nat_tests, (none_starts l (waiting_after l log) (credit_after l log now) now e), (rests_is l (waiting_after l log) (credit_after l log now) now))

-- before the wait is over, the request's cost isn't covered
pub lacks_before : (l : LinkLimits) (log : List Entry) (now time u : ℕ) (p : PacketData) → IsLegal l log → NoneLater now log → u ≡ now + (cost l (packet_length p) - credit_after l log now) → now ≤ time → time < u → credit_after l log time < cost l (packet_length p)
lacks_before l log now time u p g n e h k = omega (arith, credit-later l log now time g n h)

none_or_some : (o : Option PacketData) (q : PacketData) → o ≡ None → o ≡ Some q → ⊥
none_or_some o q e f = cc

waits_until : (l : LinkLimits) (log : List Entry) (now time : ℕ) (u : Time) → IsLegal l log → NoneLater now log → WaitUntil u ≡ decision l log now → now ≤ time → time < u.0 → is_start (decision l log time) ≡ false
waits_until l log now time u g n e h k = grind (arith, nat_tests, (resting l log now (ap is_start (sym e))), wait_is, no_start_later, (same_head (next_in (waiting_after l log).requests)), (lacks_before l log now time u.0))

stays_idle : (l : LinkLimits) (log : List Entry) (now time : ℕ) → Idle ≡ decision l log now → is_start (decision l log time) ≡ false
stays_idle l log now time e = grind (arith, nat_tests, resting, no_start_later, none_or_some, idle_is)

pub rests_same : (l : LinkLimits) (log : List Entry) (time : ℕ) → is_start (decision l log time) ≡ false → RestsAt l (log ++ []) time
rests_same l log time e = subst (λ z. RestsAt l z time) (sym (append-nil log)) (inr e)

-- nothing starts before the next decision is due
pub rests : (l : LinkLimits) (log : List Entry) (now free : ℕ) (d : Decision) (until time : ℕ) → IsLegal l log → NoneLater now log → d ≡ decision l log now → NoneDueBefore d (freed l free now d) until → now ≤ time → time < until → RestsAt l (log ++ started_by d now) time
rests l log now free d until time g n e i h k = grind (arith, nat_tests, free-started, rests_same, waits_until, stays_idle)

pub cut_away : (log : List Entry) (d : Decision) (until now : ℕ) → until ≤ now → entries_before until (log ++ started_by d now) ≡ entries_before until log
cut_away log d until now h = grind (arith, nat_tests, entries_before-push, append-nil)

pub none_later : (log : List Entry) (d : Decision) (now : ℕ) → NoneLater now log → NoneLater now (log ++ started_by d now)
none_later log d now n = grind (arith, nat_tests, later-push, append-nil)

-- so no start is missed up to then
pub misses : (l : LinkLimits) (log : List Entry) (now free : ℕ) (d : Decision) (until : ℕ) → IsLegal l log → NoneLater now log → d ≡ decision l log now → MissesNone l now log → NoneDueBefore d (freed l free now d) until → MissesNone l until (log ++ started_by d now)
misses l log now free d until g n e m i = λ time k. elim (leb_tells (suc time) now) [
  | inl h ↦ subst (λ z. RestsAt l z time) (sym (cut_away log d (time + 1) now (omega (arith, h.1)))) (m time (omega (arith, h.1)))
  | inr h ↦ subst (λ z. RestsAt l z time) (sym (entries_before-all now (time + 1) (log ++ started_by d now) (omega (arith, h.1)) (none_later log d now n))) (rests l log now free d until time g n e i (omega (arith, h.1)) k)
]

-- no packet costs more than the cap
pub cost_within : (l : LinkLimits) (n : ℕ) → AreLinkLimits l → n ≤ 2048 → cost l n ≤ cap l
cost_within l n a h = let b : n ≤ l.burst = omega (arith, a.burst.0) in mul-le-mul_right l.ns_per_byte (mul-le-mul_right l.share b)

-- a wait ends at the first time at which the request at the head is covered
pub first_covered : (l : LinkLimits) (log : List Entry) (now : ℕ) (u : Time) (p : PacketData) → AreLinkLimits l
    → IsLegal l log → NoneLater now log → packet_length p ≤ 2048 → WaitUntil u ≡ decision l log now
    → next_in (waiting_after l log).requests ≡ Some p → IsFirstCovered l log p now u.0
first_covered l log now u p a g n z e hp =
    let r = resting l log now (ap is_start (sym e)) in
    let w = wait_is l (credit_after l log now) now (next_in (waiting_after l log).requests) u (sym r.1 ∙ sym e) in
    let t : u.0 ≡ now + (cost l (packet_length p) - credit_after l log now) = subst
    (λ x. u.0 ≡ now + (cost l (packet_length x) - credit_after l log now))
    (same_head (next_in (waiting_after l log).requests) w.0 p w.1.0 hp) w.1.1 in
    let k : credit_after l log now < cost l (packet_length p) = lacking l (credit_after l log now) p (ap (λ (o : Option PacketData). covered l (credit_after l log now) o) (sym hp) ∙ r.0.requests) in
    record {
      later = omega arith;
      covers = omega (arith, credit-later l log now u.0 g n (omega arith), cost_within l (packet_length p) a z);
      lacks = λ time h i. lacks_before l log now time u.0 p g n t h i;
    }
