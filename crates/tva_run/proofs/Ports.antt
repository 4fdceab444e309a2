-- What a port decides while nothing more comes to it.
use Rattle.tva_run.proofs.Common.{◌≡◌, ℕ, ◌+◌, ◌-◌, ◌<◌, ◌≤◌, true, false, List, Some, None, refl, sym, ◌∙◌, ap, arith, inl, inr, ◌⊎◌, nat_lt, nat_le, ◌&&◌, cases_lt, cond-true, cond-false, le-leb, lt-leb, nat_tests, LinkLimits, Request, Time, AreLinkLimits, PacketData, packet_length, Decision, Start, WaitUntil, Idle, cost, cap, NoneLater, free_after, request_starts, waiting_after, next_request, covered, wait_for, decision, is_start, credit_after, RestsAt, IsLegal, starts_by, start_of, start_after, next_by, next_decision}
use Rattle.std.proofs.Math.Nat.{mul-le-mul_right}
use Rattle.tva_port.specs.Log.{Entry}
use Rattle.tva_port.proofs.Debts.{debt-later}
use Rattle.tva_port.proofs.Deciding.{rests_is, rests_no_start, lacking, not_covered}
use Rattle.tva_port.proofs.Steady.{next_sized}
use Rattle.tva_port.proofs.Resting.{credit-later, resting, wait_is}

-- ## the next request

-- it costs no more than the cap
head_within : (l : LinkLimits) (log : List Entry) (p : PacketData) → AreLinkLimits l → IsLegal l log
    → next_request (waiting_after l log) ≡ Some p → cost l (packet_length p) ≤ cap l
head_within l log p a g e =
    let less : packet_length p ≤ l.burst = omega (arith, next_sized l log p a g e, a.burst.0) in
    mul-le-mul_right l.ns_per_byte (mul-le-mul_right l.share less)

-- ## decisions of a link to which nothing comes

module _ (l : LinkLimits) (log : List Entry) (now : ℕ) (limits : AreLinkLimits l) (legal : IsLegal l log) (past : NoneLater now log) where
  -- the same where nothing waits
  idle_again : (time : ℕ) → Idle ≡ decision l log now → decision l log time ≡ Idle
  unfolding decision
  idle_again time e = grind (arith, nat_tests)

  -- a wait tells whom it is for
  waits_for : (u : Time) → WaitUntil u ≡ decision l log now
      → (p : PacketData) × ((next_request (waiting_after l log) ≡ Some p) ×
      (u.0 ≡ now + (cost l (packet_length p) - credit_after l log now)))
  waits_for u e = wait_is l (credit_after l log now) now (next_request (waiting_after l log)) u (sym (resting l log now (ap is_start (sym e))).1 ∙ sym e)

  -- up to its end a wait stays the same
  wait_again : (u : Time) (time : ℕ) → WaitUntil u ≡ decision l log now → now ≤ time → time < u.0 → decision l log time ≡ WaitUntil u
  unfolding decision
  wait_again u time e h k =
      let r = resting l log now (ap is_start (sym e)) in
      let w = waits_for u e in
      let p = w.0 in
      let at : u.0 ≡ now + (cost l (packet_length p) - credit_after l log now) = w.1.1 in
      let least : cost l (packet_length p) ≤ cap l = head_within l log p limits legal w.1.0 in
      let short : credit_after l log time < cost l (packet_length p) = omega (arith, credit-later l log now time legal past h) in
      let end : record { 0 = time + (cost l (packet_length p) - credit_after l log time) } ≡ u = (let same : time + (cost l (packet_length p) - credit_after l log time) ≡ u.0 = omega (arith, credit-later l log now time legal past h) in λ i. record { 0 = same i }) in
      rests_is l (waiting_after l log) (credit_after l log time) time (record {
        requests = ap (covered l (credit_after l log time)) w.1.0 ∙ not_covered l (credit_after l log time) p short;
        regulars = r.0.regulars;
        legacy = r.0.legacy;
      })
      ∙ (ap (wait_for l (credit_after l log time) time) w.1.0 ∙ ap WaitUntil end)

  -- at its end the request starts
  wait_ends : (u : Time) → WaitUntil u ≡ decision l log now → now ≤ u.0 → (p : PacketData) × (decision l log u.0 ≡ Start Request p)
  unfolding decision
  wait_ends u e h =
      let w = waits_for u e in
      let p = w.0 in
      let at : u.0 ≡ now + (cost l (packet_length p) - credit_after l log now) = w.1.1 in
      let least : cost l (packet_length p) ≤ cap l = head_within l log p limits legal w.1.0 in
      let enough : cost l (packet_length p) ≤ credit_after l log u.0 = omega (arith, credit-later l log now u.0 legal past h) in
      let pays : covered l (credit_after l log u.0) (Some p) ≡ Some p = cond-true (nat_le (cost l (packet_length p)) (credit_after l log u.0)) (Some p) None (le-leb (cost l (packet_length p)) (credit_after l log u.0) enough) in
      (p, rw (w.1.0, pays) refl)

  -- so what a free link decided that started nothing says when it decides again
  pub decides_again : (d : Decision) (time : ℕ) → d ≡ decision l log now → is_start d ≡ false → now ≤ time → ((t : ℕ) → next_by now d ≡ Some t → time ≤ t) → next_by time (decision l log time) ≡ next_by now d
  decides_again v0 time e n h k = grind (arith, nat_tests, idle_again, wait_again, wait_ends)

-- ## starts

pub not_start : (d : Decision) → is_start d ≡ false → start_of d ≡ None
not_start d e = grind arith

-- a busy link starts nothing
pub busy_starts_none : (l : LinkLimits) (log : List Entry) (now : ℕ) → now < free_after l log → start_after l log now ≡ None
unfolding start_after
busy_starts_none l log now h = cond-false (nat_le (free_after l log) now) (start_of (decision l log now)) None (lt-leb (free_after l log) now h)

-- nor one that rests
pub resting_starts_none : (l : LinkLimits) (log : List Entry) (now : ℕ) → RestsAt l log now → start_after l log now ≡ None
unfolding start_after
resting_starts_none l log now h = grind (arith, nat_tests)

-- a free link starts what it decides
pub free_starts : (l : LinkLimits) (log : List Entry) (now : ℕ) → free_after l log ≤ now → start_after l log now ≡ start_of (decision l log now)
unfolding start_after
free_starts l log now h = cond-true (nat_le (free_after l log) now) (start_of (decision l log now)) None (le-leb (free_after l log) now h)

-- ## until the next decision

-- a link decides by itself as it becomes free, or else by what it decides now
by_cases : (l : LinkLimits) (log : List Entry) (from : ℕ) → ((from ≤ free_after l log) × (next_decision l log from ≡ Some (free_after l log))) ⊎ (((free_after l log < from) ⊎ (free_after l log ≡ 0)) × (next_decision l log from ≡ next_by from (decision l log from)))
unfolding next_decision
by_cases l log from = grind arith

-- a link that becomes free later decides then
pub next_busy : (l : LinkLimits) (log : List Entry) (from : ℕ) → 0 < free_after l log → from ≤ free_after l log → next_decision l log from ≡ Some (free_after l log)
unfolding next_decision
next_busy l log from a b = cond-true (nat_lt 0 (free_after l log) && nat_le from (free_after l log)) (Some (free_after l log)) (next_by from (decision l log from)) (grind (arith, nat_tests))

-- one that is free by then decides by what it decides then
pub next_free : (l : LinkLimits) (log : List Entry) (from : ℕ) → free_after l log < from → next_decision l log from ≡ next_by from (decision l log from)
unfolding next_decision
next_free l log from a = cond-false (nat_lt 0 (free_after l log) && nat_le from (free_after l log)) (Some (free_after l log)) (next_by from (decision l log from)) (grind (arith, nat_tests))

pub next_unused : (l : LinkLimits) (log : List Entry) (from : ℕ) → free_after l log ≡ 0 → next_decision l log from ≡ next_by from (decision l log from)
unfolding next_decision
next_unused l log from a = cond-false (nat_lt 0 (free_after l log) && nat_le from (free_after l log)) (Some (free_after l log)) (next_by from (decision l log from)) (grind (arith, nat_tests))

-- before a wait is over, the request for which it is isn't covered: credit grows by one each nanosecond at most
lacks_still : (l : LinkLimits) (log : List Entry) (now time u : ℕ) (p : PacketData) → NoneLater now log → u ≡ now + (cost l (packet_length p) - credit_after l log now) → now ≤ time → time < u
    → credit_after l log time < cost l (packet_length p)
lacks_still l log now time u p n e h k = omega (arith, debt-later l (request_starts log) now time (starts_by now log n) h, e, k)

-- so nothing starts before it is over
waits_on : (l : LinkLimits) (log : List Entry) (now time : ℕ) (u : Time) → NoneLater now log → WaitUntil u ≡ decision l log now → now ≤ time → time < u.0 → is_start (decision l log time) ≡ false
unfolding decision
waits_on l log now time u n e h k =
    let r = resting l log now (ap is_start (sym e)) in
    let w = wait_is l (credit_after l log now) now (next_request (waiting_after l log)) u (sym r.1 ∙ sym e) in
    rests_no_start l (waiting_after l log) (credit_after l log time) time (record {
      requests = ap (covered l (credit_after l log time)) w.1.0 ∙ not_covered l (credit_after l log time) w.0 (lacks_still l log now time u.0 w.0 n w.1.1 h k);
      regulars = r.0.regulars;
      legacy = r.0.legacy;
    })

-- nor while nothing waits
idles_on : (l : LinkLimits) (log : List Entry) (now time : ℕ) → Idle ≡ decision l log now → is_start (decision l log time) ≡ false
unfolding decision
idles_on l log now time e = grind (arith, nat_tests)

quiet_by : (l : LinkLimits) (log : List Entry) (from time : ℕ) (d : Decision) → NoneLater from log → d ≡ decision l log from → from ≤ time → ((t : ℕ) → next_by from d ≡ Some t → time < t) → RestsAt l log time
quiet_by l log from time (Start class p) n e h k = absurd (let late : time < from = k from refl in omega arith)
quiet_by l log from time (WaitUntil u) n e h k = inr (waits_on l log from time u n e h (k u.0 refl))
quiet_by l log from time Idle n e h k = inr (idles_on l log from time e)

-- nothing starts before the next decision
pub quiet_starts_none : (l : LinkLimits) (log : List Entry) (from time : ℕ) → NoneLater from log → from ≤ time → ((t : ℕ) → next_decision l log from ≡ Some t → time < t) → start_after l log time ≡ None
quiet_starts_none l log from time n h k = grind (arith, nat_tests, by_cases, busy_starts_none, resting_starts_none, quiet_by)

-- and up to then the next decision stays the same
pub next_again : (l : LinkLimits) (log : List Entry) (from time : ℕ) → AreLinkLimits l → IsLegal l log → NoneLater from log → from ≤ time → ((t : ℕ) → next_decision l log from ≡ Some t → time ≤ t) → next_decision l log time ≡ next_decision l log from
next_again l log from time a g n h k = grind (arith, nat_tests, by_cases, next_busy, next_free, next_unused, decides_again)

-- the next decision is no earlier
pub next_late : (l : LinkLimits) (log : List Entry) (from t : ℕ) → next_decision l log from ≡ Some t → from ≤ t
next_late l log from t e = grind (arith, nat_tests, by_cases, resting, wait_is)

-- a wait ends later than it begins
pub wait_later : (l : LinkLimits) (log : List Entry) (now : ℕ) (u : Time) → WaitUntil u ≡ decision l log now → now < u.0
wait_later l log now u e = grind (arith, nat_tests, resting, wait_is, lacking)

starts_at : (l : LinkLimits) (log : List Entry) (t : ℕ) (d : Decision) → d ≡ decision l log t → next_by t d ≡ Some t → is_start d ≡ true
starts_at l log t v0 e h = grind (arith, nat_tests, wait_later)

not_none : (d : Decision) → is_start d ≡ true → start_of d ≡ None → ⊥
not_none v0 s e = grind arith

-- before the next decision a link doesn't decide by itself
pub none_decides : (l : LinkLimits) (log : List Entry) (from t : ℕ) → NoneLater from log → from ≤ t → ((u : ℕ) → next_decision l log from ≡ Some u → t < u) → next_decision l log t ≡ Some t → ⊥
none_decides l log from t n h k e =
    elim (by_cases l log t) [
      | inl b ↦
          let at : Some (free_after l log) ≡ Some t = sym b.1 ∙ e in
          let free : free_after l log ≡ t = cc in
          elim (cases_lt 0 (free_after l log)) [
            | inl some ↦ (let late = k (free_after l log) (next_busy l log from some (omega (arith, free))) in omega (arith, free, late))
            | inr none ↦
                let first : from ≡ t = omega (arith, free) in
                (let late = k t (ap (next_decision l log) first ∙ e) in omega (arith, late))
          ]
      | inr b ↦
          let free : free_after l log ≤ t = elim b.0 [ inl early ↦ omega arith | inr zero ↦ omega arith ] in
          not_none (decision l log t) (starts_at l log t (decision l log t) refl (sym b.1 ∙ e)) (sym (free_starts l log t free) ∙ quiet_starts_none l log from t n h k)
    ]

-- where a link that is free starts nothing, when it decides next
pub next_rested : (l : LinkLimits) (log : List Entry) (now : ℕ) (d : Decision) → AreLinkLimits l → IsLegal l log → NoneLater now log → free_after l log ≤ now → d ≡ decision l log now → is_start d ≡ false → next_decision l log (now + 1) ≡ next_by now d
next_rested l log now d a g n f e s = grind (arith, nat_tests, next_free, decides_again, wait_later)
