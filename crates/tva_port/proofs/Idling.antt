-- A link is idle exactly where nothing waits, and waits only where requests alone wait.
use Rattle.tva_port.proofs.Common.{◌≡◌, ℕ, ◌↔◌, List, [], None, sym, ap, ◌∙◌, append-nil, LinkLimits, Time, AreLinkLimits, PacketData, Decision, WaitUntil, Idle, next_in, Entry, Waiting, waiting_after, IsEmpty, IsRequestAlone, decision, credit_after, is_start, IsLegal, IsWithinLimits, arith, nat_tests}
use Rattle.tva_port.proofs.Deciding.{Rests, rests_is}
use Rattle.tva_port.proofs.Resting.{resting, wait_is, idle_is}
use Rattle.tva_port.proofs.Limits.{stays_within}
use Rattle.tva_port.proofs.Levels.{no_first, no_head, none_left, none_next}

pub within : (l : LinkLimits) (log : List Entry) → AreLinkLimits l → IsLegal l log → IsWithinLimits l (waiting_after l log)
within l log a g = stays_within l log a g log [] (sym (append-nil log))

idle_none : (l : LinkLimits) (log : List Entry) (now : ℕ) → Idle ≡ decision l log now
    → (next_in (waiting_after l log).requests ≡ None) × Rests l (waiting_after l log) (credit_after l log now)
idle_none l log now e = grind (arith, nat_tests, (resting l log now (ap is_start (sym e))), idle_is)

empty_rests : (l : LinkLimits) (w : Waiting) (credit : ℕ) → IsEmpty w → Rests l w credit
empty_rests l w credit e = grind (arith, nat_tests, none_next)

pub empty_idles : (l : LinkLimits) (log : List Entry) (now : ℕ) → IsEmpty (waiting_after l log) → decision l log now ≡ Idle
unfolding decision
empty_idles l log now e = grind (arith, nat_tests, rests_is, empty_rests, none_next)

-- a link is idle exactly where nothing waits
pub idles : (l : LinkLimits) (log : List Entry) (now : ℕ) (d : Decision) → AreLinkLimits l → IsLegal l log → d ≡ decision l log now → (d ≡ Idle) ↔ IsEmpty (waiting_after l log)
idles l log now d a g e = (
  λ i.
      let n = idle_none l log now (sym i ∙ e) in
      let w = within l log a g in
      record {
        requests = none_left l (waiting_after l log).requests w.requests n.0;
        regulars = no_head (waiting_after l log).regulars.limits
            (waiting_after l log).regulars.queues w.regulars.0.queues n.1.regulars;
        legacy = no_first (waiting_after l log).legacy n.1.legacy;
      },
  λ i. e ∙ empty_idles l log now i,
)

-- a link waits only for a request, where nothing but requests waits
pub waits_alone : (l : LinkLimits) (log : List Entry) (now : ℕ) (u : Time) → AreLinkLimits l → IsLegal l log → WaitUntil u ≡ decision l log now → (p : PacketData) × IsRequestAlone (waiting_after l log) p
waits_alone l log now u a g e =
    let r = resting l log now (ap is_start (sym e)) in
    let x = wait_is l (credit_after l log now) now (next_in (waiting_after l log).requests) u (sym r.1 ∙ sym e) in
    let w = within l log a g in (
      x.0,
      record {
        request = x.1.0;
        regulars = no_head (waiting_after l log).regulars.limits
            (waiting_after l log).regulars.queues w.regulars.0.queues r.0.regulars;
        legacy = no_first (waiting_after l log).legacy r.0.legacy;
      },
    )
