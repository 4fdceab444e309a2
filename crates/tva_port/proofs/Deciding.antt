-- What a decision to start a packet tells, and what one to start none tells.
use Rattle.tva_port.proofs.Common.{◌≡◌, ℕ, ◌<◌, ◌≤◌, false, Option, Some, None, refl, ap, ◌∙◌, arith, leb_tells, LinkLimits, Class, Request, Regular, Legacy, PacketData, packet_length, first, head, Decision, Start, cost, next_in, Waiting, covered, start_or, wait_for, decide_on, is_start, nat_tests}

abbrev pub pick : Class → Option PacketData → Option PacketData → Option PacketData → Option PacketData
pick Request a b c = a
pick Regular a b c = b
pick Legacy a b c = c

picked : (a b c : Option PacketData) (d : Decision) (class : Class) (p : PacketData) → is_start d ≡ false → start_or Request a (start_or Regular b (start_or Legacy c d)) ≡ Start class p → pick class a b c ≡ Some p
picked a b c d class p n e = grind (arith, nat_tests)

no_start : (l : LinkLimits) (credit now : ℕ) (o : Option PacketData) → is_start (wait_for l credit now o) ≡ false
no_start l credit now None = refl
no_start l credit now (Some p) = refl

-- the next packet of a class
abbrev pub next_of : LinkLimits → Waiting → ℕ → Class → Option PacketData
next_of l w credit class = pick class (covered l credit (next_in w.requests)) (head w.regulars.queues) (first w.legacy)

pub start_is : (l : LinkLimits) (w : Waiting) (credit now : ℕ) (class : Class) (p : PacketData) → decide_on l w credit now ≡ Start class p → next_of l w credit class ≡ Some p
start_is l w credit now class p e = picked (covered l credit (next_in w.requests)) (head w.regulars.queues) (first w.legacy)
    (wait_for l credit now (next_in w.requests)) class p (no_start l credit now (next_in w.requests)) e

pub covered_pays : (l : LinkLimits) (credit : ℕ) (o : Option PacketData) (p : PacketData) → covered l credit o ≡ Some p → (o ≡ Some p) × (cost l (packet_length p) ≤ credit)
covered_pays l credit o p e = grind (arith, nat_tests, leb_tells)

-- nothing starts where a request lacks credit and nothing else waits
pub record Rests (l : LinkLimits) (w : Waiting) (credit : ℕ) : Type 0 where
  pub requests : covered l credit (next_in w.requests) ≡ None
  pub regulars : head w.regulars.queues ≡ None
  pub legacy : first w.legacy ≡ None

none_picked : (a b c : Option PacketData) (d : Decision) → is_start (start_or Request a (start_or Regular b (start_or Legacy c d))) ≡ false → (a ≡ None) × (b ≡ None) × (c ≡ None)
none_picked a b c d e = grind (arith, nat_tests)

pub none_starts : (l : LinkLimits) (w : Waiting) (credit now : ℕ) → is_start (decide_on l w credit now) ≡ false → Rests l w credit
none_starts l w credit now e = grind (arith, nat_tests, none_picked)

from_none : (a b c : Option PacketData) (d : Decision) → a ≡ None → b ≡ None → c ≡ None → start_or Request a (start_or Regular b (start_or Legacy c d)) ≡ d
from_none a b c d e f g = grind (arith, nat_tests)

pub rests_is : (l : LinkLimits) (w : Waiting) (credit now : ℕ) → Rests l w credit
    → decide_on l w credit now ≡ wait_for l credit now (next_in w.requests)
rests_is l w credit now r = from_none (covered l credit (next_in w.requests)) (head w.regulars.queues)
    (first w.legacy) (wait_for l credit now (next_in w.requests)) r.requests r.regulars r.legacy

pub rests_no_start : (l : LinkLimits) (w : Waiting) (credit now : ℕ) → Rests l w credit → is_start (decide_on l w credit now) ≡ false
rests_no_start l w credit now r = ap is_start (rests_is l w credit now r) ∙ no_start l credit now (next_in w.requests)

-- a request that isn't covered lacks some credit
pub lacking : (l : LinkLimits) (credit : ℕ) (p : PacketData) → covered l credit (Some p) ≡ None → credit < cost l (packet_length p)
lacking l credit p e = grind (arith, nat_tests, leb_tells)

pub not_covered : (l : LinkLimits) (credit : ℕ) (p : PacketData) → credit < cost l (packet_length p) → covered l credit (Some p) ≡ None
not_covered l credit p n = grind (arith, nat_tests, leb_tells)
