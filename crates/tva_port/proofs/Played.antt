-- The worked logs, entry by entry.
use Rattle.tva_port.proofs.Common.{◌≡◌, ◌≤◌, ℕ, ◌+◌, ◌*◌, Bool, true, false, ◌&&◌, leb, max, List, [], ◌∷◌, ◌++◌, Option, Some, None, IfSome, refl, sym, subst, arith, append-nil, leb-true, All-nil, LinkLimits, Class, Request, Regular, Legacy, AreClassLimits, AreLinkLimits, PacketData, packet_length, layout, two_bytes, eight_bytes, Start, WaitUntil, Entry, Queued, Started, NoneLater, entry_time, free_after, waiting_after, queue_answer, decision, MissesNone, IsLegal, nat_tests}
use Rattle.tva_drr.specs.declared.offered.Offered.TheVariants as offers
use Rattle.tva_port.specs.Worked.{worked_class, worked_link, three_queues, regulars_queued, burst_started, regulars_started, long, short, two_levels, requests_queued, requests_started, tagged}
use Rattle.tva_port.proofs.Logs.{later-push, later-weaker, goes_on-push}
use Rattle.tva_port.proofs.Resting.{misses}
use Rattle.tva_port.proofs.Steady.{misses_empty, misses_queued}

-- a log that a port can have, with no entry later than a time, in which no start is missed before another
pub record IsPlayed (l : LinkLimits) (log : List Entry) (last until : ℕ) : Type 0 where
  pub legal : IsLegal l log
  pub past : NoneLater last log
  pub missed : MissesNone l until log

both : (a b : Bool) → (a && b) ≡ true → (a ≡ true) × (b ≡ true)
both true b e = (refl, e)
both false b e = absurd (cc)

-- the first is at most the second, which is at most the third
in_order : (a b c : ℕ) → (leb a b && leb b c) ≡ true → (a ≤ b) × (b ≤ c)
in_order a b c e = grind (arith, nat_tests, leb-true)

module _ {l : LinkLimits} {log : List Entry} {last until : ℕ} where
  -- a packet that is queued
  offered : (now : ℕ) (class : Class) (key : ℕ) (p : PacketData) → IsPlayed l log last until
      → ((leb last now && leb until (max now (free_after l log))) && (leb 20 (packet_length p) && leb (packet_length p) 2048)) ≡ true
      → queue_answer l (waiting_after l log) class key p ≡ offers.Queued
      → IsPlayed l (log ++ Queued now class key p ∷ []) now until
  offered now class key p s e f =
      let tests = both (leb last now && leb until (max now (free_after l log))) (leb 20 (packet_length p) && leb (packet_length p) 2048) e in
      let times = both (leb last now) (leb until (max now (free_after l log))) tests.0 in
      let past : NoneLater now log = later-weaker last now log (leb-true last now times.0) s.past in
      record {
        legal = goes_on-push l [] log (Queued now class key p) s.legal (record { order = past; sized = in_order 20 (packet_length p) 2048 tests.1; offer = f });
        past = later-push now log (Queued now class key p) past (omega arith);
        missed = misses_queued l log now until class key p past (leb-true until (max now (free_after l log)) times.1) s.missed;
      }

  -- a packet that starts
  started : (now : ℕ) (class : Class) (p : PacketData) → IsPlayed l log last until
      → ((leb last now && leb now until) && leb (free_after l log) now) ≡ true
      → decision l log now ≡ Start class p
      → IsPlayed l (log ++ Started now class p ∷ []) now (now + packet_length p * l.ns_per_byte)
  started now class p s e f =
      let tests = both (leb last now && leb now until) (leb (free_after l log) now) e in
      let times = in_order last now until tests.0 in
      let past : NoneLater now log = later-weaker last now log times.0 s.past in
      record {
        legal = goes_on-push l [] log (Started now class p) s.legal (record { order = past; free = leb-true (free_after l log) now tests.1; decided = f });
        past = later-push now log (Started now class p) past (omega arith);
        missed = misses l log now 0 (Start class p) (now + packet_length p * l.ns_per_byte) s.legal past (sym f) (λ time k. s.missed time (omega (arith, times.1, k))) (omega arith);
      }

  -- a wait for the credit
  waited : (now end : ℕ) → IsPlayed l log last until → (leb last now && leb now until) ≡ true
      → decision l log now ≡ WaitUntil (record { 0 = end })
      → IsPlayed l log now end
  waited now end s e f =
      let times = in_order last now until e in
      let past : NoneLater now log = later-weaker last now log times.0 s.past in
      record {
        legal = s.legal;
        past = past;
        missed = subst (λ z. MissesNone l end z) (append-nil log) (misses l log now 0 (WaitUntil (record { 0 = end })) end s.legal past (sym f) (λ time k. s.missed time (omega (arith, times.1, k))) (omega arith));
      }

-- nothing came
nothing : (l : LinkLimits) → IsPlayed l [] 0 0
nothing l = record { legal = tt; past = All-nil (λ e. entry_time e ≤ 0); missed = misses_empty l 0 }

class_valid : (queues : ℕ) → (1 ≤ queues) × (queues ≤ 65536) → AreClassLimits (worked_class queues)
class_valid queues h = grind (arith, nat_tests)

inner_valid : (o : Option ℕ) → IfSome o (λ n. (1 ≤ n) × (n ≤ 65536)) → (inner : ℕ) → o ≡ Some inner → (1 ≤ inner) × (inner ≤ 65536)
inner_valid None h inner e = absurd (cc)
inner_valid (Some n) h inner e = let k : n ≡ inner = cc in subst (λ z. (1 ≤ z) × (z ≤ 65536)) k h

link_valid : (queues : ℕ) (inner : Option ℕ) → (1 ≤ queues) × (queues ≤ 65536) → IfSome inner (λ n. (1 ≤ n) × (n ≤ 65536)) → AreLinkLimits (worked_link queues inner)
link_valid queues inner h k = grind (arith, nat_tests, class_valid, inner_valid)

pub three_valid : AreLinkLimits three_queues
three_valid = link_valid 3 None (omega arith, omega arith) tt

pub levels_valid : AreLinkLimits two_levels
levels_valid = link_valid 2 (Some 2) (omega arith, omega arith) (omega arith, omega arith)

pub regulars_played : IsPlayed three_queues (regulars_queued ++ burst_started ++ regulars_started) 8480 10100
unfolding decision
regulars_played =
    let s0 = nothing three_queues in
    let s1 = offered 0 Legacy 0 (long 1) s0 refl refl in
    let s2 = started 0 Legacy (long 1) s1 refl refl in
    let s3 = offered 1 Request 7 (long 2) s2 refl refl in
    let s4 = offered 1 Request 7 (long 3) s3 refl refl in
    let s5 = offered 1 Regular 1 (long 4) s4 refl refl in
    let s6 = offered 1 Regular 1 (long 5) s5 refl refl in
    let s7 = offered 1 Regular 2 (short 6) s6 refl refl in
    let s8 = offered 1 Regular 2 (short 7) s7 refl refl in
    let s9 = offered 1 Regular 2 (short 8) s8 refl refl in
    let s10 = offered 1 Regular 3 (long 9) s9 refl refl in
    let s11 = started 1620 Request (long 2) s10 refl refl in
    let s12 = started 3240 Request (long 3) s11 refl refl in
    let s13 = started 4860 Regular (long 4) s12 refl refl in
    let s14 = started 6480 Regular (short 6) s13 refl refl in
    let s15 = started 7480 Regular (short 7) s14 refl refl in
    let s16 = started 8480 Regular (long 9) s15 refl refl in
    s16

pub requests_played : IsPlayed two_levels (requests_queued ++ requests_started) 12940000 12941643
unfolding decision layout two_bytes eight_bytes
requests_played =
    let s0 = nothing two_levels in
    let s1 = offered 0 Request 2 (tagged 2 1 1600 1) s0 refl refl in
    let s2 = offered 0 Request 2 (tagged 2 1 1600 2) s1 refl refl in
    let s3 = offered 0 Request 1 (tagged 1 1 981 3) s2 refl refl in
    let s4 = started 0 Request (tagged 2 1 1600 1) s3 refl refl in
    let s5 = offered 1 Request 2 (tagged 2 1 981 4) s4 refl refl in
    let s6 = offered 1 Request 1 (tagged 1 1 981 5) s5 refl refl in
    let s7 = offered 1 Request 1 (tagged 1 1 1600 6) s6 refl refl in
    let s8 = offered 1 Request 1 (tagged 1 2 1600 7) s7 refl refl in
    let s9 = offered 1 Request 1 (tagged 1 1 777 8) s8 refl refl in
    let s10 = offered 1 Request 1 (tagged 1 2 1600 9) s9 refl refl in
    let s11 = offered 1 Request 2 (tagged 2 1 1600 10) s10 refl refl in
    let s12 = offered 1 Request 2 (tagged 2 2 1600 11) s11 refl refl in
    let s13 = offered 1 Request 2 (tagged 2 2 1600 12) s12 refl refl in
    let s14 = started 1643 Request (tagged 1 1 981 3) s13 refl refl in
    let s15 = started 2667 Request (tagged 1 1 981 5) s14 refl refl in
    let s16 = waited 3691 1238000 s15 refl refl in
    let s17 = started 1238000 Request (tagged 2 1 1600 2) s16 refl refl in
    let s18 = waited 1239643 2881000 s17 refl refl in
    let s19 = started 2881000 Request (tagged 1 2 1600 7) s18 refl refl in
    let s20 = waited 2882643 4524000 s19 refl refl in
    let s21 = started 4524000 Request (tagged 2 2 1600 11) s20 refl refl in
    let s22 = waited 4525643 5548000 s21 refl refl in
    let s23 = started 5548000 Request (tagged 2 1 981 4) s22 refl refl in
    let s24 = waited 5549024 7191000 s23 refl refl in
    let s25 = started 7191000 Request (tagged 1 1 1600 6) s24 refl refl in
    let s26 = waited 7192643 8834000 s25 refl refl in
    let s27 = started 8834000 Request (tagged 2 1 1600 10) s26 refl refl in
    let s28 = waited 8835643 10477000 s27 refl refl in
    let s29 = started 10477000 Request (tagged 1 2 1600 9) s28 refl refl in
    let s30 = waited 10478643 11297000 s29 refl refl in
    let s31 = started 11297000 Request (tagged 1 1 777 8) s30 refl refl in
    let s32 = waited 11297820 12940000 s31 refl refl in
    let s33 = started 12940000 Request (tagged 2 2 1600 12) s32 refl refl in
    s33
