-- A regular packet that is queued starts within its bound.
use Rattle.tva_port.proofs.Common.{◌≡◌, ℕ, ◌+◌, ◌-◌, ◌*◌, ◌<◌, ◌≤◌, max, List, [], ◌∷◌, ◌++◌, length, Some, None, refl, sym, ap, ◌∙◌, subst, inl, inr, arith, append-nil, append_assoc, mul_assoc, mul-le-mul_right, add-mul, mul_comm, cases_lt, LinkLimits, Class, Request, Regular, Legacy, AreLinkLimits, PacketData, packet_length, bytes_in, most_until, RequestQueues, OneLevel, request_taken, cost, cap, debt, start, Entry, Queued, Started, entry_time, NoneLater, request_starts, free_after, waiting_after, regular_step, RestsAt, MissesNone, Follows, AllFollow, IsStarted, IsLegal, waiting_with, bytes_with, regular_bound, AreServed, StartsBy, nat_tests}
use Rattle.tva_drr.proofs.Ceil.{ceil_times}
use Rattle.tva_port.proofs.Debts.{AreBy, debt-later, debt-push}
use Rattle.tva_port.proofs.Logs.{legal-front, legal-here, later-push, later-weaker, later-front, starts_by, starts-push, starts-same, free-queued, free-started, regulars-push, goes_on-push}
use Rattle.tva_port.proofs.Legality.{started_is, debt_capped}
use Rattle.tva_port.proofs.Idling.{within}
use Rattle.tva_port.proofs.Tracking.{Waits, Tracks, waits, tracks-offer, takes, next_among, next_is}
use Rattle.tva_port.proofs.Going.{quiet, quiet_end, free_soon, Finds, finds_later, finds_next, finds_here, cost-add, cost_le, rests_free, resting_at, no_regulars, legal_rest, legal_up, queued_last, regular_first, starts_by_found}

abbrev regulars : LinkLimits → List Entry → RequestQueues
regulars l log = OneLevel (waiting_after l log).regulars

-- when the link is free, and not before the packet and what occupied the link when it came
abbrev ready : LinkLimits → ℕ → List Entry → ℕ
ready l begin log = max begin (free_after l log)

-- While the packet waits, the link is busy with requests and regular packets all along, and the requests
-- cost no more than a burst and the time.
pub record Serving (l : LinkLimits) (key : ℕ) (p : PacketData) (begin most : ℕ) (log : List Entry) (before : List PacketData) (sent asked time from : ℕ) : Type 0 where
  pub legal : IsLegal l log
  pub past : NoneLater time log
  pub exact : (t : ℕ) → NoneLater t log → time ≤ t
  pub tracks : Tracks key p most (regulars l log) before sent
  pub begun : begin ≤ max time (free_after l log)
  pub steady : time ≤ ready l begin log
  pub filled : ready l begin log ≡ begin + (asked + sent) * l.ns_per_byte
  pub since : begin ≤ from
  pub free : from ≤ ready l begin log
  pub starts : AreBy from (request_starts log)
  pub paid : cost l asked + begin ≤ debt l (request_starts log) from + from

share_of : (l : LinkLimits) (n : ℕ) → cost l n ≡ n * l.ns_per_byte * l.share
share_of l n = mul_assoc n l.share l.ns_per_byte ∙ (ap (λ z. n * z) (mul_comm l.share l.ns_per_byte) ∙ sym (mul_assoc n l.ns_per_byte l.share))

less_one : (x d : ℕ) → 1 ≤ d → x * d ≡ x * (d - 1) + x
less_one x d h = let e : d ≡ d - 1 + 1 = omega arith in ap (λ z. x * z) e ∙ (mul_comm x (d - 1 + 1) ∙ (add-mul (d - 1) 1 x ∙ (ap (λ z. z + 1 * x) (mul_comm (d - 1) x) ∙ omega arith)))

le_by : (x y d : ℕ) → 1 ≤ d → x * d ≤ y * d → x ≤ y
le_by x y d h k = grind (arith, nat_tests, cases_lt, mul-le-mul_right, add-mul)

module _ (l : LinkLimits) (key : ℕ) (p : PacketData) (begin most : ℕ) (a : AreLinkLimits l) where
  -- the link doesn't rest while the packet waits
  no_rest : (log : List Entry) (v : ℕ) → IsLegal l log → Waits key p (regulars l log) → RestsAt l log v → free_after l log ≤ v → ⊥
  no_rest log v g h r f =
      let s = next_is key p (regulars l log) (within l log a g).regulars.0 h in
      let o = (resting_at l log v (rests_free l log v r f)).regulars in
      let k : None ≡ Some s.0 = sym o ∙ s.1.0 in
      absurd (cc)

  -- so nothing comes later than the link is ready
  comes_by : (log : List Entry) (before : List PacketData) (sent asked time from s : ℕ) → Serving l key p begin most log before sent asked time from → ((v : ℕ) → time ≤ v → v < s → RestsAt l log v) → s ≤ ready l begin log
  comes_by log before sent asked time from s w r = grind (arith, cases_lt (ready l begin log) s, no_rest log (ready l begin log) w.legal (waits key p most (regulars l log) before sent w.tracks), r (ready l begin log) w.steady)

  stays : (log : List Entry) (before : List PacketData) (sent : ℕ) (e : Entry) → IsLegal l log
      → Tracks key p most (OneLevel (regular_step (waiting_after l log).regulars e)) before sent
      → Tracks key p most (regulars l (log ++ e ∷ [])) before sent
  stays log before sent e g t = subst (λ z. Tracks key p most (OneLevel z) before sent) (sym (regulars-push l log e)) t

  queued_leaves : (log : List Entry) (before : List PacketData) (sent s : ℕ) (c : Class) (k : ℕ) (x : PacketData) → IsLegal l log → Tracks key p most (regulars l log) before sent → Tracks key p most (regulars l (log ++ Queued s c k x ∷ [])) before sent
  queued_leaves log before sent s Regular k x g t = stays log before sent (Queued s Regular k x) g
      (tracks-offer key p most (regulars l log) before sent k x (within l log a g).regulars.0 t)
  queued_leaves log before sent s Request k x g t = stays log before sent (Queued s Request k x) g t
  queued_leaves log before sent s Legacy k x g t = stays log before sent (Queued s Legacy k x) g t

  -- a packet is queued
  queued : (log : List Entry) (before : List PacketData) (sent asked time from s : ℕ) (c : Class) (k : ℕ) (x : PacketData) → Serving l key p begin most log before sent asked time from → Follows l log (Queued s c k x) → s ≤ ready l begin log
      → Serving l key p begin most (log ++ Queued s c k x ∷ []) before sent asked s from
  queued log before sent asked time from s c k x w f i =
      let e = Queued s c k x in
      let free = free-queued l 0 log s c k x in
      let same = starts-same log e refl in
      record {
        legal = goes_on-push l [] log e w.legal f;
        past = later-push s log e f.order (omega arith);
        exact = λ t n. (later-front t log e n).1;
        tracks = queued_leaves log before sent s c k x w.legal w.tracks;
        begun = omega (arith, w.begun, w.exact s f.order, free);
        steady = omega (arith, free);
        filled = omega (arith, w.filled, free);
        since = w.since;
        free = omega (arith, w.free, free);
        starts = subst (λ z. AreBy from z) (sym same) w.starts;
        paid = omega (arith, w.paid, ap (λ z. debt l z from) same);
      }

  -- a request starts
  started_request : (log : List Entry) (before : List PacketData) (sent asked time from s : ℕ) (x : PacketData) → Serving l key p begin most log before sent asked time from → IsStarted l log s Request x → s ≤ ready l begin log
      → Serving l key p begin most (log ++ Started s Request x ∷ []) before sent (asked + packet_length x) s s
  started_request log before sent asked time from s x w f i =
      let e = Started s Request x in
      let free = free-started l 0 log s Request x in
      let reach : ready l begin log ≤ s = omega (arith, f.free, w.exact s f.order, w.begun) in
      let more = starts-push log e in
      let d = debt-push l (request_starts log) (start s (packet_length x)) s (starts_by s log f.order) (omega arith) in
      let later = debt-later l (request_starts log) from s w.starts (omega (arith, w.free, reach)) in
      let past = later-push s log e f.order (omega arith) in
      record {
        legal = goes_on-push l [] log e w.legal f;
        past = past;
        exact = λ t n. (later-front t log e n).1;
        tracks = stays log before sent e w.legal w.tracks;
        begun = omega (arith, reach);
        steady = omega (arith, free);
        filled = omega (arith, w.filled, free, reach, i, add-mul (asked + sent) (packet_length x) l.ns_per_byte, (let q : asked + packet_length x + sent ≡ asked + sent + packet_length x = omega arith in ap (λ z. z * l.ns_per_byte) q));
        since = omega (arith, reach);
        free = omega (arith, free);
        starts = starts_by s (log ++ e ∷ []) past;
        paid = omega (arith, w.paid, later, d, ap (λ z. debt l z s) more, cost-add l asked (packet_length x), w.free, reach);
      }

  -- a regular packet starts
  started_own : (log : List Entry) (before next : List PacketData) (sent asked time from s : ℕ) (x : PacketData) → Serving l key p begin most log before sent asked time from → IsStarted l log s Regular x → s ≤ ready l begin log
      → Tracks key p most (request_taken (regulars l log)) next (sent + packet_length x) → Serving l key p begin most (log ++ Started s Regular x ∷ []) next (sent + packet_length x) asked s from
  started_own log before next sent asked time from s x w f i k =
      let e = Started s Regular x in
      let free = free-started l 0 log s Regular x in
      let reach : ready l begin log ≤ s = omega (arith, f.free, w.exact s f.order, w.begun) in
      let same = starts-same log e refl in
      record {
        legal = goes_on-push l [] log e w.legal f;
        past = later-push s log e f.order (omega arith);
        exact = λ t n. (later-front t log e n).1;
        tracks = stays log next (sent + packet_length x) e w.legal k;
        begun = omega (arith, reach);
        steady = omega (arith, free);
        filled = omega (arith, w.filled, free, reach, i, add-mul (asked + sent) (packet_length x) l.ns_per_byte, (let q : asked + (sent + packet_length x) ≡ asked + sent + packet_length x = omega arith in ap (λ z. z * l.ns_per_byte) q));
        since = w.since;
        free = omega (arith, w.free, free, reach);
        starts = subst (λ z. AreBy from z) (sym same) w.starts;
        paid = omega (arith, w.paid, ap (λ z. debt l z from) same);
      }

  -- the requests that started cost at most a burst and the time
  paid_by : (log : List Entry) (before : List PacketData) (sent asked time from : ℕ) → Serving l key p begin most log before sent asked time from → cost l asked ≤ cap l + (ready l begin log - begin)
  paid_by log before sent asked time from w = grind (arith, nat_tests, (later-weaker time (max time from) log (omega arith) w.past), (debt_capped l log w.legal (max time from)), (debt-later l (request_starts log) from (max time from) w.starts (omega arith)))

  -- the link is ready within the bound
  in_time : (log : List Entry) (before : List PacketData) (sent asked time from bytes t : ℕ) → Serving l key p begin most log before sent asked time from → most ≡ most_until l.regular bytes → begin ≤ t + 2048 * l.ns_per_byte → ready l begin log ≤ t + regular_bound l bytes
  in_time log before sent asked time from bytes t w e h =
      let x : ℕ = (asked + sent) * l.ns_per_byte in
      let among = next_among key p most (regulars l log) before sent (within l log a w.legal).regulars.0 w.tracks in
      let whole : cost l (asked + sent) ≡ x * l.share = share_of l (asked + sent) in
      let parts = cost-add l asked sent in
      let sends = cost_le l sent most (omega (arith, among)) in
      let burst = cost-add l most l.burst in
      let greatest = cost-add l (most + l.burst) 2048 in
      let shuffle : cost l (most_until l.regular bytes + l.regular.max + l.burst) ≡ cost l (most + l.burst + 2048) = (let q : most_until l.regular bytes + l.regular.max + l.burst ≡ most + l.burst + 2048 = omega (arith, a.regular.max, e) in ap (λ z. cost l z) q) in
      let ceil = (ceil_times (cost l (most_until l.regular bytes + l.regular.max + l.burst)) (l.share - 1) (omega (arith, a.share.0))).0 in
      let one : x * l.share ≡ x * (l.share - 1) + x = less_one x l.share (omega (arith, a.share.0)) in
      let two : 2048 * l.ns_per_byte * l.share ≡ 2048 * l.ns_per_byte * (l.share - 1) + 2048 * l.ns_per_byte = less_one (2048 * l.ns_per_byte) l.share (omega (arith, a.share.0)) in
      let size : cost l 2048 ≡ 2048 * l.ns_per_byte * l.share = share_of l 2048 in
      let sum = add-mul x (2048 * l.ns_per_byte) (l.share - 1) in
      let enough : x + 2048 * l.ns_per_byte ≤ regular_bound l bytes =
      le_by (x + 2048 * l.ns_per_byte) (regular_bound l bytes) (l.share - 1) (omega (arith, a.share.0))
      (omega (arith, sum, ceil, shuffle, greatest, burst, one, two, size, whole, parts, sends, w.paid, paid_by log before sent asked time from w, w.filled, w.free)) in
      omega (arith, enough, h, w.filled)

  module _ (bytes t last until : ℕ) (same : most ≡ most_until l.regular bytes) (near : begin ≤ t + 2048 * l.ns_per_byte) (bound : last ≡ t + regular_bound l bytes) (whole : List Entry) (none : MissesNone l until whole) (known : last < until) where
    -- where it has not started by the bound, the link rests while it waits
    never : (log : List Entry) (before : List PacketData) (sent asked time from : ℕ) → Serving l key p begin most log before sent asked time from → time ≤ last → ((v : ℕ) → time ≤ v → v < last + 1 → RestsAt l log v) → ⊥
    never log before sent asked time from w h r =
        let soon = in_time log before sent asked time from bytes t w same near in
        no_rest log last w.legal (waits key p most (regulars l log) before sent w.tracks) (r last h (omega arith)) (omega (arith, soon, bound))

    abbrev Goes : List Entry → Type 0
    Goes es = (log : List Entry) (before : List PacketData) (sent asked time from : ℕ) → whole ≡ log ++ es → AllFollow l log es → time ≤ last → Serving l key p begin most log before sent asked time from → Finds l Regular key p (length before) log es last

    serve_one : (e : Entry) (es log : List Entry) (before : List PacketData) (sent asked time from : ℕ) → Goes es → whole ≡ (log ++ e ∷ []) ++ es → Follows l log e → AllFollow l (log ++ e ∷ []) es → entry_time e ≤ last → Serving l key p begin most log before sent asked time from
        → entry_time e ≤ ready l begin log → Finds l Regular key p (length before) log (e ∷ es) last
    serve_one (Queued s c k x) es log before sent asked time from next q f g h w i =
        finds_later l Regular key p (length before) log (Queued s c k x) es last refl (next (log ++ Queued s c k x ∷ []) before sent asked s from q g h (queued log before sent asked time from s c k x w f i))
    serve_one (Started s Request x) es log before sent asked time from next q f g h w i =
        finds_later l Regular key p (length before) log (Started s Request x) es last refl (next (log ++ Started s Request x ∷ []) before sent (asked + packet_length x) s s q g h (started_request log before sent asked time from s x w f i))
    serve_one (Started s Legacy x) es log before sent asked time from next q f g h w i =
        let y = next_is key p (regulars l log) (within l log a w.legal).regulars.0
        (waits key p most (regulars l log) before sent w.tracks) in
        absurd (let k : None ≡ Some y.0 = sym (no_regulars l log s x f.decided) ∙ y.1.0 in cc)
    serve_one (Started s Regular x) es log before sent asked time from next q f g h w i =
        let e = Started s Regular x in
        elim (takes key p most (regulars l log) before sent x (within l log a w.legal).regulars.0 (started_is l log s Regular x f) w.tracks) [
          | inl z ↦ subst (λ xs. Finds l Regular key p (length xs) log (e ∷ es) last) (sym z.1.0) (finds_here l Regular key p log s x es last z.0 z.1.1 h)
          | inr z ↦ elim z [
            | inl m ↦ subst (λ xs. Finds l Regular key p (length xs) log (e ∷ es) last) (sym m.1.1.0)
                (finds_next l Regular key p (length m.1.0) log e es last m.0 (next (log ++ e ∷ []) m.1.0 (sent + packet_length x) asked s from q g h (started_own log before m.1.0 sent asked time from s x w f i m.1.1.1)))
            | inr m ↦ finds_later l Regular key p (length before) log e es last m.0 (next (log ++ e ∷ []) before (sent + packet_length x) asked s from q g h (started_own log before before sent asked time from s x w f i m.1))
          ]
        ]

    serve : (rest log : List Entry) (before : List PacketData) (sent asked time from : ℕ) → whole ≡ log ++ rest → AllFollow l log rest → time ≤ last → Serving l key p begin most log before sent asked time from → Finds l Regular key p (length before) log rest last
    serve [] log before sent asked time from q g h w = absurd (never log before sent asked time from w h (quiet_end l last until whole none known log time (q ∙ append-nil log) w.past))
    serve (e ∷ es) log before sent asked time from q g h w =
        elim (cases_lt last (entry_time e)) [
          | inl y ↦ absurd (never log before sent asked time from w h (quiet l last until whole none known log e es time (last + 1) q w.legal g.0 g.1 w.past (omega arith) (omega arith)))
          | inr y ↦ serve_one e es log before sent asked time from (λ log2 before2 sent2 asked2 time2 from2 q2 g2 h2 w2. serve es log2 before2 sent2 asked2 time2 from2 q2 g2 h2 w2) (q ∙ sym (append_assoc log (e ∷ []) es)) g.0 g.1 y w
              (comes_by log before sent asked time from (entry_time e) w (quiet l last until whole none known log e es time (entry_time e) q w.legal g.0 g.1 w.past (omega arith) (omega (arith, known))))
        ]

-- a regular packet that is queued starts within its bound, where no start was missed up to then
pub regular_bounded : (l : LinkLimits) (before after : List Entry) (t key : ℕ) (p : PacketData) (until : ℕ) → AreLinkLimits l → IsLegal l (before ++ Queued t Regular key p ∷ after) → MissesNone l until (before ++ Queued t Regular key p ∷ after)
    → t + regular_bound l (bytes_with l Regular key p (before ++ Queued t Regular key p ∷ [])) < until
    → StartsBy l Regular key p (before ++ Queued t Regular key p ∷ []) after
    (t + regular_bound l (bytes_with l Regular key p (before ++ Queued t Regular key p ∷ [])))
regular_bounded l before after t key p until a g m k =
    let e = Queued t Regular key p in
    let log : List Entry = before ++ e ∷ [] in
    let f = legal-here l [] before e after g in
    let b = legal-front l [] before (e ∷ after) g in
    let up = legal_up l before e after g in
    let begin : ℕ = max t (free_after l before) in
    let bytes : ℕ = bytes_in packet_length (waiting_with l Regular key p log) in
    let past = later-push t before e f.order (omega arith) in
    let near = free_soon l before t a b f.order in
    let free = free-queued l 0 before t Regular key p in
    let late : NoneLater begin log = later-weaker t begin log (omega arith) past in
    let w : Serving l key p begin (most_until l.regular bytes) log
    (waiting_with l Regular key p before) 0 0 t begin = record {
      legal = up;
      past = past;
      exact = λ u n. (later-front u before e n).1;
      tracks = regular_first l before t key p a up f;
      begun = omega (arith, free);
      steady = omega (arith, free);
      filled = omega (arith, free);
      since = omega arith;
      free = omega (arith, free);
      starts = starts_by begin log late;
      paid = omega arith;
    } in
    starts_by_found l Regular before after t key p (t + regular_bound l bytes)
    (queued_last l Regular before t key p tt f)
    (serve l key p begin (most_until l.regular bytes) a bytes t (t + regular_bound l bytes) until refl
    (omega (arith, near)) refl (before ++ e ∷ after) m k after log (waiting_with l Regular key p before) 0 0 t begin
    (sym (append_assoc before (e ∷ []) after)) (legal_rest l before e after g) (omega arith) w)

pub regulars_served : (l : LinkLimits) (log : List Entry) (now until : ℕ) → AreLinkLimits l → IsLegal l log → MissesNone l until log → now < until → AreServed l Regular (regular_bound l) now log
regulars_served l log now until a g m k = grind (arith, nat_tests, regular_bounded)
