-- A request that is queued starts within its bound.
use Rattle.tva_port.proofs.Common.{◌≡◌, ℕ, ◌+◌, ◌-◌, ◌*◌, ◌<◌, ◌≤◌, max, List, [], ◌∷◌, ◌++◌, length, Some, None, refl, sym, ap, ◌∙◌, subst, inl, inr, ◌⊎◌, arith, append-nil, append_assoc, mul-le-mul_right, cases_lt, LinkLimits, Class, Request, Regular, Legacy, AreLinkLimits, PacketData, packet_length, bytes_in, RequestQueues, next_in, request_taken, cost, cap, debt, start, Entry, Queued, Started, entry_time, NoneLater, request_starts, free_after, waiting_after, covered, credit_after, RestsAt, MissesNone, Follows, AllFollow, IsStarted, IsLegal, waiting_with, bytes_with, requests_until, request_bound, AreServed, StartsBy, nat_tests}
use Rattle.tva_port.proofs.Debts.{AreBy, debt-later, debt-push}
use Rattle.tva_port.proofs.Logs.{legal-front, legal-here, later-push, later-weaker, later-front, starts_by, starts-push, starts-same, requests-push, free-queued, free-started, goes_on-push}
use Rattle.tva_port.proofs.Deciding.{lacking, covered_pays}
use Rattle.tva_port.proofs.Legality.{started_is, debt_capped}
use Rattle.tva_port.proofs.Idling.{within}
use Rattle.tva_port.proofs.Resting.{same_head}
use Rattle.tva_port.proofs.Levels.{request_sized}
use Rattle.tva_port.proofs.Tracking.{kept_within, bytes_next, Tracks, waits, tracks-offer, takes, next_among, next_is, next-offer}
use Rattle.tva_port.proofs.Going.{quiet, quiet_end, free_soon, Finds, finds_later, finds_next, finds_here, cost-add, cost_le, cost_twice, rests_free, resting_at, not_covered, start_sized, legal_rest, legal_up, queued_last, request_first, starts_by_found}

abbrev requests : LinkLimits → List Entry → RequestQueues
requests l log = (waiting_after l log).requests

abbrev debt_at : LinkLimits → List Entry → ℕ → ℕ
debt_at l log time = debt l (request_starts log) time

-- what the next request costs
abbrev next_cost : LinkLimits → List Entry → ℕ
next_cost l log = cost l (bytes_next (requests l log))

-- when the link is free, and not before the request and what occupied the link when it came
abbrev ready : LinkLimits → ℕ → List Entry → ℕ
ready l begin log = max begin (free_after l log)

-- While the request waits, the link never rests with credit at its cap: as time goes on, so does what
-- was paid and what is owed of the credit.
pub record Serving (l : LinkLimits) (key : ℕ) (p : PacketData) (begin most : ℕ) (log : List Entry) (before : List PacketData) (sent time from : ℕ) : Type 0 where
  pub legal : IsLegal l log
  pub past : NoneLater time log
  pub exact : (t : ℕ) → NoneLater t log → time ≤ t
  pub tracks : Tracks key p most (requests l log) before sent
  pub begun : begin ≤ max time (free_after l log)
  pub since : begin ≤ from
  pub free : from ≤ ready l begin log
  pub starts : AreBy from (request_starts log)
  pub owed : from + debt_at l log from ≤ begin + cap l + cost l sent
  pub busy : ready l begin log ≤ begin + cost l (sent + 2048) + 2048 * l.ns_per_byte
  pub idle : (v : ℕ) → ready l begin log ≤ v → v < time → cap l < debt_at l log v + next_cost l log

module _ (l : LinkLimits) (key : ℕ) (p : PacketData) (begin most : ℕ) (a : AreLinkLimits l) where
  -- the next request has at most 2,048 bytes
  next_within : (log : List Entry) (before : List PacketData) (sent : ℕ) → IsLegal l log
      → Tracks key p most (requests l log) before sent
      → (x : PacketData) × ((next_in (requests l log) ≡ Some x) ×
      ((bytes_next (requests l log) ≡ packet_length x) × (packet_length x ≤ 2048)))
  next_within log before sent g t =
      let w = (within l log a g).requests in
      let s = next_is key p (requests l log) (kept_within l (requests l log) w)
      (waits key p most (requests l log) before sent t) in
      (s.0, (s.1.0, (s.1.1, omega (arith, request_sized l (requests l log) s.0 w s.1.0, a.request.max))))

  -- at a time at which the link rests, the next request isn't covered
  lacks : (log : List Entry) (before : List PacketData) (sent v : ℕ) → IsLegal l log
      → Tracks key p most (requests l log) before sent → RestsAt l log v → free_after l log ≤ v
      → cap l < debt_at l log v + next_cost l log
  lacks log before sent v g t r f = grind (arith, nat_tests, (next_within log before sent g t), (resting_at l log v (rests_free l log v r f)), (rests_free l log v r f), lacking)

  -- up to a later time
  idle_to : (log : List Entry) (before : List PacketData) (sent time from later : ℕ) → Serving l key p begin most log before sent time from → ((v : ℕ) → time ≤ v → v < later → RestsAt l log v)
      → (v : ℕ) → ready l begin log ≤ v → v < later → cap l < debt_at l log v + next_cost l log
  idle_to log before sent time from later s r v h k = grind (arith, cases_lt v time, s.idle v h, lacks log before sent v s.legal s.tracks, r v)

  -- what is owed at a time at which the link is ready, where it rested up to then
  owed_at : (log : List Entry) (before : List PacketData) (sent time from s : ℕ) → Serving l key p begin most log before sent time from → ready l begin log ≤ s → ((v : ℕ) → ready l begin log ≤ v → v < s → cap l < debt_at l log v + next_cost l log)
      → (s + debt_at l log s ≤ begin + cap l + cost l sent) × ((s ≤ ready l begin log) ⊎ (s ≤ begin + cost l sent + next_cost l log))
  owed_at log before sent time from s w h i =
      let n = next_within log before sent w.legal w.tracks in
      let c = ap (λ z. cost l z) n.1.1.0 in
      let small = cost_le l (packet_length n.0) 2048 n.1.1.1 in
      let most2 : cost l (2048 + 2048) ≤ cap l = cost_le l (2048 + 2048) l.burst (omega (arith, a.burst.0)) in
      let twice = cost_twice l 2048 a in
      let d = debt-later l (request_starts log) from s w.starts (omega (arith, w.free)) in
      elim (cases_lt (ready l begin log) s) [
        | inl y ↦ (let k = i (s - 1) (omega arith) (omega arith) in
            let e = debt-later l (request_starts log) from (s - 1) w.starts (omega (arith, w.free)) in
            (omega (arith, k, d, e, c, small, most2, cost-add l 2048 2048, w.owed, w.free), inr (omega (arith, k, d, e, c, small, most2, cost-add l 2048 2048, w.owed, w.free))))
        | inr y ↦ (omega (arith, d, w.owed, w.busy, cost-add l sent 2048, most2, cost-add l 2048 2048, twice), inl y)
      ]

  -- an entry that starts no request, and leaves the next one
  serving-same : (log later : List Entry) (before : List PacketData) (sent time from s : ℕ) → Serving l key p begin most log before sent time from → time ≤ s → IsLegal l later → NoneLater s later → ((t : ℕ) → NoneLater t later → s ≤ t)
      → Tracks key p most (requests l later) before sent → free_after l later ≡ free_after l log
      → request_starts later ≡ request_starts log → bytes_next (requests l later) ≡ bytes_next (requests l log)
      → ((v : ℕ) → ready l begin log ≤ v → v < s → cap l < debt_at l log v + next_cost l log) → Serving l key p begin most later before sent s from
  serving-same log later before sent time from s w t g n x k f ss h i = grind (arith, nat_tests)

  queued_leaves : (log : List Entry) (before : List PacketData) (sent s : ℕ) (c : Class) (k : ℕ) (x : PacketData)
      → IsLegal l log → Tracks key p most (requests l log) before sent
      → Tracks key p most (requests l (log ++ Queued s c k x ∷ [])) before sent ×
      (bytes_next (requests l (log ++ Queued s c k x ∷ [])) ≡ bytes_next (requests l log))
  queued_leaves log before sent s Request k x g t = grind (arith, nat_tests, (kept_within l (requests l log) (within l log a g).requests), (requests-push l log (Queued s Request k x)), (tracks-offer key p most (requests l log) before sent k x), (next-offer key p (requests l log) k x), (waits key p most (requests l log) before sent t))
  queued_leaves log before sent s Regular k x g t = grind (arith, nat_tests, requests-push)
  queued_leaves log before sent s Legacy k x g t = grind (arith, nat_tests, requests-push)

  -- a packet is queued
  queued : (log : List Entry) (before : List PacketData) (sent time from s : ℕ) (c : Class) (k : ℕ) (x : PacketData) → Serving l key p begin most log before sent time from → Follows l log (Queued s c k x)
      → ((v : ℕ) → ready l begin log ≤ v → v < s → cap l < debt_at l log v + next_cost l log) → Serving l key p begin most (log ++ Queued s c k x ∷ []) before sent s from
  queued log before sent time from s c k x w f i =
      let e = Queued s c k x in
      let r = queued_leaves log before sent s c k x w.legal w.tracks in
      serving-same log (log ++ e ∷ []) before sent time from s w (w.exact s f.order) (goes_on-push l [] log e w.legal f) (later-push s log e f.order (omega arith)) (λ t n. (later-front t log e n).1)
      r.0 (free-queued l 0 log s c k x) (starts-same log e refl) r.1 i

  -- a packet of another class starts
  started_other : (log : List Entry) (before : List PacketData) (sent time from s : ℕ) (c : Class) (x : PacketData) → Serving l key p begin most log before sent time from → IsStarted l log s c x → (c ≡ Request → ⊥) → request_starts (Started s c x ∷ []) ≡ []
      → requests l (log ++ Started s c x ∷ []) ≡ requests l log
      → ((v : ℕ) → ready l begin log ≤ v → v < s → cap l < debt_at l log v + next_cost l log) → Serving l key p begin most (log ++ Started s c x ∷ []) before sent s s
  started_other log before sent time from s c x w f n o q i =
      let e = Started s c x in
      let y = next_within log before sent w.legal w.tracks in
      let free = free-started l 0 log s c x in
      let reach : ready l begin log ≤ s = omega (arith, f.free, w.exact s f.order, w.begun) in
      let owes = owed_at log before sent time from s w reach i in
      let lack : credit_after l log s < cost l (packet_length y.0) = lacking l (credit_after l log s) y.0 (subst (λ z. covered l (credit_after l log s) z ≡ None) y.1.0 (not_covered l log s c x n f.decided)) in
      let same = starts-same log e o in
      let small = cost_le l (packet_length y.0) 2048 y.1.1.1 in
      let size = mul-le-mul_right l.ns_per_byte (start_sized l log s c x a w.legal f) in
      let g : IsLegal l (log ++ e ∷ []) = goes_on-push l [] log e w.legal f in
      let past = later-push s log e f.order (omega arith) in
      record {
        legal = g;
        past = past;
        exact = λ t m. (later-front t log e m).1;
        tracks = subst (λ z. Tracks key p most z before sent) (sym q) w.tracks;
        begun = omega (arith, reach);
        since = omega (arith, reach);
        free = omega (arith, free);
        starts = starts_by s (log ++ e ∷ []) past;
        owed = omega (arith, owes.0, ap (λ z. debt l z s) same);
        busy = omega (arith, owes.0, lack, small, free, size, reach, cost-add l sent 2048);
        idle = λ v r h. absurd (omega (arith, r, h, free));
      }

  -- a request starts
  started_own : (log : List Entry) (before next : List PacketData) (sent time from s : ℕ) (x : PacketData) → Serving l key p begin most log before sent time from → IsStarted l log s Request x
      → Tracks key p most (request_taken (requests l log)) next (sent + packet_length x)
      → ((v : ℕ) → ready l begin log ≤ v → v < s → cap l < debt_at l log v + next_cost l log) → Serving l key p begin most (log ++ Started s Request x ∷ []) next (sent + packet_length x) s s
  started_own log before next sent time from s x w f k i =
      let e = Started s Request x in
      let y = next_within log before sent w.legal w.tracks in
      let paid = covered_pays l (credit_after l log s) (next_in (requests l log)) x (started_is l log s Request x f) in
      let same : cost l (bytes_next (requests l log)) ≡ cost l (packet_length x) = ap (λ z. cost l z) y.1.1.0 ∙ ap
      (λ z. cost l (packet_length z)) (same_head (next_in (requests l log)) y.0 x y.1.0 paid.0) in
      let free = free-started l 0 log s Request x in
      let reach : ready l begin log ≤ s = omega (arith, f.free, w.exact s f.order, w.begun) in
      let owes = owed_at log before sent time from s w reach i in
      let more = starts-push log e in
      let d = debt-push l (request_starts log) (start s (packet_length x)) s (starts_by s log f.order) (omega arith) in
      let size = mul-le-mul_right l.ns_per_byte (start_sized l log s Request x a w.legal f) in
      let twice = cost_twice l (packet_length x) a in
      let g : IsLegal l (log ++ e ∷ []) = goes_on-push l [] log e w.legal f in
      let past = later-push s log e f.order (omega arith) in
      let one = cost-add l sent (packet_length x) in
      let two = cost-add l (sent + packet_length x) 2048 in
      let three = cost-add l sent 2048 in
      record {
        legal = g;
        past = past;
        exact = λ t m. (later-front t log e m).1;
        tracks = subst (λ z. Tracks key p most z next (sent + packet_length x)) (sym (requests-push l log e)) k;
        begun = omega (arith, reach);
        since = omega (arith, reach);
        free = omega (arith, free);
        starts = starts_by s (log ++ e ∷ []) past;
        owed = omega (arith, owes.0, ap (λ z. debt l z s) more, d, one);
        busy = elim owes.1 [
          | inl z ↦ omega (arith, z, w.busy, free, reach, twice, one, two, three)
          | inr z ↦ omega (arith, z, same, free, reach, size, one, two, three)
        ];
        idle = λ v r h. absurd (omega (arith, r, h, free));
      }

  -- where it has not started by the bound, the credit would have covered what is next
  module _ (last until : ℕ) (enough : begin + 2048 * l.ns_per_byte + cost l (most + 2048) ≤ last) (whole : List Entry) (none : MissesNone l until whole) (known : last < until) where
    never : (log : List Entry) (before : List PacketData) (sent time from : ℕ) → Serving l key p begin most log before sent time from → time ≤ last → ((v : ℕ) → time ≤ v → v < last + 1 → RestsAt l log v) → ⊥
    never log before sent time from w t r =
        let among = next_among key p most (requests l log) before sent (kept_within l (requests l log)
        (within l log a w.legal).requests) w.tracks in
        let le = cost_le l (sent + bytes_next (requests l log)) most among in
        let sum = cost-add l sent (bytes_next (requests l log)) in
        let fits = cost_le l (sent + 2048) (most + 2048) (omega (arith, among)) in
        let ready_by : ready l begin log ≤ last = omega (arith, w.busy, fits, enough) in
        let lack = idle_to log before sent time from (last + 1) w r last ready_by (omega arith) in
        let d = debt-later l (request_starts log) from last w.starts (omega (arith, w.free, ready_by)) in
        let n = next_within log before sent w.legal w.tracks in
        let c = ap (λ z. cost l z) n.1.1.0 in
        let small = cost_le l (packet_length n.0) 2048 n.1.1.1 in
        let most2 : cost l (2048 + 2048) ≤ cap l = cost_le l (2048 + 2048) l.burst (omega (arith, a.burst.0)) in
        omega (arith, lack, d, c, small, most2, cost-add l 2048 2048, w.owed, le, sum, cost-add l most 2048, enough)

    abbrev Goes : List Entry → Type 0
    Goes es = (log : List Entry) (before : List PacketData) (sent time from : ℕ) → whole ≡ log ++ es → AllFollow l log es → time ≤ last → Serving l key p begin most log before sent time from → Finds l Request key p (length before) log es last

    serve_one : (e : Entry) (es log : List Entry) (before : List PacketData) (sent time from : ℕ) → Goes es → whole ≡ (log ++ e ∷ []) ++ es → Follows l log e → AllFollow l (log ++ e ∷ []) es → entry_time e ≤ last → Serving l key p begin most log before sent time from
        → ((v : ℕ) → ready l begin log ≤ v → v < entry_time e → cap l < debt_at l log v + next_cost l log) → Finds l Request key p (length before) log (e ∷ es) last
    serve_one (Queued s c k x) es log before sent time from next same f g t w i =
        finds_later l Request key p (length before) log (Queued s c k x) es last refl (next (log ++ Queued s c k x ∷ []) before sent s from same g t (queued log before sent time from s c k x w f i))
    serve_one (Started s Regular x) es log before sent time from next same f g t w i =
        finds_later l Request key p (length before) log (Started s Regular x) es last refl
        (next (log ++ Started s Regular x ∷ []) before sent s s same g t
        (started_other log before sent time from s Regular x w f (λ n. cc) refl
        (requests-push l log (Started s Regular x)) i))
    serve_one (Started s Legacy x) es log before sent time from next same f g t w i =
        finds_later l Request key p (length before) log (Started s Legacy x) es last refl
        (next (log ++ Started s Legacy x ∷ []) before sent s s same g t
        (started_other log before sent time from s Legacy x w f (λ n. cc) refl
        (requests-push l log (Started s Legacy x)) i))
    serve_one (Started s Request x) es log before sent time from next same f g t w i =
        let paid = covered_pays l (credit_after l log s) (next_in (requests l log)) x
        (started_is l log s Request x f) in
        let e = Started s Request x in
        elim (takes key p most (requests l log) before sent x (kept_within l (requests l log)
        (within l log a w.legal).requests) paid.0 w.tracks) [
          | inl z ↦ subst (λ xs. Finds l Request key p (length xs) log (e ∷ es) last) (sym z.1.0) (finds_here l Request key p log s x es last z.0 z.1.1 t)
          | inr z ↦ elim z [
            | inl m ↦ subst (λ xs. Finds l Request key p (length xs) log (e ∷ es) last) (sym m.1.1.0)
                (finds_next l Request key p (length m.1.0) log e es last m.0 (next (log ++ e ∷ []) m.1.0 (sent + packet_length x) s s same g t (started_own log before m.1.0 sent time from s x w f m.1.1.1 i)))
            | inr m ↦ finds_later l Request key p (length before) log e es last m.0 (next (log ++ e ∷ []) before (sent + packet_length x) s s same g t (started_own log before before sent time from s x w f m.1 i))
          ]
        ]

    serve : (rest log : List Entry) (before : List PacketData) (sent time from : ℕ) → whole ≡ log ++ rest → AllFollow l log rest → time ≤ last → Serving l key p begin most log before sent time from → Finds l Request key p (length before) log rest last
    serve [] log before sent time from same g t w = absurd (never log before sent time from w t (quiet_end l last until whole none known log time (same ∙ append-nil log) w.past))
    serve (e ∷ es) log before sent time from same g t w =
        elim (cases_lt last (entry_time e)) [
          | inl y ↦ absurd (never log before sent time from w t (quiet l last until whole none known log e es time (last + 1) same w.legal g.0 g.1 w.past (omega arith) (omega arith)))
          | inr y ↦ serve_one e es log before sent time from (λ log2 before2 sent2 time2 from2 same2 g2 t2 w2. serve es log2 before2 sent2 time2 from2 same2 g2 t2 w2) (same ∙ sym (append_assoc log (e ∷ []) es)) g.0 g.1 y w
              (idle_to log before sent time from (entry_time e) w (quiet l last until whole none known log e es time (entry_time e) same w.legal g.0 g.1 w.past (omega arith) (omega (arith, known))))
        ]

-- a request that is queued starts within its bound, where no start was missed up to then
pub request_bounded : (l : LinkLimits) (before after : List Entry) (t key : ℕ) (p : PacketData) (until : ℕ) → AreLinkLimits l → IsLegal l (before ++ Queued t Request key p ∷ after) → MissesNone l until (before ++ Queued t Request key p ∷ after)
    → t + request_bound l (bytes_with l Request key p (before ++ Queued t Request key p ∷ [])) < until
    → StartsBy l Request key p (before ++ Queued t Request key p ∷ []) after
    (t + request_bound l (bytes_with l Request key p (before ++ Queued t Request key p ∷ [])))
request_bounded l before after t key p until a g m k =
    let e = Queued t Request key p in
    let log : List Entry = before ++ e ∷ [] in
    let f = legal-here l [] before e after g in
    let b = legal-front l [] before (e ∷ after) g in
    let up = legal_up l before e after g in
    let begin : ℕ = max t (free_after l before) in
    let most : ℕ = requests_until l.request l.request_inner
    (bytes_in packet_length (waiting_with l Request key p log)) in
    let past = later-push t before e f.order (omega arith) in
    let near = free_soon l before t a b f.order in
    let free = free-queued l 0 before t Request key p in
    let twice = cost_twice l 2048 a in
    let size : cost l (most + 2 * l.request.max) ≡ cost l (most + 2 * 2048) = ap (λ z. cost l (most + 2 * z)) a.request.max in
    let sum : cost l (most + 2 * 2048) ≡ cost l (most + 2048) + cost l 2048 = (let q : most + 2 * 2048 ≡ (most + 2048) + 2048 = omega arith in ap (λ z. cost l z) q ∙ cost-add l (most + 2048) 2048) in
    let late : NoneLater begin log = later-weaker t begin log (omega arith) past in
    let w : Serving l key p begin most log (waiting_with l Request key p before) 0 t begin = record {
      legal = up;
      past = past;
      exact = λ u n. (later-front u before e n).1;
      tracks = request_first l before t key p a up f;
      begun = omega (arith, free);
      since = omega arith;
      free = omega arith;
      starts = starts_by begin log late;
      owed = omega (arith, debt_capped l log up begin late);
      busy = omega (arith, free);
      idle = λ v r h. absurd (omega arith);
    } in
    starts_by_found l Request before after t key p
    (t + request_bound l (bytes_in packet_length (waiting_with l Request key p log)))
    (queued_last l Request before t key p tt f)
    (serve l key p begin most a (t + request_bound l
    (bytes_in packet_length (waiting_with l Request key p log))) until (omega (arith, near, twice, size, sum))
    (before ++ e ∷ after) m k after log (waiting_with l Request key p before) 0 t begin
    (sym (append_assoc before (e ∷ []) after)) (legal_rest l before e after g) (omega arith) w)

pub requests_served : (l : LinkLimits) (log : List Entry) (now until : ℕ) → AreLinkLimits l → IsLegal l log → MissesNone l until log → now < until → AreServed l Request (request_bound l) now log
requests_served l log now until a g m k = grind (arith, nat_tests, request_bounded)
