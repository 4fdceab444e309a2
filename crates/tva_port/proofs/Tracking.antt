-- A packet that waits in its queue, and the bytes of its class that go before it, in queues of one level or of two:
-- regular packets wait in queues of one level, and requests in those of their link.
use Rattle.tva_port.proofs.Common.{◌≡◌, ℕ, ◌+◌, ◌≤◌, true, false, cond, List, [], ◌∷◌, ◌++◌, length, Some, refl, sym, ap, ◌∙◌, subst, inl, inr, ◌⊎◌, arith, append_assoc, sum_by-cons, sum_by_push, DrrLimits, LinkLimits, Class, Request, Regular, Legacy, PacketData, packet_length, inner_key_of, Queue, Fair, fair, has_key, items_of, bytes_in, head, put, lacks_queue, lacks_room, offer_leaves, taken, AreQueues, IsFair, is_front, first_bytes, head_bytes, most_until, goes_last, goes_first, by_test, taken_falls, ahead-offer, ahead_most, offer_cases, has_from_items, some_head, Hier, items_under, fair_of, left_by_offer, IsHier, head_some, head-put, left_last, next_some, next_there, groups_there, next-offered, taken_under, next_ahead, RequestQueues, OneLevel, TwoLevels, next_in, request_leaves, request_taken, requests_with, are_next, Entry, waiting_after, AreWithin, IsWithinLimits, requests_until, nat_tests}
use Rattle.std.specs.Bool.{MatchBool}
use Rattle.tva_drr.specs.Order.{GoesLast}
use Rattle.tva_drr.specs.Ahead.{bytes_ahead}
use Rattle.tva_drr.specs.GroupsOrder.{GoesLastUnder}
use Rattle.tva_drr.specs.GroupsAhead.{bytes_ahead_under, next_bytes, most_until_under}
use Rattle.tva_drr.proofs.Aheads.{falls_under, offer_under, most_under, next_ahead_of}
use Rattle.tva_port.proofs.Logs.{fair_step, regulars-push}
use Rattle.tva_port.proofs.Waits.{within_or}

-- ## one class

-- the class has fair queues
abbrev pub IsQueueing : Class → Type 0
IsQueueing Request = Unit {0}
IsQueueing Regular = Unit {0}
IsQueueing Legacy = ⊥

same_fair : (f : Fair PacketData) (d : DrrLimits) → f.limits ≡ d → f ≡ fair d f.queues
same_fair f d e = ap (λ (z : DrrLimits). fair z f.queues) e

-- the queues of regular packets under their limits, after one more entry
pub regulars-step : (l : LinkLimits) (log : List Entry) (e : Entry) → IsWithinLimits l (waiting_after l log)
    → (waiting_after l (log ++ e ∷ [])).regulars.queues ≡
    (fair_step Regular (fair l.regular (waiting_after l log).regulars.queues) e).queues
regulars-step l log e w = grind (arith, nat_tests, (regulars-push l log e), (same_fair (waiting_after l log).regulars l.regular w.regulars.1))

pub regulars_now : (l : LinkLimits) (log : List Entry) → IsWithinLimits l (waiting_after l log)
    → IsFair packet_length (fair l.regular (waiting_after l log).regulars.queues)
regulars_now l log w = subst (λ f. IsFair packet_length f)
    (same_fair (waiting_after l log).regulars l.regular w.regulars.1) w.regulars.0

offer_limits : (f : Fair PacketData) (k : ℕ) (x : PacketData) → (offer_leaves packet_length f k x).limits ≡ f.limits
offer_limits f k x = offer_cases (lacks_queue f k) (lacks_room packet_length f k x) f
    (fair f.limits (put f.limits.quantum k x f.queues)) (λ (g : Fair PacketData). g.limits ≡ f.limits) refl (λ _ _. refl)

-- ## queues

-- what is true of them at every moment
abbrev pub AreKept : RequestQueues → Type 0
AreKept (OneLevel f) = IsFair packet_length f
AreKept (TwoLevels h) = IsHier packet_length h

pub kept_within : (l : LinkLimits) (rs : RequestQueues) → AreWithin l rs → AreKept rs
kept_within l (OneLevel f) w = w.1
kept_within l (TwoLevels h) w = w.1

-- the bytes of the next packet
abbrev pub bytes_next : RequestQueues → ℕ
bytes_next (OneLevel f) = head_bytes packet_length f.queues
bytes_next (TwoLevels h) = next_bytes packet_length h.groups

-- the bytes that may still go before and with so many of the queue of a packet, and the most that may
abbrev pub bytes_before : RequestQueues → ℕ → PacketData → ℕ → ℕ
bytes_before (OneLevel f) key p bytes = bytes_ahead f.limits key bytes f.queues
bytes_before (TwoLevels h) key p bytes = bytes_ahead_under h key (inner_key_of p) bytes

abbrev pub most_in : RequestQueues → ℕ → ℕ
most_in (OneLevel f) bytes = most_until f.limits bytes
most_in (TwoLevels h) bytes = most_until_under h.limits h.inner bytes

pub most_of_requests : (l : LinkLimits) (rs : RequestQueues) (r : ℕ) → AreWithin l rs
    → most_in rs r ≡ requests_until l.request l.request_inner r
most_of_requests l rs r w = grind arith

-- ## one packet

-- a packet among others
some_items : (p : PacketData) (xs ys : List PacketData) → 1 ≤ length (xs ++ p ∷ ys)
some_items p [] ys = omega arith
some_items p (x ∷ xs) ys = omega arith

next_le : (p : PacketData) (xs ys zs : List PacketData) → zs ≡ xs ++ p ∷ ys
    → first_bytes packet_length zs ≤ bytes_in packet_length (xs ++ p ∷ [])
next_le p [] ys zs e = subst (λ ws. first_bytes packet_length ws ≤ bytes_in packet_length (p ∷ [])) (sym e)
    (omega (arith, sum_by-cons packet_length p []))
next_le p (x ∷ xs) ys zs e = grind (arith, nat_tests, (sum_by-cons packet_length x (xs ++ p ∷ [])))

module _ (key : ℕ) (p : PacketData) where
  -- something waits under its keys
  abbrev pub Waits : RequestQueues → Type 0
  Waits (OneLevel f) = has_key key f.queues ≡ true
  Waits (TwoLevels h) = has_key (inner_key_of p) (fair_of h key).queues ≡ true

  there : (rs : RequestQueues) (xs ys : List PacketData) → requests_with rs key p ≡ xs ++ p ∷ ys → Waits rs
  there rs xs ys e = grind (arith, nat_tests, has_from_items, some_items)

  -- there is a next packet, which an offer leaves
  pub next_is : (rs : RequestQueues) → AreKept rs → Waits rs
      → (x : PacketData) × ((next_in rs ≡ Some x) × (bytes_next rs ≡ packet_length x))
  next_is rs v w = grind (arith, nat_tests, some_head, next_there, groups_there)

  some_queues : (qs : List (Queue PacketData)) → has_key key qs ≡ true → 1 ≤ length qs
  some_queues [] h = absurd (cc)
  some_queues (q ∷ qs) h = omega arith

  pub next-offer : (rs : RequestQueues) (k : ℕ) (x : PacketData) → AreKept rs → Waits rs
      → bytes_next (request_leaves rs k x) ≡ bytes_next rs
  next-offer (OneLevel f) k x v w =
      offer_cases (lacks_queue f k) (lacks_room packet_length f k x) f
      (fair f.limits (put f.limits.quantum k x f.queues))
      (λ (g : Fair PacketData). head_bytes packet_length g.queues ≡ head_bytes packet_length f.queues) refl
      (λ _ _. head-put packet_length f.limits f.limits.quantum k x f.queues v.queues.each (some_queues f.queues w))
  next-offer (TwoLevels h) k x v w = next-offered packet_length h.limits h.inner k (inner_key_of x) x h.groups v
      (groups_there packet_length h.limits h.inner key (inner_key_of p) h.groups w)

  next_length : (rs : RequestQueues) (x : PacketData) → next_in rs ≡ Some x → bytes_next rs ≡ packet_length x
  next_length (OneLevel f) x e = head_some packet_length f.queues x e
  next_length (TwoLevels h) x e = next_some packet_length h.limits h.inner h.groups x e

  -- ## what goes before

  ahead_same : (rs : RequestQueues) (r k : ℕ) (x : PacketData) → AreKept rs → Waits rs
      → bytes_before (request_leaves rs k x) key p r ≡ bytes_before rs key p r
  ahead_same (OneLevel f) r k x v w = grind (arith, offer_limits f k x, ahead-offer packet_length f.limits key r k x f.queues w)
  ahead_same (TwoLevels h) r k x v w =
      offer_under packet_length h.limits h.inner key (inner_key_of p) r k (inner_key_of x) x h.groups v w

  ahead_falls : (rs : RequestQueues) (r left : ℕ) → AreKept rs → Waits rs → Waits (request_taken rs)
      → left + cond (are_next rs key p) (bytes_next rs) 0 ≡ r
      → first_bytes packet_length (requests_with (request_taken rs) key p) ≤ left
      → bytes_before (request_taken rs) key p left + bytes_next rs ≤ bytes_before rs key p r
  ahead_falls (OneLevel f) r left v w t s m = taken_falls packet_length f.limits key r left f.queues v.limits v.queues w t (grind (arith, nat_tests))
  ahead_falls (TwoLevels h) r left v w t s m =
      falls_under packet_length h.limits h.inner key (inner_key_of p) r left h.groups v w t (s, m)

  next_before : (rs : RequestQueues) (r : ℕ) → AreKept rs → Waits rs
      → first_bytes packet_length (requests_with rs key p) ≤ r → bytes_next rs ≤ bytes_before rs key p r
  next_before rs r v w m = grind (arith, nat_tests, next_ahead_of, next_ahead)

  most_before : (rs : RequestQueues) (r : ℕ) → AreKept rs → Waits rs → 1 ≤ r
      → bytes_before rs key p r ≤ most_in rs r
  most_before (OneLevel f) r v w s = ahead_most packet_length f.limits key r f.queues v.limits v.queues w s
  most_before (TwoLevels h) r v w s =
      most_under packet_length h.limits h.inner key (inner_key_of p) r h.groups v w s

  -- ## what waits with it

  -- what is offered goes behind it
  behind_one : (old new : Fair PacketData) (before behind : List PacketData) (k : ℕ) (x : PacketData)
      → GoesLast k x old new → items_of key old.queues ≡ before ++ p ∷ behind
      → (more : List PacketData) × (items_of key new.queues ≡ before ++ p ∷ more)
  behind_one old new before behind k x g e = grind (arith, nat_tests, append_assoc before (p ∷ behind) (x ∷ []), g.own, g.others key)

  behind_two : (old new : Hier PacketData) (before behind : List PacketData) (o i : ℕ) (x : PacketData)
      → GoesLastUnder o i x old new → items_under old key (inner_key_of p) ≡ before ++ p ∷ behind
      → (more : List PacketData) × (items_under new key (inner_key_of p) ≡ before ++ p ∷ more)
  behind_two old new before behind o i x g e = grind (arith, nat_tests, append_assoc before (p ∷ behind) (x ∷ []), g.own, g.others key (inner_key_of p))

  behind_more : (rs : RequestQueues) (before behind : List PacketData) (k : ℕ) (x : PacketData)
      → requests_with rs key p ≡ before ++ p ∷ behind
      → (more : List PacketData) × (requests_with (request_leaves rs k x) key p ≡ before ++ p ∷ more)
  behind_more (OneLevel f) before behind k x e =
      let new : Fair PacketData = fair f.limits (put f.limits.quantum k x f.queues) in
      offer_cases (lacks_queue f k) (lacks_room packet_length f k x) f new
      (λ (g : Fair PacketData). (more : List PacketData) × (items_of key g.queues ≡ before ++ p ∷ more)) (behind, e)
      (λ _ _. behind_one f new before behind k x (goes_last f.limits f.limits.quantum k x f.queues) e)
  behind_more (TwoLevels h) before behind k x e =
      let i : ℕ = inner_key_of x in
      elim (within_or h k i x) [
        | inl q ↦ behind_two h (left_by_offer packet_length h k i x) before behind k i x
            (left_last packet_length h k i x q) e
        | inr q ↦ (behind, ap (λ (z : Hier PacketData). items_under z key (inner_key_of p)) q.0 ∙ e)
      ]

  -- what is taken was the first of the queue at the front, and the others stay
  first_one : (d : DrrLimits) (qs : List (Queue PacketData)) (x : PacketData) → AreQueues packet_length d qs
      → head qs ≡ Some x
      → MatchBool (is_front key qs) (items_of key qs ≡ x ∷ items_of key (taken packet_length d.quantum qs))
      (items_of key (taken packet_length d.quantum qs) ≡ items_of key qs)
  first_one d [] x a e = absurd (cc)
  first_one d (q ∷ qs) x a e = grind (arith, nat_tests, goes_first packet_length d.quantum d q.key (q ∷ qs) x a refl)

  first_taken : (rs : RequestQueues) (x : PacketData) → AreKept rs → next_in rs ≡ Some x
      → MatchBool (are_next rs key p) (requests_with rs key p ≡ x ∷ requests_with (request_taken rs) key p)
      (requests_with (request_taken rs) key p ≡ requests_with rs key p)
  first_taken (OneLevel f) x v e = first_one f.limits f.queues x v.queues.each e
  first_taken (TwoLevels h) x v e = taken_under packet_length h.limits h.inner key (inner_key_of p) h.groups x v e

-- the packet waits in its queue behind these, and so many bytes of its class went since it was queued, of
-- at most so many up to it
pub record Tracks (key : ℕ) (p : PacketData) (most : ℕ) (rs : RequestQueues) (before : List PacketData)
    (sent : ℕ) : Type 0 where
  pub behind : List PacketData
  pub items : requests_with rs key p ≡ before ++ p ∷ behind
  pub ahead : sent + bytes_before rs key p (bytes_in packet_length (before ++ p ∷ [])) ≤ most

module _ (key : ℕ) (p : PacketData) (most : ℕ) where
  pub waits : (rs : RequestQueues) (before : List PacketData) (sent : ℕ) → Tracks key p most rs before sent
      → Waits key p rs
  waits rs before sent t = there key p rs before t.behind t.items

  -- at first, as the last of its queue
  pub tracks_first : (rs : RequestQueues) (before : List PacketData) → AreKept rs → 1 ≤ packet_length p
      → requests_with rs key p ≡ before ++ p ∷ [] → most_in rs (bytes_in packet_length (before ++ p ∷ [])) ≤ most
      → Tracks key p most rs before 0
  tracks_first rs before v s e m = grind (arith, nat_tests, (most_before key p rs (bytes_in packet_length (before ++ p ∷ [])) v (there key p rs before [] e) (omega (arith, s, sum_by_push packet_length before p))), (sum_by_push packet_length before p))

  -- an offer leaves it
  pub tracks-offer : (rs : RequestQueues) (before : List PacketData) (sent k : ℕ) (x : PacketData)
      → AreKept rs → Tracks key p most rs before sent → Tracks key p most (request_leaves rs k x) before sent
  tracks-offer rs before sent k x v t = grind (arith, nat_tests, (behind_more key p rs before t.behind k x t.items), (ahead_same key p rs (bytes_in packet_length (before ++ p ∷ [])) k x v (waits rs before sent t)), (waits rs before sent t))

  -- so does a take, which leaves these before it
  tracks-taken : (rs : RequestQueues) (before next behind : List PacketData) (sent : ℕ) (x : PacketData)
      → AreKept rs → next_in rs ≡ Some x → Tracks key p most rs before sent
      → requests_with (request_taken rs) key p ≡ next ++ p ∷ behind
      → bytes_in packet_length (next ++ p ∷ []) + cond (are_next rs key p) (bytes_next rs) 0 ≡
      bytes_in packet_length (before ++ p ∷ [])
      → Tracks key p most (request_taken rs) next (sent + packet_length x)
  tracks-taken rs before next behind sent x v e t i s = grind (arith, nat_tests, (ahead_falls key p rs (bytes_in packet_length (before ++ p ∷ [])) (bytes_in packet_length (next ++ p ∷ [])) v (waits rs before sent t) (there key p (request_taken rs) next behind i) s (next_le p next behind (requests_with (request_taken rs) key p) i)), (waits rs before sent t), (next_le p next behind (requests_with (request_taken rs) key p) i), (next_length key p rs x e))

  -- it is taken, or one before it, or one of another queue
  abbrev pub Taken : RequestQueues → List PacketData → ℕ → PacketData → Type 0
  Taken rs before sent x =
      ((are_next rs key p ≡ true) × ((before ≡ []) × (x ≡ p)))
      ⊎ (((are_next rs key p ≡ true) × ((rest : List PacketData) ×
      ((before ≡ x ∷ rest) × Tracks key p most (request_taken rs) rest (sent + packet_length x))))
      ⊎ ((are_next rs key p ≡ false) × Tracks key p most (request_taken rs) before (sent + packet_length x)))

  taken_own : (rs : RequestQueues) (before : List PacketData) (sent : ℕ) (x : PacketData) → AreKept rs
      → next_in rs ≡ Some x → are_next rs key p ≡ true
      → requests_with rs key p ≡ x ∷ requests_with (request_taken rs) key p → Tracks key p most rs before sent
      → Taken rs before sent x
  taken_own rs [] sent x v e n o t = let s : p ∷ t.behind ≡ x ∷ requests_with (request_taken rs) key p = sym t.items ∙ o in
      inl (n, (refl, (let k : p ≡ x = cc in sym k)))
  taken_own rs (y ∷ rest) sent x v e n o t = grind (arith, nat_tests, tracks-taken, (next_length key p rs x e), (sum_by-cons packet_length y (rest ++ p ∷ [])))

  pub takes : (rs : RequestQueues) (before : List PacketData) (sent : ℕ) (x : PacketData) → AreKept rs
      → next_in rs ≡ Some x → Tracks key p most rs before sent → Taken rs before sent x
  takes rs before sent x v e t =
      let r : ℕ = bytes_in packet_length (before ++ p ∷ []) in
      by_test (are_next rs key p) (λ b. are_next rs key p ≡ b
      → MatchBool b (requests_with rs key p ≡ x ∷ requests_with (request_taken rs) key p)
      (requests_with (request_taken rs) key p ≡ requests_with rs key p) → Taken rs before sent x)
      (λ _ n o. taken_own rs before sent x v e n o t)
      (λ _ n s. inr (inr (
        n,
        tracks-taken rs before before t.behind sent x v e t (s ∙ t.items)
            (subst (λ b. r + cond b (bytes_next rs) 0 ≡ r) (sym n) (omega arith)),
      )))
      refl (first_taken key p rs x v e)

  -- the next packet is among what goes up to this one
  pub next_among : (rs : RequestQueues) (before : List PacketData) (sent : ℕ) → AreKept rs
      → Tracks key p most rs before sent → sent + bytes_next rs ≤ most
  next_among rs before sent v t = grind (arith, nat_tests, next_before, waits, next_le)
