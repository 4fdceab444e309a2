-- Two queues of a class that are never empty send about as much as each other.
use Rattle.tva_port.proofs.Common.{◌≡◌, ◌≢◌, ℕ, ◌+◌, ◌*◌, ◌<◌, true, cond, List, [], ◌∷◌, ◌++◌, Some, None, refl, sym, ap, ◌∙◌, zero-add, arith, DrrLimits, LinkLimits, Class, Request, Regular, Legacy, AreLinkLimits, PacketData, packet_length, Queue, Fair, fair, has_key, head, put, lacks_queue, lacks_room, offer_leaves, IsFair, Step, Offer, Take, AreOffers, bytes_from, by_test, offer_cases, head_some, RequestQueues, OneLevel, TwoLevels, next_in, single_queues, Entry, Queued, Started, same_class, request_step, waiting_after, credit_after, Follows, AllFollow, IsStarted, IsLegal, AreWithin, IsWithinLimits, class_queues, bytes_started, IsNeverEmpty, nat_tests}
use Rattle.tva_drr.specs.Service as drr
use Rattle.tva_drr.proofs.Fairness.{fairly}
use Rattle.tva_port.proofs.Logs.{legal-front, fair_step, requests-push, goes_on-push}
use Rattle.tva_port.proofs.Deciding.{covered_pays}
use Rattle.tva_port.proofs.Legality.{started_is}
use Rattle.tva_port.proofs.Idling.{within}
use Rattle.tva_port.proofs.Tracking.{IsQueueing, regulars-step, regulars_now}
use Rattle.tva_port.proofs.Going.{goes_rest}

-- ## queues by keys alone

-- the class has fair queues by its keys
abbrev HasKeys : LinkLimits → Class → Type 0
HasKeys l Request = l.request_inner ≡ None
HasKeys l Regular = Unit {0}
HasKeys l Legacy = ⊥

abbrev pub limits_of : LinkLimits → Class → DrrLimits
limits_of l Request = l.request
limits_of l Regular = l.regular
limits_of l Legacy = l.regular

-- on a link with one level the requests are in such queues
one_level : (l : LinkLimits) (rs : RequestQueues) → l.request_inner ≡ None → AreWithin l rs
    → (rs ≡ OneLevel (fair l.request (single_queues rs))) × IsFair packet_length (fair l.request (single_queues rs))
one_level l rs n w = grind arith

-- where something waits in them, the link has one level
is_one_level : (l : LinkLimits) (rs : RequestQueues) (key : ℕ) → AreWithin l rs
    → has_key key (single_queues rs) ≡ true → l.request_inner ≡ None
is_one_level l (OneLevel f) key w h = w.0
is_one_level l (TwoLevels h) key w k = absurd (cc)

step_single : (f : Fair PacketData) (e : Entry)
    → single_queues (request_step (OneLevel f) e) ≡ (fair_step Request f e).queues
step_single f e = grind (arith, nat_tests)

-- the queues of the class under their limits, after one more entry
queues-step : (l : LinkLimits) (c : Class) (log : List Entry) (e : Entry) → HasKeys l c
    → IsWithinLimits l (waiting_after l log)
    → class_queues c (waiting_after l (log ++ e ∷ [])) ≡
    (fair_step c (fair (limits_of l c) (class_queues c (waiting_after l log))) e).queues
queues-step l c log e q w = grind (arith, nat_tests, requests-push, one_level, step_single, regulars-step)

fair_now : (l : LinkLimits) (c : Class) (log : List Entry) → HasKeys l c → IsWithinLimits l (waiting_after l log)
    → IsFair packet_length (fair (limits_of l c) (class_queues c (waiting_after l log)))
fair_now l c log q w = grind (arith, nat_tests, one_level, regulars_now)

-- ## steps

-- what an entry does to the queues of a class
abbrev step_of : Class → Entry → List (Step PacketData)
step_of c (Queued t d k x) = cond (same_class d c) (Offer k x ∷ []) []
step_of c (Started t d x) = cond (same_class d c) (Take ∷ []) []

abbrev steps_of : Class → List Entry → List (Step PacketData)
steps_of c [] = []
steps_of c (e ∷ es) = step_of c e ++ steps_of c es

-- the queues of a class under their limits
abbrev state : LinkLimits → Class → List Entry → Fair PacketData
state l c log = fair (limits_of l c) (class_queues c (waiting_after l log))

offer_limits : (d : DrrLimits) (qs : List (Queue PacketData)) (k : ℕ) (x : PacketData) → offer_leaves packet_length (fair d qs) k x ≡ fair d (offer_leaves packet_length (fair d qs) k x).queues
offer_limits d qs k x = offer_cases (lacks_queue (fair d qs) k) (lacks_room packet_length (fair d qs) k x) (fair d qs) (fair d (put d.quantum k x qs)) (λ (g : Fair PacketData). g ≡ fair d g.queues) refl (λ _ _. refl)

same_own : (d e : Class) → same_class d e ≡ true → d ≡ e
same_own d e h = grind arith

next_single : (l : LinkLimits) (rs : RequestQueues) → l.request_inner ≡ None → AreWithin l rs
    → head (single_queues rs) ≡ next_in rs
next_single l (OneLevel f) n w = refl
next_single l (TwoLevels h) n w = absurd (let k : None ≡ Some h.inner = sym n ∙ w.0 in cc)

head_started : (l : LinkLimits) (c : Class) (log : List Entry) (t : ℕ) (x : PacketData) → HasKeys l c
    → IsWithinLimits l (waiting_after l log) → IsStarted l log t c x → head (class_queues c (waiting_after l log)) ≡ Some x
head_started l Request log t x q w f = grind (arith, next_single l (waiting_after l log).requests q w.requests, covered_pays l (credit_after l log t) (next_in (waiting_after l log).requests) x, started_is l log t Request x f)
head_started l Regular log t x q w f = started_is l log t Regular x f
head_started l Legacy log t x q w f = absurd q

module _ (l : LinkLimits) (c : Class) (q : HasKeys l c) (a : AreLinkLimits l) where
  state-step : (log : List Entry) (e : Entry) → IsLegal l log → state l c (log ++ e ∷ []) ≡ fair (limits_of l c) (fair_step c (state l c log) e).queues
  state-step log e g = ap (λ qs. fair (limits_of l c) qs) (queues-step l c log e q (within l log a g))

  -- the packet that starts is the first of the front
  starts_head : (log : List Entry) (t : ℕ) (x : PacketData) → IsLegal l log → IsStarted l log t c x
      → head (class_queues c (waiting_after l log)) ≡ Some x
  starts_head log t x g f = head_started l c log t x q (within l log a g) f

  -- one more entry, by whether it is of the class
  started_one : (key : ℕ) (log : List Entry) (e : Entry) (es : List Entry) → IsLegal l log → Follows l log e → bytes_started l c key (log ++ e ∷ []) es ≡ bytes_from packet_length key (state l c (log ++ e ∷ [])) (steps_of c es)
      → bytes_started l c key log (e ∷ es) ≡ bytes_from packet_length key (state l c log) (step_of c e ++ steps_of c es)
  started_one key log (Queued t d k x) es g f h =
      let s = state-step log (Queued t d k x) g in
      by_test (same_class d c) (λ b. fair (limits_of l c) (cond b (offer_leaves packet_length (state l c log) k x) (state l c log)).queues ≡ state l c (log ++ Queued t d k x ∷ []) → 0 + bytes_started l c key (log ++ Queued t d k x ∷ []) es ≡ bytes_from packet_length key (state l c log) (cond b (Offer k x ∷ []) [] ++ steps_of c es))
      (λ _ e. zero-add (bytes_started l c key (log ++ Queued t d k x ∷ []) es) ∙ h ∙ ap (λ z. bytes_from packet_length key z (steps_of c es)) (sym e ∙ sym (offer_limits (limits_of l c) (class_queues c (waiting_after l log)) k x)))
      (λ _ e. zero-add (bytes_started l c key (log ++ Queued t d k x ∷ []) es) ∙ h ∙ ap (λ z. bytes_from packet_length key z (steps_of c es)) (sym e))
      (sym s)
  started_one key log (Started t d x) es g f h = grind (arith, nat_tests, (state-step log (Started t d x) g), (same_own d c), (head_some packet_length (class_queues c (waiting_after l log)) x), (starts_head log t x g), (zero-add (bytes_started l c key (log ++ Started t d x ∷ []) es)))

  started_are : (key : ℕ) (log es : List Entry) → IsLegal l log → AllFollow l log es → bytes_started l c key log es ≡ bytes_from packet_length key (state l c log) (steps_of c es)
  started_are key log [] g r = refl
  started_are key log (e ∷ es) g r = started_one key log e es g r.0 (started_are key (log ++ e ∷ []) es (goes_on-push l [] log e g r.0) r.1)

  -- so it is with what waits all along
  waits_one : (key : ℕ) (log : List Entry) (e : Entry) (es : List Entry) → IsLegal l log → has_key key (class_queues c (waiting_after l log)) ≡ true → drr.AlwaysWaits packet_length key (state l c (log ++ e ∷ [])) (steps_of c es)
      → drr.AlwaysWaits packet_length key (state l c log) (step_of c e ++ steps_of c es)
  waits_one key log e es g w h = grind (arith, nat_tests, state-step, offer_limits)

  waits_all : (key : ℕ) (log es : List Entry) → IsLegal l log → AllFollow l log es → IsNeverEmpty l c key log es → drr.AlwaysWaits packet_length key (state l c log) (steps_of c es)
  waits_all key log [] g r w = w
  waits_all key log (e ∷ es) g r w = waits_one key log e es g w.0 (waits_all key (log ++ e ∷ []) es (goes_on-push l [] log e g r.0) r.1 w.1)

  offers_all : (log es : List Entry) → AllFollow l log es → (limits_of l c).max ≡ 2048 → AreOffers packet_length (limits_of l c).max (steps_of c es)
  offers_all log [] r m = tt
  offers_all log (e ∷ es) r m = grind (arith, nat_tests, offers_all (log ++ e ∷ []) es r.1 m)

most_of : (l : LinkLimits) (c : Class) → AreLinkLimits l → (limits_of l c).max ≡ 2048
most_of l c a = grind (arith, nat_tests)

-- what waits all along waits at first
waits_first : (l : LinkLimits) (c : Class) (key : ℕ) (before between : List Entry)
    → IsNeverEmpty l c key before between → has_key key (class_queues c (waiting_after l before)) ≡ true
waits_first l c key before [] w = w
waits_first l c key before (e ∷ es) w = w.0

has_keys : (l : LinkLimits) (c : Class) (key : ℕ) (before between : List Entry) → IsQueueing c
    → IsWithinLimits l (waiting_after l before) → IsNeverEmpty l c key before between → HasKeys l c
has_keys l c key before between q i w = grind (arith, nat_tests, is_one_level, waits_first)

-- between two places of a log
pub even : (l : LinkLimits) (c : Class) (before between : List Entry) (a b : ℕ) → IsQueueing c → AreLinkLimits l → IsLegal l (before ++ between) → a ≢ b → IsNeverEmpty l c a before between → IsNeverEmpty l c b before between
    → bytes_started l c a before between < bytes_started l c b before between + ((limits_of l c).quantum + 2 * (limits_of l c).max)
even l c before between a b r v g n w u =
    let legal = legal-front l [] before between g in
    let rest = goes_rest l [] before between g in
    let q = has_keys l c a before between r (within l before v legal) w in
    let now = fair_now l c before q (within l before v legal) in
    omega (
      arith,
      started_are l c q v a before between legal rest,
      started_are l c q v b before between legal rest,
      most_of l c v,
      fairly a b n packet_length (limits_of l c) (class_queues c (waiting_after l before)) (steps_of c between) now (offers_all l c q v before between rest (most_of l c v)) (waits_all l c q v a before between legal rest w) (waits_all l c q v b before between legal rest u),
    )
