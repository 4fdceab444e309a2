-- What waits at the port of a link was queued there, and so was what starts.
use Rattle.tva_run.proofs.Common.{arith, nat_tests, ◌≡◌, ℕ, Bool, true, false, cond, List, [], ◌∷◌, drop, Option, Some, None, nat_le, count_by, AllByRecursion, fold, filter_map, All-drop, All-from_recursion, recursion_from_All, LinkLimits, Class, Request, Regular, Legacy, PacketData, packet_length, Decision, free_after, Waiting, same_class, request_step, regular_step, queued_legacy, is_legacy_start, waiting_after, next_request, covered, start_or, wait_for, credit_after, decision, start_of, start_after}
use Rattle.tva_drr.specs.Queues.{Fair, fair, first, head}
use Rattle.tva_drr.specs.Offer.{offer_leaves}
use Rattle.tva_drr.specs.Take.{take_leaves}
use Rattle.tva_drr.proofs.Falling.{by_test}
use Rattle.tva_port.specs.declared.requests.RequestQueues.{RequestQueues}
use Rattle.tva_port.specs.Levels.{no_requests}
use Rattle.tva_port.proofs.Holding.{Each, each-offered, each-taken, each-first, each-head, EachRequest, request-none, request-offered, request-taken, request-next}
use Rattle.tva_port.specs.Log.{Entry, Queued, Started}

-- for whatever holds of each packet that was queued
module _ (P : PacketData → Type 0) where
  -- ## what waits after a log

  -- it holds of the packet that an entry queues
  abbrev pub Brings : Entry → Type 0
  Brings (Queued time class key packet) = P packet
  Brings (Started time class packet) = Unit {0}

  -- the requests, and the regular packets
  request-step : (rs : RequestQueues) (e : Entry) → Brings e → EachRequest P rs → EachRequest P (request_step rs e)
  request-step rs v0 b h = grind (arith, nat_tests, by_test, request-offered, request-taken)

  regular-step : (f : Fair PacketData) (e : Entry) → Brings e → Each P f.queues → Each P (regular_step f e).queues
  regular-step f (Queued t class key p) b h =
      by_test (same_class class Regular) (λ c. Each P (cond c (offer_leaves packet_length f key p) f).queues)
      (λ _. each-offered P f key p b h) (λ _. h)
  regular-step f (Started t class p) b h =
      by_test (same_class class Regular) (λ c. Each P (cond c (take_leaves packet_length f) f).queues)
      (λ _. each-taken P f h) (λ _. h)

  each-after : {A : Type 0} (Holds : A → Type 0) (step : A → Entry → A)
      → ((a : A) (e : Entry) → Brings e → Holds a → Holds (step a e))
      → (a : A) (log : List Entry) → AllByRecursion Brings log → Holds a → Holds (fold step a log)
  each-after Holds step keeps a [] b h = h
  each-after Holds step keeps a (e ∷ es) b h = each-after Holds step keeps (step a e) es b.1 (keeps a e b.0 h)

  each-legacy : (log : List Entry) → AllByRecursion Brings log → AllByRecursion P (filter_map queued_legacy log)
  each-legacy [] b = tt
  each-legacy (Queued t Request key p ∷ es) b = each-legacy es b.1
  each-legacy (Queued t Regular key p ∷ es) b = each-legacy es b.1
  each-legacy (Queued t Legacy key p ∷ es) b = (b.0, each-legacy es b.1)
  each-legacy (Started t class p ∷ es) b = each-legacy es b.1

  each-drop : (n : ℕ) (xs : List PacketData) → AllByRecursion P xs → AllByRecursion P (drop n xs)
  each-drop n xs h = recursion_from_All P (drop n xs) (All-drop P n xs (All-from_recursion P xs h))

  -- ## what starts

  started : (class : Class) (o : Option PacketData) (other : Decision) (s : Class × PacketData) → ((p : PacketData) → o ≡ Some p → P p)
      → (start_of other ≡ Some s → P s.1) → start_of (start_or class o other) ≡ Some s → P s.1
  started class v0 other s known rest e = grind (arith, nat_tests)

  covered_good : (l : LinkLimits) (credit : ℕ) (o : Option PacketData) → ((p : PacketData) → o ≡ Some p → P p)
      → (p : PacketData) → covered l credit o ≡ Some p → P p
  covered_good l credit v0 known p e = grind (arith, nat_tests)

  waits : (l : LinkLimits) (credit now : ℕ) (o : Option PacketData) (s : Class × PacketData) → start_of (wait_for l credit now o) ≡ Some s → P s.1
  waits l credit now None s e = absurd (cc)
  waits l credit now (Some p) s e = absurd (cc)

  decided_good : (l : LinkLimits) (log : List Entry) (now : ℕ) (s : Class × PacketData) → AllByRecursion Brings log
      → start_of (decision l log now) ≡ Some s → P s.1
  unfolding decision
  decided_good l log now s b e =
      let w : Waiting = waiting_after l log in
      let c : ℕ = credit_after l log now in
      let requests : EachRequest P w.requests = each-after (EachRequest P) request_step request-step
      (no_requests l) log b (request-none P l) in
      let regulars : Each P w.regulars.queues = each-after
      (λ (f : Fair PacketData). Each P f.queues) regular_step regular-step (fair l.regular []) log b tt in
      let legacy : AllByRecursion P w.legacy = each-drop (count_by is_legacy_start log) (filter_map queued_legacy log) (each-legacy log b) in
      let next : (p : PacketData) → next_request w ≡ Some p → P p = λ p h. request-next P w.requests p requests h in
      let last : Decision = wait_for l c now (next_request w) in
      started Request (covered l c (next_request w)) (start_or Regular (head w.regulars.queues) (start_or Legacy (first w.legacy) last)) s
      (covered_good l c (next_request w) next)
      (started Regular (head w.regulars.queues) (start_or Legacy (first w.legacy) last) s
      (λ p h. each-head P w.regulars.queues p regulars h)
      (started Legacy (first w.legacy) last s (λ p h. each-first P w.legacy p legacy h)
      (waits l c now (next_request w) s)))
      e

  free_or_none : (b : Bool) (o : Option (Class × PacketData)) (s : Class × PacketData) → (o ≡ Some s → P s.1) → cond b o None ≡ Some s → P s.1
  free_or_none true o s known e = known e
  free_or_none false o s known e = absurd (cc)

  -- it holds of what starts
  pub start_good : (l : LinkLimits) (log : List Entry) (now : ℕ) (s : Class × PacketData) → AllByRecursion Brings log → start_after l log now ≡ Some s → P s.1
  unfolding start_after
  start_good l log now s b e = free_or_none (nat_le (free_after l log) now) (start_of (decision l log now)) s (decided_good l log now s b) e
