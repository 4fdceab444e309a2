-- Two queues that are never empty send about as much as each other.
use Rattle.tva_drr.proofs.Common.{◌≡◌, ℕ, ◌+◌, ◌-◌, ◌*◌, ◌<◌, ◌≤◌, Option, true, false, cond, eqb, List, [], ◌∷◌, ◌++◌, refl, sym, ◌∙◌, subst, arith, AllByRecursion, mul-le-mul_right, mul_comm, DrrLimits, Queue, Fair, fair, has_key, all_bytes, put, lacks_queue, lacks_room, taken, AreFair, IsFair, Step, Offer, Take, is_front, head_bytes, AreOffers, bytes_from, AlwaysWaits, Turn, turn, deficit_of, turns_of, nat_tests}
use Rattle.tva_drr.proofs.Keeps.{keeps-offer}
use Rattle.tva_drr.proofs.Falling.{by_test, has, refill, settle, join, Stand, has-push, has-push-own, has-refill, deficit-push, deficit-push-own, place-join, has-turns, turns-put, turns-taken, later, first_covered, stand}
use Rattle.tva_drr.proofs.Until.{offer_cases, some_head, fair_taken}

-- which of two keys comes first: 1 where it is the first one
abbrev pub first_is : ℕ → ℕ → List Turn → ℕ
first_is a b [] = 0
first_is a b (t ∷ ts) = cond (eqb t.key a) 1 (cond (eqb t.key b) 0 (first_is a b ts))

-- which of them is next to get the quantum, once the front has had it
abbrev pub next_is : ℕ → ℕ → List Turn → ℕ
next_is a b [] = 0
next_is a b (t ∷ ts) = cond (eqb t.key a) 0 (cond (eqb t.key b) 1 (first_is a b ts))

-- a queue that goes last is behind those that are there
first-push : (a b : ℕ) (ts : List Turn) (p : Turn) → has a ts ≡ true → first_is a b (ts ++ p ∷ []) ≡ first_is a b ts
first-push a b [] p h = absurd (cc)
first-push a b (t ∷ ts) p h = grind (arith, nat_tests, (first-push a b ts p))

-- the first key's own goes behind the second one's
first-push-own : (a b : ℕ) (ts : List Turn) (p : Turn) → has a ts ≡ false → has b ts ≡ true → first_is a b (ts ++ p ∷ []) ≡ 0
first-push-own a b [] p n h = absurd (cc)
first-push-own a b (t ∷ ts) p n h = grind (arith, nat_tests, (first-push-own a b ts p))

first-without : (a b : ℕ) (ts : List Turn) → has a ts ≡ true → has b ts ≡ false → first_is a b ts ≡ 1
first-without a b [] n h = absurd (cc)
first-without a b (t ∷ ts) n h = grind (arith, nat_tests, (first-without a b ts))

first-join : (a b k : ℕ) (ts : List Turn) → has a ts ≡ true → first_is a b (join 0 k ts) ≡ first_is a b ts
first-join a b k [] h = absurd (cc)
first-join a b k (p ∷ ps) h = grind (arith, nat_tests, (first-join a b k ps))

next-join : (a b start k : ℕ) (ts : List Turn) → has a ts ≡ true → next_is a b (join start k ts) ≡ next_is a b ts
next-join a b start k ts h = grind (arith, nat_tests, first-join)

module _ (a b : ℕ) (differ : a ≡ b → ⊥) where
  -- the quantum goes to one of them where it is next, and the other is next then
  turn-refilled : (quantum : ℕ) (ts : List Turn) → has a ts ≡ true →
      deficit_of a (refill quantum ts) + quantum * next_is a b (refill quantum ts) + deficit_of b ts ≡ deficit_of b (refill quantum ts) + (deficit_of a ts + quantum * first_is a b ts)
  turn-refilled quantum [] h = absurd (cc)
  turn-refilled quantum (t ∷ ts) h = grind (arith, nat_tests, differ)

  module _ (l : DrrLimits) where
    -- what one key may still send, with the quantum that it is to get before the other one
    abbrev pub lead : List Turn → ℕ
    lead ts = deficit_of a ts + l.quantum * next_is a b ts

    -- the front once so many bytes went
    abbrev after : ℕ → Option ℕ → Turn → List Turn → List Turn
    after n next t ts = settle l.quantum next (turn t.key (t.deficit - n)) ts

    served_first : (n : ℕ) (next : Option ℕ) (t : Turn) (ts : List Turn) → t.key ≡ a → has a ts ≡ false → has b ts ≡ true → n ≤ t.deficit → has a (after n next t ts) ≡ true
        → n + lead (after n next t ts) + deficit_of b ts ≡ deficit_of b (after n next t ts) + t.deficit
    served_first n next t ts e h k c w = grind (arith, nat_tests, differ, has-refill, turn-refilled, has-push-own, deficit-push, deficit-push-own, first-push-own)

    served_second : (n : ℕ) (next : Option ℕ) (t : Turn) (ts : List Turn) → t.key ≡ b → has a ts ≡ true → has b ts ≡ false → n ≤ t.deficit → has b (after n next t ts) ≡ true
        → lead (after n next t ts) + t.deficit ≡ n + deficit_of b (after n next t ts) + (deficit_of a ts + l.quantum)
    served_second n next t ts e h k c w = grind (arith, nat_tests, differ, has-refill, turn-refilled, has-push, deficit-push, deficit-push-own, first-push, first-without)

    served_neither : (n : ℕ) (next : Option ℕ) (t : Turn) (ts : List Turn) → (t.key ≡ a → ⊥) → (t.key ≡ b → ⊥) → has a ts ≡ true → has b ts ≡ true
        → lead (after n next t ts) + deficit_of b ts ≡ deficit_of b (after n next t ts) + (deficit_of a ts + l.quantum * first_is a b ts)
    served_neither n next t ts e o h k = grind (arith, nat_tests, differ, turn-refilled, has-push, deficit-push, first-push)

    -- the bytes of a take that go to a key
    abbrev pub bytes_to : ℕ → ℕ → ℕ → ℕ
    bytes_to front n key = cond (eqb front key) n 0

    -- at a take the two leads and the bytes that go balance
    balance : (n : ℕ) (next : Option ℕ) (t : Turn) (ts : List Turn) → has t.key ts ≡ false → n ≤ t.deficit → has a (t ∷ ts) ≡ true → has b (t ∷ ts) ≡ true → has a (after n next t ts) ≡ true → has b (after n next t ts) ≡ true
        → bytes_to t.key n a + lead (after n next t ts) + deficit_of b (t ∷ ts) ≡ bytes_to t.key n b + deficit_of b (after n next t ts) + lead (t ∷ ts)
    balance n next t ts f c h w i j = grind (arith, nat_tests, differ, served_first, served_second, served_neither)

    -- how far a lead may be off
    behind_deficit : (key : ℕ) (ts : List Turn) → AllByRecursion (λ (t : Turn). t.deficit < l.max) ts → has key ts ≡ true → deficit_of key ts < l.max
    behind_deficit key [] g h = absurd (cc)
    behind_deficit key (t ∷ ts) g h = by_test (eqb t.key key) (λ z. cond z true (has key ts) ≡ true → cond z t.deficit (deficit_of key ts) < l.max) (λ _ _. g.0) (λ _ k. behind_deficit key ts g.1 k) h

    first_le : (ts : List Turn) → first_is a b ts ≤ 1
    first_le [] = omega arith
    first_le (t ∷ ts) = by_test (eqb t.key a) (λ z. cond z 1 (cond (eqb t.key b) 0 (first_is a b ts)) ≤ 1) (λ _. omega arith) (λ _. by_test (eqb t.key b) (λ z. cond z 0 (first_is a b ts) ≤ 1) (λ _. omega arith) (λ _. first_le ts))

    near : (ts : List Turn) → 1 ≤ l.max → Stand l ts → has a ts ≡ true → has b ts ≡ true → (deficit_of b ts < lead ts + l.max) × (lead ts < deficit_of b ts + l.max + l.quantum)
    near [] v f h w = absurd (cc)
    near (t ∷ ts) v f h w = grind (arith, nat_tests, differ, behind_deficit a ts, behind_deficit b ts, first_le ts, mul-le-mul_right l.quantum (first_le ts), mul_comm)

  -- ## queues

  module _ {T : Type 0} (measure : T → ℕ) (l : DrrLimits) where
    -- at a take
    taken_balance : (qs : List (Queue T)) → AreFair measure l qs → has_key a qs ≡ true → has_key b qs ≡ true → has_key a (taken measure l.quantum qs) ≡ true → has_key b (taken measure l.quantum qs) ≡ true
        → cond (is_front a qs) (head_bytes measure qs) 0 + lead l (turns_of (taken measure l.quantum qs)) + deficit_of b (turns_of qs)
        ≡ cond (is_front b qs) (head_bytes measure qs) 0 + deficit_of b (turns_of (taken measure l.quantum qs)) + lead l (turns_of qs)
    taken_balance [] f h w i j = absurd (cc)
    taken_balance (q ∷ qs) f h w i j =
        let e = turns-taken measure l q.key q.deficit q.items qs in
        let there : (k : ℕ) → has_key k (taken measure l.quantum (q ∷ qs)) ≡ true → has k (settle l.quantum (later measure l q.items) (turn q.key (q.deficit - head_bytes measure (q ∷ qs))) (turns_of qs)) ≡ true =
        λ k n. subst (λ z. has k z ≡ true) e (has-turns k (taken measure l.quantum (q ∷ qs)) ∙ n) in
        subst (λ z. cond (is_front a (q ∷ qs)) (head_bytes measure (q ∷ qs)) 0 + lead l z + deficit_of b (turns_of (q ∷ qs)) ≡ cond (is_front b (q ∷ qs)) (head_bytes measure (q ∷ qs)) 0 + deficit_of b z + lead l (turns_of (q ∷ qs))) (sym e)
        (balance l (head_bytes measure (q ∷ qs)) (later measure l q.items) (turn q.key q.deficit) (turns_of qs) (has-turns q.key qs ∙ f.each.1) (first_covered measure l q.key q.deficit q.items qs f)
        (has-turns a (q ∷ qs) ∙ h) (has-turns b (q ∷ qs) ∙ w) (there a i) (there b j))

    lead_near : (qs : List (Queue T)) → 1 ≤ l.max → AreFair measure l qs → has_key a qs ≡ true → has_key b qs ≡ true → (deficit_of b (turns_of qs) < lead l (turns_of qs) + l.max) × (lead l (turns_of qs) < deficit_of b (turns_of qs) + l.max + l.quantum)
    lead_near qs v f h w = near l (turns_of qs) v (stand measure l qs f) (has-turns a qs ∙ h) (has-turns b qs ∙ w)

    put-same : (k : ℕ) (x : T) (qs : List (Queue T)) → has_key a qs ≡ true → has_key b qs ≡ true
        → (lead l (turns_of (put l.quantum k x qs)) ≡ lead l (turns_of qs)) × (deficit_of b (turns_of (put l.quantum k x qs)) ≡ deficit_of b (turns_of qs))
    put-same k x qs h w = grind (arith, nat_tests, (has-turns a qs), (has-turns b qs), (turns-put l.quantum k x qs), (place-join l a l.quantum k (turns_of qs)), (place-join l b l.quantum k (turns_of qs)), (next-join a b l.quantum k (turns_of qs)))

    waits_now : (key : ℕ) (f : Fair T) (ss : List (Step T)) → AlwaysWaits measure key f ss → has_key key f.queues ≡ true
    waits_now key f [] w = w
    waits_now key f (s ∷ ss) w = w.0

    -- along the steps
    near_from : (qs : List (Queue T)) (ss : List (Step T)) → IsFair measure (fair l qs) → AreOffers measure l.max ss → AlwaysWaits measure a (fair l qs) ss → AlwaysWaits measure b (fair l qs) ss
        → bytes_from measure a (fair l qs) ss + deficit_of b (turns_of qs) < bytes_from measure b (fair l qs) ss + lead l (turns_of qs) + l.max
    near_from qs [] f o h w = omega (arith, (lead_near qs f.limits.max f.queues h w).0)
    near_from qs (Offer k x ∷ ss) f o h w =
        offer_cases (lacks_queue (fair l qs) k) (lacks_room measure (fair l qs) k x) (fair l qs) (fair l (put l.quantum k x qs))
        (λ g. AlwaysWaits measure a g ss → AlwaysWaits measure b g ss → bytes_from measure a g ss + deficit_of b (turns_of qs) < bytes_from measure b g ss + lead l (turns_of qs) + l.max)
        (λ i j. near_from qs ss f o.1 i j)
        (λ d e i j. omega (
          arith,
          near_from (put l.quantum k x qs) ss (keeps-offer measure l (all_bytes measure qs) k qs x f refl o.0 d e).0 o.1 i j,
          (put-same k x qs h.0 w.0).0,
          (put-same k x qs h.0 w.0).1,
        ))
        h.1 w.1
    near_from qs (Take ∷ ss) f o h w = grind (arith, nat_tests, (some_head measure l qs f.queues a h.0), (fair_taken measure l qs), (taken_balance qs f.queues h.0 w.0 (waits_now a (fair l (taken measure l.quantum qs)) ss h.1) (waits_now b (fair l (taken measure l.quantum qs)) ss w.1)), (waits_now a (fair l (taken measure l.quantum qs)) ss h.1), (waits_now b (fair l (taken measure l.quantum qs)) ss w.1), (near_from (taken measure l.quantum qs) ss))

    pub fairly : (qs : List (Queue T)) (ss : List (Step T)) → IsFair measure (fair l qs) → AreOffers measure l.max ss → AlwaysWaits measure a (fair l qs) ss → AlwaysWaits measure b (fair l qs) ss
        → bytes_from measure a (fair l qs) ss < bytes_from measure b (fair l qs) ss + (l.quantum + 2 * l.max)
    fairly qs ss f o h w = grind (arith, nat_tests, near_from, lead_near, waits_now)
