-- What is true of fair queues stays true after an offer and after a take.
use Rattle.tva_drr.proofs.Common.{◌≡◌, ℕ, ◌+◌, ◌-◌, ◌<◌, ◌≤◌, ◌^◌, suc, Option, Some, false, List, [], ◌∷◌, ◌++◌, length, refl, arith, length-append, nat_tests, leb_tells, sum_by-cons, sum_by_push, All, AllByRecursion, option_map, All-from_recursion, DrrLimits, Queue, queue, fair, has_key, items_of, first, head, queue_bytes, all_bytes, bytes_in, put, lacks_queue, lacks_room, refilled, settled, front_settled, popped, taken, AreDrrLimits, AreMeasured, IsQueue, AreQueues, AreBehind, Covers, HasTurn, AreFair, IsFair}
use Rattle.tva_drr.specs.Take.{front_popped}
use Rattle.tva_drr.proofs.Lists.{has_key-push, has_key-put, length-put, all_bytes-put}

module _ {T : Type 0} (measure : T → ℕ) (l : DrrLimits) where
  pub measured-push : (xs : List T) (x : T) → AreMeasured measure l xs → (1 ≤ measure x) × (measure x ≤ l.max) → AreMeasured measure l (xs ++ x ∷ [])
  measured-push [] x h m = (m, tt)
  measured-push (y ∷ ys) x h m = (h.0, measured-push ys x h.1 m)

  -- one item more, within the limits
  pub queue-push : (key deficit : ℕ) (xs : List T) (x : T) → AreMeasured measure l xs → (1 ≤ measure x) × (measure x ≤ l.max) → length xs + 1 ≤ l.ring → bytes_in measure xs + measure x ≤ l.queue_bytes
      → IsQueue measure l (queue key deficit (xs ++ x ∷ []))
  queue-push key deficit xs x h m r b = grind (arith, nat_tests, length-append xs (x ∷ []), sum_by_push measure xs x, measured-push xs x h m)

  pub queues-put : (first key : ℕ) (x : T) (qs : List (Queue T)) → (1 ≤ measure x) × (measure x ≤ l.max) → AreQueues measure l qs
      → length (items_of key qs) + 1 ≤ l.ring → bytes_in measure (items_of key qs) + measure x ≤ l.queue_bytes → AreQueues measure l (put first key x qs)
  queues-put first key x [] m h = λ r b. (queue-push key first [] x tt m r b, refl, tt)
  queues-put first key x (p ∷ qs) m h = grind (arith, nat_tests, queue-push p.key p.deficit p.items x h.0.measured m, has_key-put p.key 0 key x qs, queues-put 0 key x qs m h.2)

  pub behind-put : (key : ℕ) (x : T) (qs : List (Queue T)) → 1 ≤ l.max → AreBehind measure l qs → AreBehind measure l (put 0 key x qs)
  behind-put key x [] m h = (m, tt)
  behind-put key x (p ∷ qs) m h = grind (arith, nat_tests, behind-put key x qs m h.1)

  covers-push : (deficit : ℕ) (xs : List T) (x : T) → 1 ≤ length xs → Covers measure l deficit xs → Covers measure l deficit (xs ++ x ∷ [])
  covers-push deficit xs x f c = grind (arith, nat_tests)

  pub turn-put : (key : ℕ) (x : T) (qs : List (Queue T)) → AreDrrLimits l → measure x ≤ l.max → AreQueues measure l qs → HasTurn measure l qs → HasTurn measure l (put l.quantum key x qs)
  turn-put key x qs v m q h = grind (arith, nat_tests, covers-push, behind-put)

  pub fair-put : (key : ℕ) (x : T) (qs : List (Queue T)) → AreDrrLimits l → (1 ≤ measure x) × (measure x ≤ l.max) → AreFair measure l qs
      → (has_key key qs ≡ false → length qs < l.queues) → length (items_of key qs) + 1 ≤ l.ring → bytes_in measure (items_of key qs) + measure x ≤ l.queue_bytes → all_bytes measure qs + measure x ≤ l.class_bytes
      → AreFair measure l (put l.quantum key x qs)
  fair-put key x qs v m h n r b c = grind (arith, length-put l.quantum key x qs, queues-put l.quantum key x qs m h.each r b, turn-put key x qs v m.1 h.each h.turn, all_bytes-put measure l.quantum key x qs)

  -- a queue goes last
  pub queues-push : (qs : List (Queue T)) (q : Queue T) → AreQueues measure l qs → IsQueue measure l q → has_key q.key qs ≡ false → AreQueues measure l (qs ++ q ∷ [])
  queues-push [] q h i n = (i, refl, tt)
  queues-push (p ∷ qs) q h i n = grind (arith, nat_tests, has_key-push, (queues-push qs q h.2 i (grind (arith, nat_tests))))

  pub behind-push : (qs : List (Queue T)) (q : Queue T) → AreBehind measure l qs → q.deficit < l.max → AreBehind measure l (qs ++ q ∷ [])
  behind-push [] q h i = (i, tt)
  behind-push (p ∷ qs) q h i = (h.0, behind-push qs q h.1 i)

  -- the front gets the quantum, and its deficit then covers its head
  covers-fresh : (deficit : ℕ) (xs : List T) → AreDrrLimits l → AreMeasured measure l xs → Covers measure l (deficit + l.quantum) xs
  covers-fresh deficit xs v m = grind (arith, nat_tests)

  pub fair-refilled : (qs : List (Queue T)) → AreDrrLimits l → length qs ≤ l.queues → AreQueues measure l qs → AreBehind measure l qs → all_bytes measure qs ≤ l.class_bytes → AreFair measure l (refilled l.quantum qs)
  fair-refilled qs v n q b s = grind (arith, nat_tests, covers-fresh, sum_by-cons)

  fair-settled : (key deficit : ℕ) (xs : List T) (qs : List (Queue T)) → AreDrrLimits l → length qs + 1 ≤ l.queues → AreQueues measure l qs → has_key key qs ≡ false → AreBehind measure l qs
      → AreMeasured measure l xs → length xs ≤ l.ring → bytes_in measure xs ≤ l.queue_bytes → deficit < l.max + l.quantum → bytes_in measure xs + all_bytes measure qs ≤ l.class_bytes
      → AreFair measure l (settled measure l.quantum key deficit xs qs)
  fair-settled key deficit [] qs v n q k b m r c d s = fair-refilled qs v (omega arith) q b (omega arith)
  fair-settled key deficit (x ∷ xs) qs v n q k b m r c d s = grind (arith, nat_tests, (leb_tells (suc deficit) (measure x)), (fair-refilled (qs ++ queue key deficit (x ∷ xs) ∷ []) v (omega (arith, length-append qs (queue key deficit (x ∷ xs) ∷ [])))), (length-append qs (queue key deficit (x ∷ xs) ∷ [])), (queues-push qs (queue key deficit (x ∷ xs)) q), (behind-push qs (queue key deficit (x ∷ xs)) b), (sum_by_push (queue_bytes measure) qs (queue key deficit (x ∷ xs))), (sum_by-cons (queue_bytes measure) (queue key deficit (x ∷ xs)) qs))

  fair-served : (key deficit : ℕ) (xs : List T) (qs : List (Queue T)) → AreDrrLimits l → AreFair measure l (queue key deficit xs ∷ qs) → AreFair measure l (front_settled measure l.quantum (popped measure key deficit xs ∷ qs))
  fair-served key deficit [] qs v h = absurd (omega (arith, h.each.0.filled))
  fair-served key deficit (x ∷ xs) qs v h =
      let s = sum_by-cons (queue_bytes measure) (queue key deficit (x ∷ xs)) qs in
      let t = sum_by-cons measure x xs in
      fair-settled key (deficit - measure x) xs qs v (omega (arith, h.few)) h.each.2 h.each.1 h.turn.2 h.each.0.measured.1 (omega (arith, h.each.0.ring)) (omega (arith, h.each.0.bytes)) (omega (arith, h.turn.1)) (omega (arith, h.bytes))

  pub fair-taken : (qs : List (Queue T)) → AreDrrLimits l → AreFair measure l qs → AreFair measure l (taken measure l.quantum qs)
  fair-taken [] v h = h
  fair-taken (q ∷ qs) v h = fair-served q.key q.deficit q.items qs v h

  -- each queue's deficit has room for the quantum, once the front's item is gone
  behind-room : (qs : List (Queue T)) → AreDrrLimits l → AreBehind measure l qs → AllByRecursion (λ q. q.deficit + l.quantum < 2 ^ 32) qs
  behind-room [] v b = tt
  behind-room (p ∷ qs) v b = (omega arith, behind-room qs v b.1)

  popped-room : (key deficit : ℕ) (xs : List T) (qs : List (Queue T)) → AreDrrLimits l → AreFair measure l (queue key deficit xs ∷ qs) → AllByRecursion (λ q. q.deficit + l.quantum < 2 ^ 32) (popped measure key deficit xs ∷ qs)
  popped-room key deficit xs qs v h = grind (arith, nat_tests, behind-room qs v h.turn.2)

  room-popped : (qs : List (Queue T)) → AreDrrLimits l → AreFair measure l qs → AllByRecursion (λ q. q.deficit + l.quantum < 2 ^ 32) (front_popped measure qs)
  room-popped qs v h = grind (arith, nat_tests, popped-room)

  pub all_room-popped : (qs : List (Queue T)) → AreDrrLimits l → AreFair measure l qs → All (λ q. q.deficit + l.quantum < 2 ^ 32) (front_popped measure qs)
  all_room-popped qs v h = All-from_recursion (λ q. q.deficit + l.quantum < 2 ^ 32) (front_popped measure qs) (room-popped qs v h)

  -- the bytes of an item that goes
  all_bytes-refilled : (qs : List (Queue T)) → all_bytes measure (refilled l.quantum qs) ≡ all_bytes measure qs
  all_bytes-refilled qs = grind (arith, nat_tests, sum_by-cons)

  all_bytes-settled : (key deficit : ℕ) (xs : List T) (qs : List (Queue T)) → all_bytes measure (settled measure l.quantum key deficit xs qs) ≡ bytes_in measure xs + all_bytes measure qs
  all_bytes-settled key deficit [] qs = omega (arith, all_bytes-refilled qs)
  all_bytes-settled key deficit (x ∷ xs) qs = grind (arith, nat_tests, all_bytes-refilled (qs ++ queue key deficit (x ∷ xs) ∷ []), sum_by_push (queue_bytes measure) qs (queue key deficit (x ∷ xs)), sum_by-cons (queue_bytes measure) (queue key deficit (x ∷ xs)) qs)

  all_bytes-served : (key deficit : ℕ) (xs : List T) (qs : List (Queue T)) (x : T) → first xs ≡ Some x
      → all_bytes measure (front_settled measure l.quantum (popped measure key deficit xs ∷ qs)) + measure x ≡ all_bytes measure (queue key deficit xs ∷ qs)
  all_bytes-served key deficit [] qs x e = absurd (cc)
  all_bytes-served key deficit (y ∷ ys) qs x e = grind (arith, nat_tests, (all_bytes-settled key (deficit - measure y) ys qs), (sum_by-cons (queue_bytes measure) (queue key deficit (y ∷ ys)) qs), (sum_by-cons measure y ys))

  pub all_bytes-taken : (qs : List (Queue T)) (x : T) → head qs ≡ Some x → all_bytes measure (taken measure l.quantum qs) + measure x ≡ all_bytes measure qs
  all_bytes-taken qs x e = grind (arith, nat_tests, all_bytes-served)

  -- a take keeps what is true
  pub keeps-taken : (b : ℕ) (qs : List (Queue T)) (x : T) → IsFair measure (fair l qs) → b ≡ all_bytes measure qs → head qs ≡ Some x
      → IsFair measure (fair l (taken measure l.quantum qs)) × (b - measure x ≡ all_bytes measure (taken measure l.quantum qs))
  keeps-taken b qs x h e f = (record { limits = h.limits; queues = fair-taken qs h.limits h.queues }, omega (arith, all_bytes-taken qs x f))

  -- so does an offer that is queued
  pub keeps-put : (b key : ℕ) (qs : List (Queue T)) (x : T) → IsFair measure (fair l qs) → b ≡ all_bytes measure qs → (1 ≤ measure x) × (measure x ≤ l.max)
      → (has_key key qs ≡ false → length qs < l.queues) → length (items_of key qs) + 1 ≤ l.ring → bytes_in measure (items_of key qs) + measure x ≤ l.queue_bytes → b + measure x ≤ l.class_bytes
      → IsFair measure (fair l (put l.quantum key x qs)) × (b + measure x ≡ all_bytes measure (put l.quantum key x qs))
  keeps-put b key qs x h e m n r s c = grind (arith, nat_tests, (fair-put key x qs h.limits m h.queues n r s (omega arith)), (all_bytes-put measure l.quantum key x qs))

  -- no key has more than its limits
  pub items-within : (key : ℕ) (qs : List (Queue T)) → AreQueues measure l qs → (length (items_of key qs) ≤ l.ring) × (bytes_in measure (items_of key qs) ≤ l.queue_bytes)
  items-within key [] h = (omega arith, omega arith)
  items-within key (p ∷ qs) h = grind (arith, nat_tests, items-within key qs h.2)

  -- an offer that is queued keeps what is true
  pub keeps-offer : (b key : ℕ) (qs : List (Queue T)) (x : T) → IsFair measure (fair l qs) → b ≡ all_bytes measure qs → (1 ≤ measure x) × (measure x ≤ l.max)
      → lacks_queue (fair l qs) key ≡ false → lacks_room measure (fair l qs) key x ≡ false
      → IsFair measure (fair l (put l.quantum key x qs)) × (b + measure x ≡ all_bytes measure (put l.quantum key x qs))
  keeps-offer b key qs x h e m q r = grind (arith, nat_tests, (keeps-put b key qs x h e m (grind (arith, nat_tests)) (grind (arith, nat_tests)) (grind (arith, nat_tests)) (grind (arith, nat_tests))))

-- an item whose length is known is there
pub with_length : {T : Type 0} (measure : T → ℕ) (item : Option T) (n : ℕ) → option_map measure item ≡ Some n
    → (x : T) × (item ≡ Some x) × (measure x ≡ n)
with_length measure item n e = grind (arith, nat_tests)
