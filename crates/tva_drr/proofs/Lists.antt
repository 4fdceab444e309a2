-- The first queue of a key, by its place.
use Rattle.tva_drr.proofs.Common.{◌≡◌, ℕ, ◌+◌, ◌<◌, Bool, true, false, cond, eqb, List, [], ◌∷◌, ◌++◌, length, not, is_none, ◌&&◌, ◌||◌, leb, ltb, take, set, get_or, Option, Some, None, refl, sym, ap, ◌∙◌, subst, inl, inr, zero, suc, arith, ◌==◌, nat_tests, eqb_tells, sum_by-cons, sum_by_push, DrrLimits, Queued, QueueFull, Queue, queue, Fair, fair, has_key, items_of, queue_bytes, all_bytes, bytes_in, put, lacks_queue, lacks_room, offer_answer, offer_leaves, IsPlace}

-- by whether two keys are one
pub by_key : (a b : ℕ) (P : Bool → Type 0) → (a ≡ b → P true) → ((a ≡ b → ⊥) → P false) → P (eqb a b)
by_key a b P t f = elim (eqb_tells a b) [ inl h ↦ subst P (sym h.0) (t h.1) | inr h ↦ subst P (sym h.0) (f h.1) ]

module _ {T : Type 0} where
  pub has_key-push : (key : ℕ) (qs : List (Queue T)) (q : Queue T) → has_key key qs ≡ false → eqb q.key key ≡ false → has_key key (qs ++ q ∷ []) ≡ false
  has_key-push key [] q h e = grind arith
  has_key-push key (p ∷ qs) q h e = grind (arith, has_key-push key qs q)

  -- what stands at a place of the list
  get_or_here : (qs : List (Queue T)) (i : ℕ) → i < length qs → Queue T
  get_or_here [] i n = absurd (omega arith)
  get_or_here (q ∷ qs) zero n = q
  get_or_here (q ∷ qs) (suc i) n = get_or_here qs i (omega arith)

  get_or_here_is : (qs : List (Queue T)) (i : ℕ) (n : i < length qs) → get_or_here qs i n ≡ get_or qs i (get_or_here qs i n)
  unfolding get_or_here
  get_or_here_is [] i n = absurd (omega arith)
  get_or_here_is (q ∷ qs) zero n = refl
  get_or_here_is (q ∷ qs) (suc i) n = get_or_here_is qs i (omega arith)

  pub has_key_at : (key : ℕ) (qs : List (Queue T)) (at : ℕ) (q : Queue T) → at < length qs → q ≡ get_or qs at q → q.key ≡ key → has_key key qs ≡ true
  has_key_at key [] at q n s e = absurd (omega arith)
  has_key_at key (p ∷ qs) zero q n s e = let k : p.key ≡ key = ap (λ (r : Queue T). r.key) (sym s) ∙ e in grind (arith, nat_tests)
  has_key_at key (p ∷ qs) (suc i) q n s e = let k = has_key_at key qs i q (omega arith) s e in grind arith

  pub items_of_at : (key : ℕ) (qs : List (Queue T)) (at : ℕ) (q : Queue T) → at < length qs → has_key key (take at qs) ≡ false → q ≡ get_or qs at q → q.key ≡ key → items_of key qs ≡ q.items
  items_of_at key [] at q n h s e = absurd (omega arith)
  items_of_at key (p ∷ qs) zero q n h s e = grind (arith, nat_tests)
  items_of_at key (p ∷ qs) (suc i) q n h s e = grind (arith, items_of_at key qs i q)

  pub put_at : (first key : ℕ) (item : T) (qs : List (Queue T)) (at : ℕ) (q : Queue T) → at < length qs → has_key key (take at qs) ≡ false → q ≡ get_or qs at q → q.key ≡ key
      → put first key item qs ≡ set qs at (queue q.key q.deficit (q.items ++ item ∷ []))
  put_at first key item [] at q n h s e = absurd (omega arith)
  put_at first key item (p ∷ qs) zero q n h s e = grind (arith, nat_tests)
  put_at first key item (p ∷ qs) (suc i) q n h s e = grind (arith, put_at 0 key item qs i q)

  pub items_of_none : (key : ℕ) (qs : List (Queue T)) → has_key key qs ≡ false → items_of key qs ≡ []
  items_of_none key [] h = refl
  items_of_none key (p ∷ qs) h = grind (arith, items_of_none key qs)

  put_next : (key : ℕ) (item : T) (qs : List (Queue T)) → has_key key qs ≡ false → put 0 key item qs ≡ qs ++ queue key 0 (item ∷ []) ∷ []
  put_next key item [] h = refl
  put_next key item (p ∷ qs) h = grind (arith, put_next key item qs)

  pub put_new : (first key : ℕ) (item : T) (qs : List (Queue T)) → has_key key qs ≡ false → put first key item qs ≡ qs ++ queue key (cond (length qs == 0) first 0) (item ∷ []) ∷ []
  put_new first key item [] h = refl
  put_new first key item (p ∷ qs) h = grind (arith, put_next key item qs)

  -- an item put adds its bytes
  pub all_bytes-put : (measure : T → ℕ) (first key : ℕ) (item : T) (qs : List (Queue T)) → all_bytes measure (put first key item qs) ≡ all_bytes measure qs + measure item
  all_bytes-put measure first key item [] = omega arith
  all_bytes-put measure first key item (p ∷ qs) = grind (arith, nat_tests, sum_by-cons (queue_bytes measure) p qs, sum_by-cons (queue_bytes measure) (queue p.key p.deficit (p.items ++ item ∷ [])) qs, sum_by_push measure p.items item, sum_by-cons (queue_bytes measure) p (put 0 key item qs), all_bytes-put measure 0 key item qs)

  -- an item put under one key leaves the others
  pub has_key-put : (k first key : ℕ) (item : T) (qs : List (Queue T)) → (key ≡ k → ⊥) → has_key k qs ≡ false → has_key k (put first key item qs) ≡ false
  has_key-put k first key item [] n h = grind (arith, nat_tests)
  has_key-put k first key item (p ∷ qs) n h = grind (arith, nat_tests, has_key-put k 0 key item qs n)

  pub length-put : (first key : ℕ) (item : T) (qs : List (Queue T)) → length (put first key item qs) ≡ (cond (has_key key qs) (length qs) (length qs + 1))
  length-put first key item [] = omega arith
  length-put first key item (p ∷ qs) = grind (arith, nat_tests, length-put 0 key item qs)

  -- a place is none where the key has no queue
  pub is_none-place : (key : ℕ) (qs : List (Queue T)) (at : Option ℕ) → IsPlace key qs at → is_none at ≡ not (has_key key qs)
  is_none-place key qs None h = rw h refl
  is_none-place key qs (Some i) h = rw (has_key_at key qs i (get_or_here qs i h.0) h.0 (get_or_here_is qs i h.0) (h.2 _ (get_or_here_is qs i h.0))) refl

  -- the tests of an offer, by what was found
  pub lacks_queue_is : (l : DrrLimits) (key : ℕ) (qs : List (Queue T)) (at : Option ℕ) → IsPlace key qs at → (is_none at && leb l.queues (length qs)) ≡ lacks_queue (fair l qs) key
  lacks_queue_is l key qs at h = rw (is_none-place key qs at h) refl

  pub lacks_room_is : (measure : T → ℕ) (l : DrrLimits) (key : ℕ) (qs : List (Queue T)) (x : T) (n b t m : ℕ) → n ≡ length (items_of key qs) → b ≡ bytes_in measure (items_of key qs) → t ≡ all_bytes measure qs → m ≡ measure x
      → (ltb l.ring (n + 1) || ltb l.queue_bytes (b + m) || ltb l.class_bytes (t + m)) ≡ lacks_room measure (fair l qs) key x
  lacks_room_is measure l key qs x n b t m e f g h = rw (e, f, g, h) refl

  pub room_lacked : (measure : T → ℕ) (l : DrrLimits) (key : ℕ) (qs : List (Queue T)) (x : T) (n b t m : ℕ) (r : Bool) → n ≡ length (items_of key qs) → b ≡ bytes_in measure (items_of key qs) → t ≡ all_bytes measure qs → m ≡ measure x
      → r ≡ (ltb l.ring (n + 1) || ltb l.queue_bytes (b + m) || ltb l.class_bytes (t + m)) → lacks_room measure (fair l qs) key x ≡ r
  room_lacked measure l key qs x n b t m r e f g h k = sym (lacks_room_is measure l key qs x n b t m e f g h) ∙ sym k

  -- the answer by its tests
  pub answer_full : (measure : T → ℕ) (f : Fair T) (key : ℕ) (item : T) → lacks_queue f key ≡ false → lacks_room measure f key item ≡ true → QueueFull item ≡ offer_answer measure f key item
  answer_full measure f key item h k = rw (h, k) refl

  pub answer_queued : (measure : T → ℕ) (f : Fair T) (key : ℕ) (item : T) → lacks_queue f key ≡ false → lacks_room measure f key item ≡ false → Queued ≡ offer_answer measure f key item
  answer_queued measure f key item h k = rw (h, k) refl

  pub leaves_queued : (measure : T → ℕ) (f g : Fair T) (key : ℕ) (item : T) → lacks_queue f key ≡ false → lacks_room measure f key item ≡ false → g ≡ fair f.limits (put f.limits.quantum key item f.queues) → g ≡ offer_leaves measure f key item
  leaves_queued measure f g key item h k e = rw (h, k) e

  pub room_for : (l : DrrLimits) (key : ℕ) (qs : List (Queue T)) → lacks_queue (fair l qs) key ≡ false → has_key key qs ≡ false → length qs < l.queues
  room_for l key qs h n = grind (arith, nat_tests)
