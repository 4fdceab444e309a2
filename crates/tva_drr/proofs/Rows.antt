-- Queues as turns over rings of items.
use Rattle.tva_drr.proofs.Common.{◌≡◌, ℕ, Bool, Option, is_none, ◌&&◌, leb, ◌-◌, ◌<◌, ◌≤◌, List, [], ◌∷◌, length, get_or, slice_get, drop, map, Some, None, refl, sym, ap, ◌∙◌, subst, arith, option_map, option_map_or, get_or-map, length-map, map_push, DrrLimits, Queue, queue, fair, first, head, lacks_queue, refilled, settled, popped, front_settled, taken, HasTurn, IsPlace, Served, TurnsOver, turns_over, served, turn_keys, turns_refilled, turn_settled, turns_settled, turns_popped, front_next, RowOf, row, queues_in, nat_tests}
use Rattle.tva_drr.specs.Take.{front_popped}
use Rattle.tva_drr.proofs.Lists.{lacks_queue_is}

module _ {T : Type 0} where
  abbrev queue_of : Served (RowOf T) → Queue T
  queue_of t = queue t.key t.deficit t.source.items

  pub length-queues : (ts : List (Served (RowOf T))) → length (queues_in ts) ≡ length ts
  length-queues ts = length-map ts queue_of

  -- the queue of the turn at a place
  pub queue_read : (ts : List (Served (RowOf T))) (i : ℕ) (t : Served (RowOf T)) → i < length ts → t ≡ get_or ts i t → queue_of t ≡ get_or (queues_in ts) i (queue_of t)
  queue_read ts i t n e = ap queue_of e ∙ sym (get_or-map queue_of ts i t (queue_of t) n)

  pub keys-queues : (ts : List (Served (RowOf T))) → map (λ (q : Queue T). q.key) (queues_in ts) ≡ turn_keys ts
  keys-queues [] = refl
  keys-queues (t ∷ ts) = ap (λ (z : List ℕ). t.key ∷ z) (keys-queues ts)

  pub front-head : (ts : List (Served (RowOf T))) → front_next (λ (r : RowOf T). first r.items) ts ≡ head (queues_in ts)
  front-head ts = grind (arith, nat_tests)

  pub none_got : (xs : List T) → slice_get xs 0 ≡ None → xs ≡ []
  none_got [] h = refl
  none_got (x ∷ xs) h = absurd (cc)

  queues-refilled : (quantum : ℕ) (ts : List (Served (RowOf T))) → queues_in (turns_refilled quantum ts) ≡ refilled quantum (queues_in ts)
  queues-refilled quantum ts = grind (arith, nat_tests)

  module _ (measure : T → ℕ) (quantum : ℕ) where
    settled_one : (k d room : ℕ) (xs : List T) (ts : List (Served (RowOf T))) → queues_in (turn_settled quantum (option_map measure (first xs)) (served k d (row xs room)) ts) ≡ settled measure quantum k d xs (queues_in ts)
    settled_one k d room xs ts = grind (arith, nat_tests, queues-refilled, map_push)

    pub queues-settled : (ts : List (Served (RowOf T))) → queues_in (turns_settled (λ (r : RowOf T). option_map measure (first r.items)) quantum ts) ≡ front_settled measure quantum (queues_in ts)
    queues-settled ts = grind (arith, nat_tests, settled_one)

  module _ (measure : T → ℕ) where
    popped_one : (k d : ℕ) (xs : List T) → queue k (d - option_map_or measure (first xs) 0) (drop 1 xs) ≡ popped measure k d xs
    popped_one k d xs = grind (arith, nat_tests)

    pub queues-popped : (ts : List (Served (RowOf T))) → queues_in (turns_popped (λ (r : RowOf T). option_map_or measure (first r.items) 0) (λ (r : RowOf T). row (drop 1 r.items) r.room) ts) ≡ front_popped measure (queues_in ts)
    queues-popped ts = grind (arith, nat_tests, popped_one)

    covers_first : (l : DrrLimits) (d : ℕ) (xs : List T) (k : ℕ) (qs : List (Queue T)) → HasTurn measure l (queue k d xs ∷ qs) → option_map_or measure (first xs) 0 ≤ d
    covers_first l d xs k qs h = grind (arith, nat_tests)

    -- the front may send its first item
    pub front_covers : (l : DrrLimits) (ts : List (Served (RowOf T))) → HasTurn measure l (queues_in ts) → (t : Served (RowOf T)) → slice_get ts 0 ≡ Some t → option_map_or measure (first t.source.items) 0 ≤ t.deficit
    front_covers l [] h t e = absurd (cc)
    front_covers l (u ∷ ts) h t e = let q : u ≡ t = cc in subst (λ (z : Served (RowOf T)). option_map_or measure (first z.source.items) 0 ≤ z.deficit) q (covers_first l u.deficit u.source.items u.key (queues_in ts) h)

    -- a take
    pub turns_after : (l : DrrLimits) (places : ℕ) (ts : List (Served (RowOf T))) (one two : TurnsOver (RowOf T))
        → one ≡ turns_over l places (turns_popped (λ (r : RowOf T). option_map_or measure (first r.items) 0) (λ (r : RowOf T). row (drop 1 r.items) r.room) ts)
        → two ≡ turns_over one.limits one.places (turns_settled (λ (r : RowOf T). option_map measure (first r.items)) one.limits.quantum one.turns)
        → (two.places ≡ places) × (fair two.limits (queues_in two.turns) ≡ fair l (taken measure l.quantum (queues_in ts)))
    turns_after l places ts one two p s = grind (arith, nat_tests, queues-settled measure l.quantum, queues-popped ts)

  -- the tests of an offer, by what was found
  pub queue_lacked : (l : DrrLimits) (key : ℕ) (ts : List (Served (RowOf T))) (at : Option ℕ) (b : Bool) → IsPlace key (queues_in ts) at → b ≡ (is_none at && leb l.queues (length ts)) → lacks_queue (fair l (queues_in ts)) key ≡ b
  queue_lacked l key ts at b p e = sym (lacks_queue_is l key (queues_in ts) at p) ∙ (ap (λ n. is_none at && leb l.queues n) (length-queues ts) ∙ sym e)
