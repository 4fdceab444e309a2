-- The measure of the bytes that may still go falls at each take by what is taken.
use Rattle.tva_drr.proofs.Common.{◌≡◌, ℕ, suc, ◌+◌, ◌-◌, ◌*◌, ◌<◌, ◌≤◌, Bool, true, false, cond, eqb, leb, Option, Some, None, List, [], ◌∷◌, ◌++◌, length, refl, sym, ap, ◌∙◌, subst, mul_assoc, arith, div_ceil, AllByRecursion, option_map, mul-le-mul_right, add-mul, mul-add, mul_comm, leb_tells, length-map, map_push, DrrLimits, AreDrrLimits, Queue, queue, fair, has_key, items_of, first, put, lacks_queue, lacks_room, offer_leaves, refilled, settled, popped, front_settled, taken, AreBehind, AreFair, is_front, first_bytes, head_bytes, most_until, Turn, turn, deficit_of, other_deficits, place_of, ahead, turns_of, bytes_ahead, IsLeft, nat_tests}
use Rattle.tva_drr.proofs.Lists.{by_key}
use Rattle.tva_drr.proofs.OrderLaws.{items_of-settled-own}
use Rattle.tva_drr.proofs.Ceil.{ceil_le, ceil_some, ceil_less}

pub by_test : (b : Bool) (P : Bool → Type 0) → (b ≡ true → P true) → (b ≡ false → P false) → P b
by_test b P t f = grind (arith, nat_tests)

later_turns : (r d q : ℕ) → 1 ≤ q → div_ceil (r - (d + q)) q ≡ div_ceil (r - d) q - 1
later_turns r d q h = let e : r - (d + q) ≡ r - d - q = omega arith in ap (λ z. div_ceil z q) e ∙ ceil_less (r - d) q h

same_lap : (o r t q k : ℕ) → o + r + (t * k) * q ≡ o + r + (0 + t * k) * q
same_lap o r t q k = omega arith

next_lap : (d o r j x q : ℕ) → (d + q) + o + r + (j + x) * q ≡ d + o + r + (suc j + x) * q
next_lap d o r j x q = let m = add-mul (j + x) 1 q in let e : suc j + x ≡ j + x + 1 = omega arith in omega (arith, m, ap (λ z. z * q) e)

-- a place behind all others is at most a round away
round_le : (j t k q : ℕ) → 1 ≤ t → j ≤ k → (j + (t - 1) * k) * q ≤ (t * k) * q
round_le j t k q h w = grind (arith, nat_tests, add-mul, mul-le-mul_right)

offered_either : {A : Type 0} (b c : Bool) (f g : A) (P : A → Type 0) → P f → P g → P (cond b f (cond c f g))
offered_either b c f g P x y = grind (arith, nat_tests)

most_is : (k m q x : ℕ) → k * (m * q + x) ≡ (m * k) * q + k * x
most_is k m q x = mul-add k (m * q) x ∙ ap (λ z. z + k * x) (sym (mul_assoc k m q) ∙ ap (λ z. z * q) (mul_comm k m))

-- ## a ring of turns, whatever waits behind them

-- the key has a turn
abbrev pub has : ℕ → List Turn → Bool
has key [] = false
has key (t ∷ ts) = cond (eqb t.key key) true (has key ts)

-- the front gets the quantum
abbrev pub refill : ℕ → List Turn → List Turn
refill quantum [] = []
refill quantum (t ∷ ts) = turn t.key (t.deficit + quantum) ∷ ts

-- a front leaves where nothing waits behind it, goes last where what it sends next is longer than its deficit, or stays
abbrev pub settle : ℕ → Option ℕ → Turn → List Turn → List Turn
settle quantum None t ts = refill quantum ts
settle quantum (Some m) t ts = cond (leb (suc t.deficit) m) (refill quantum (ts ++ t ∷ [])) (t ∷ ts)

-- a key without a turn goes last
abbrev pub join : ℕ → ℕ → List Turn → List Turn
join start key [] = turn key start ∷ []
join start key (t ∷ ts) = cond (eqb t.key key) (t ∷ ts) (t ∷ join 0 key ts)

-- ## a turn that goes last

other-push : (key : ℕ) (ts : List Turn) (p : Turn) → other_deficits key (ts ++ p ∷ []) ≡ other_deficits key ts + cond (eqb p.key key) 0 p.deficit
other-push key [] p = omega arith
other-push key (t ∷ ts) p = omega (arith, other-push key ts p)

place-push : (key : ℕ) (ts : List Turn) (p : Turn) → has key ts ≡ true → place_of key (ts ++ p ∷ []) ≡ place_of key ts
place-push key [] p h = absurd (cc)
place-push key (t ∷ ts) p h = grind (arith, nat_tests, (place-push key ts p))

pub deficit-push : (key : ℕ) (ts : List Turn) (p : Turn) → has key ts ≡ true → deficit_of key (ts ++ p ∷ []) ≡ deficit_of key ts
deficit-push key [] p h = absurd (cc)
deficit-push key (t ∷ ts) p h = grind (arith, nat_tests, (deficit-push key ts p))

place-push-own : (key : ℕ) (ts : List Turn) (p : Turn) → has key ts ≡ false → p.key ≡ key → place_of key (ts ++ p ∷ []) ≡ length ts
place-push-own key [] p h e = by_key p.key key (λ b. cond b 0 (suc 0) ≡ 0) (λ _. refl) (λ n. absurd (n e))
place-push-own key (t ∷ ts) p h e = grind (arith, nat_tests, (place-push-own key ts p))

pub deficit-push-own : (key : ℕ) (ts : List Turn) (p : Turn) → has key ts ≡ false → p.key ≡ key → deficit_of key (ts ++ p ∷ []) ≡ p.deficit
deficit-push-own key [] p h e = by_key p.key key (λ b. cond b p.deficit 0 ≡ p.deficit) (λ _. refl) (λ n. absurd (n e))
deficit-push-own key (t ∷ ts) p h e = grind (arith, nat_tests, (deficit-push-own key ts p))

pub has-push : (key : ℕ) (ts : List Turn) (p : Turn) → has key ts ≡ true → has key (ts ++ p ∷ []) ≡ true
has-push key [] p h = absurd (cc)
has-push key (t ∷ ts) p h = by_test (eqb t.key key) (λ b. cond b true (has key ts) ≡ true → cond b true (has key (ts ++ p ∷ [])) ≡ true) (λ e k. refl) (λ e k. has-push key ts p k) h

pub has-push-own : (key : ℕ) (ts : List Turn) (p : Turn) → p.key ≡ key → has key (ts ++ p ∷ []) ≡ true
has-push-own key [] p e = by_key p.key key (λ b. cond b true false ≡ true) (λ _. refl) (λ n. absurd (n e))
has-push-own key (t ∷ ts) p e = by_test (eqb t.key key) (λ b. cond b true (has key (ts ++ p ∷ [])) ≡ true) (λ _. refl) (λ _. has-push-own key ts p e)

place_below : (key : ℕ) (ts : List Turn) → has key ts ≡ true → place_of key ts < length ts
place_below key [] h = absurd (cc)
place_below key (t ∷ ts) h = grind (arith, nat_tests, (place_below key ts))

-- ## a front that is to get the quantum

-- the measure where the front is still to get its quantum
abbrev pub ahead_unfilled : DrrLimits → ℕ → ℕ → List Turn → ℕ
ahead_unfilled l key r ts = other_deficits key ts + r + (place_of key ts + (div_ceil (r - deficit_of key ts) l.quantum - 1) * (l.queues - 1)) * l.quantum

ahead-refill : (l : DrrLimits) (key r : ℕ) (ts : List Turn) → 1 ≤ l.quantum → has key ts ≡ true → ahead l key r (refill l.quantum ts) ≡ ahead_unfilled l key r ts
ahead-refill l key r [] n h = absurd (cc)
ahead-refill l key r (p ∷ ps) n h = grind (arith, nat_tests, later_turns r p.deficit l.quantum n, same_lap, next_lap p.deficit (other_deficits key ps) r (place_of key ps) ((div_ceil (r - deficit_of key ps) l.quantum - 1) * (l.queues - 1)) l.quantum)

-- ## a take

-- a front that isn't the key's adds its deficit
ahead_behind : (l : DrrLimits) (key r : ℕ) (p : Turn) (ps : List Turn) → (p.key ≡ key → ⊥) → ahead l key r (p ∷ ps) ≡ p.deficit + ahead_unfilled l key r ps
ahead_behind l key r p ps n = grind (arith, nat_tests)

-- the key's own turn at the front
ahead_own : (l : DrrLimits) (key r : ℕ) (p : Turn) (ps : List Turn) → p.key ≡ key → ahead l key r (p ∷ ps) ≡ other_deficits key ps + r + (div_ceil (r - p.deficit) l.quantum * (l.queues - 1)) * l.quantum
ahead_own l key r p ps e = grind (arith, nat_tests)

unfilled-push : (l : DrrLimits) (key r : ℕ) (ts : List Turn) (p : Turn) → (p.key ≡ key → ⊥) → has key ts ≡ true → ahead_unfilled l key r (ts ++ p ∷ []) ≡ p.deficit + ahead_unfilled l key r ts
unfilled-push l key r ts p n h = grind (arith, nat_tests, place-push key ts p h, deficit-push key ts p h, other-push key ts p)

unfilled-push-own : (l : DrrLimits) (key r : ℕ) (ts : List Turn) (p : Turn) → p.key ≡ key → has key ts ≡ false
    → ahead_unfilled l key r (ts ++ p ∷ []) ≡ other_deficits key ts + r + (length ts + (div_ceil (r - p.deficit) l.quantum - 1) * (l.queues - 1)) * l.quantum
unfilled-push-own l key r ts p e h = grind (arith, nat_tests, place-push-own key ts p h e, deficit-push-own key ts p h e, other-push key ts p)

pub has-refill : (key quantum : ℕ) (ts : List Turn) → has key (refill quantum ts) ≡ has key ts
has-refill key quantum ts = grind (arith, nat_tests)

module _ (l : DrrLimits) where
  -- a take of another's bytes
  pub falls_other : (key r n : ℕ) (next : Option ℕ) (t : Turn) (ts : List Turn) → 1 ≤ l.quantum → (t.key ≡ key → ⊥) → has key ts ≡ true → n ≤ t.deficit
      → ahead l key r (settle l.quantum next (turn t.key (t.deficit - n)) ts) + n ≤ ahead l key r (t ∷ ts)
  falls_other key r n next t ts q m h c = grind (arith, nat_tests, ahead-refill, ahead_behind, has-push, unfilled-push)

  -- a take of its own, where what it sends next is among what is left
  pub falls_own : (r left n : ℕ) (next : Option ℕ) (t : Turn) (ts : List Turn) → 1 ≤ l.quantum → has t.key ts ≡ false → length ts ≤ l.queues - 1 → n ≤ t.deficit → n + left ≡ r
      → ((y : ℕ) → next ≡ Some y → y ≤ left) → has t.key (settle l.quantum next (turn t.key (t.deficit - n)) ts) ≡ true
      → ahead l t.key left (settle l.quantum next (turn t.key (t.deficit - n)) ts) + n ≤ ahead l t.key r (t ∷ ts)
  falls_own r left n next t ts q h w c s m k = grind (arith, nat_tests, has-refill, ahead_own, leb_tells, ahead-refill, has-push-own, unfilled-push-own, div_ceil, ceil_some, round_le)

  -- what the front sends is ahead, where it is the key's own among what the key has yet to send
  pub front_ahead : (key r n : ℕ) (t : Turn) (ts : List Turn) → n ≤ t.deficit → (t.key ≡ key → n ≤ r) → n ≤ ahead l key r (t ∷ ts)
  front_ahead key r n t ts c h = by_key t.key key (λ _. n ≤ ahead l key r (t ∷ ts)) (λ e. omega (arith, h e)) (λ m. omega (arith, c, ahead_behind l key r t ts m))

  -- a key that joins leaves the measure of one that is there
  other-join : (key k : ℕ) (ts : List Turn) → other_deficits key (join 0 k ts) ≡ other_deficits key ts
  other-join key k [] = by_test (eqb k key) (λ b. cond b 0 0 + 0 ≡ 0) (λ _. refl) (λ _. refl)
  other-join key k (p ∷ ps) = grind (arith, nat_tests, (other-join key k ps))

  pub place-join : (key start k : ℕ) (ts : List Turn) → has key ts ≡ true → (place_of key (join start k ts) ≡ place_of key ts) × (deficit_of key (join start k ts) ≡ deficit_of key ts)
  place-join key start k [] h = absurd (cc)
  place-join key start k (p ∷ ps) h = grind (arith, nat_tests, place-join key 0 k ps)

  other-join-front : (key start k : ℕ) (ts : List Turn) → has key ts ≡ true → other_deficits key (join start k ts) ≡ other_deficits key ts
  other-join-front key start k [] h = absurd (cc)
  other-join-front key start k (p ∷ ps) h = grind (arith, nat_tests, other-join key k ps)

  pub ahead-join : (key r start k : ℕ) (ts : List Turn) → has key ts ≡ true → ahead l key r (join start k ts) ≡ ahead l key r ts
  ahead-join key r start k ts h = let p = place-join key start k ts h in rw (p.0, p.1, other-join-front key start k ts h) refl

  -- ## the bound

  -- deficits below the greatest length, the front's with a quantum more
  abbrev pub Stand : List Turn → Type 0
  Stand [] = Unit {0}
  Stand (t ∷ ts) = (length ts + 1 ≤ l.queues) × (t.deficit < l.max + l.quantum) × AllByRecursion (λ (t : Turn). t.deficit < l.max) ts

  other_all : (key : ℕ) (ts : List Turn) → AllByRecursion (λ (t : Turn). t.deficit < l.max) ts → other_deficits key ts ≤ length ts * l.max
  other_all key [] b = omega arith
  other_all key (p ∷ ps) b = by_test (eqb p.key key) (λ t. cond t 0 p.deficit + other_deficits key ps ≤ length (p ∷ ps) * l.max) (λ _. omega (arith, b.0, other_all key ps b.1, add-mul (length ps) 1 l.max)) (λ _. omega (arith, b.0, other_all key ps b.1, add-mul (length ps) 1 l.max))

  other_some : (key : ℕ) (ts : List Turn) → AllByRecursion (λ (t : Turn). t.deficit < l.max) ts → has key ts ≡ true → other_deficits key ts + l.max ≤ length ts * l.max
  other_some key [] b h = absurd (cc)
  other_some key (p ∷ ps) b h = grind (arith, nat_tests, other_all key ps b.1, other_some key ps b.1, add-mul (length ps) 1 l.max)

  most_own : (key r : ℕ) (t : Turn) (ts : List Turn) → 1 ≤ l.quantum → Stand (t ∷ ts) → t.key ≡ key → ahead l key r (t ∷ ts) ≤ most_until l r
  most_own key r q qs n f e =
      let a = ahead_own l key r q qs e in
      let o = other_all key qs f.2 in
      let w : length qs * l.max ≤ (l.queues - 1) * l.max = mul-le-mul_right l.max (omega (arith, f.0)) in
      let t : (div_ceil (r - q.deficit) l.quantum * (l.queues - 1)) * l.quantum ≤ (div_ceil r l.quantum * (l.queues - 1)) * l.quantum = mul-le-mul_right l.quantum (mul-le-mul_right (l.queues - 1) (ceil_le (r - q.deficit) r l.quantum n (omega arith))) in
      omega (arith, a, o, w, t, most_is (l.queues - 1) (div_ceil r l.quantum) l.quantum l.max)

  most_other : (key r : ℕ) (t : Turn) (ts : List Turn) → 1 ≤ l.quantum → Stand (t ∷ ts) → (t.key ≡ key → ⊥) → has key ts ≡ true → 1 ≤ r → ahead l key r (t ∷ ts) ≤ most_until l r
  most_other key r q qs n f e h s =
      let a = ahead_behind l key r q qs e in
      let o = other_some key qs f.2 h in
      let w : length qs * l.max ≤ (l.queues - 1) * l.max = mul-le-mul_right l.max (omega (arith, f.0)) in
      let p = place_below key qs h in
      let m : 1 ≤ div_ceil r l.quantum = ceil_some r l.quantum n s in
      let y : div_ceil (r - deficit_of key qs) l.quantum - 1 ≤ div_ceil r l.quantum - 1 = omega (arith, ceil_le (r - deficit_of key qs) r l.quantum n (omega arith)) in
      let z = mul-le-mul_right (l.queues - 1) y in
      let u : (suc (place_of key qs) + (div_ceil (r - deficit_of key qs) l.quantum - 1) * (l.queues - 1)) * l.quantum ≤ (suc (place_of key qs) + (div_ceil r l.quantum - 1) * (l.queues - 1)) * l.quantum = mul-le-mul_right l.quantum (omega (arith, z)) in
      let t = round_le (suc (place_of key qs)) (div_ceil r l.quantum) (l.queues - 1) l.quantum m (omega (arith, f.0, p)) in
      let x = next_lap 0 0 0 (place_of key qs) ((div_ceil (r - deficit_of key qs) l.quantum - 1) * (l.queues - 1)) l.quantum in
      omega (arith, a, o, w, u, t, x, f.1, most_is (l.queues - 1) (div_ceil r l.quantum) l.quantum l.max)

  pub most : (key r : ℕ) (ts : List Turn) → 1 ≤ l.quantum → Stand ts → has key ts ≡ true → 1 ≤ r → ahead l key r ts ≤ most_until l r
  most key r ts n f h s = grind (arith, nat_tests, most_own, most_other)

-- ## queues

module _ {T : Type 0} where
  pub has-turns : (key : ℕ) (qs : List (Queue T)) → has key (turns_of qs) ≡ has_key key qs
  has-turns key [] = refl
  has-turns key (q ∷ qs) = ap (λ z. cond (eqb q.key key) true z) (has-turns key qs)

  turns-refilled : (quantum : ℕ) (qs : List (Queue T)) → turns_of (refilled quantum qs) ≡ refill quantum (turns_of qs)
  turns-refilled quantum qs = grind (arith, nat_tests)

  pub turns-put : (start key : ℕ) (x : T) (qs : List (Queue T)) → turns_of (put start key x qs) ≡ join start key (turns_of qs)
  turns-put start key x [] = refl
  turns-put start key x (q ∷ qs) = grind (arith, nat_tests, turns-put 0 key x qs)

  module _ (measure : T → ℕ) (l : DrrLimits) where
    turns-settled : (k d : ℕ) (xs : List T) (qs : List (Queue T)) → turns_of (settled measure l.quantum k d xs qs) ≡ settle l.quantum (option_map measure (first xs)) (turn k d) (turns_of qs)
    turns-settled k d xs qs = grind (arith, nat_tests, turns-refilled, map_push)

    -- the length of what a front sends next, after its take
    abbrev pub later : List T → Option ℕ
    later [] = None
    later (x ∷ xs) = option_map measure (first xs)

    pub turns-taken : (k d : ℕ) (xs : List T) (qs : List (Queue T)) → turns_of (front_settled measure l.quantum (popped measure k d xs ∷ qs)) ≡ settle l.quantum (later xs) (turn k (d - first_bytes measure xs)) (turns_of qs)
    turns-taken k d [] qs = turns-refilled l.quantum qs
    turns-taken k d (x ∷ xs) qs = turns-settled k (d - measure x) xs qs

    pub first_covered : (k d : ℕ) (xs : List T) (rest : List (Queue T)) → AreFair measure l (queue k d xs ∷ rest) → first_bytes measure xs ≤ d
    first_covered k d xs rest f = grind (arith, nat_tests)

    first_left : (xs : List T) (y left : ℕ) → option_map measure (first xs) ≡ Some y → first_bytes measure xs ≤ left → y ≤ left
    first_left xs y left e h = grind (arith, nat_tests)

    taken_own : (r left k d : ℕ) (xs : List T) (rest : List (Queue T)) → AreDrrLimits l → AreFair measure l (queue k d xs ∷ rest) → first_bytes measure xs + left ≡ r
        → has_key k (front_settled measure l.quantum (popped measure k d xs ∷ rest)) ≡ true → first_bytes measure (items_of k (front_settled measure l.quantum (popped measure k d xs ∷ rest))) ≤ left
        → bytes_ahead l k left (front_settled measure l.quantum (popped measure k d xs ∷ rest)) + first_bytes measure xs ≤ bytes_ahead l k r (queue k d xs ∷ rest)
    taken_own r left k d [] rest v f s h m = absurd (omega (arith, f.each.0.filled))
    taken_own r left k d (x ∷ xs) rest v f s h m =
        let new : List (Queue T) = settled measure l.quantum k (d - measure x) xs rest in
        let e = turns-settled k (d - measure x) xs rest in
        let within : first_bytes measure xs ≤ left = subst (λ zs. first_bytes measure zs ≤ left) (items_of-settled-own measure l.quantum k (d - measure x) xs rest f.each.1) m in
        subst (λ z. ahead l k left z + measure x ≤ bytes_ahead l k r (queue k d (x ∷ xs) ∷ rest)) (sym e)
        (falls_own l r left (measure x) (option_map measure (first xs)) (turn k d) (turns_of rest) (omega (arith, v.quantum, v.max)) (has-turns k rest ∙ f.each.1)
        (omega (arith, f.few, length-map rest (λ (q : Queue T). turn q.key q.deficit))) f.turn.0 s (λ y g. first_left xs y left g within) (subst (λ z. has k z ≡ true) e (has-turns k new ∙ h)))

    -- a take
    pub taken_falls : (key r left : ℕ) (qs : List (Queue T)) → AreDrrLimits l → AreFair measure l qs → has_key key qs ≡ true → has_key key (taken measure l.quantum qs) ≡ true → IsLeft measure l key r left qs
        → bytes_ahead l key left (taken measure l.quantum qs) + head_bytes measure qs ≤ bytes_ahead l key r qs
    taken_falls key r left [] v f h w m = absurd (cc)
    taken_falls key r left (q ∷ qs) v f h w m = grind (arith, nat_tests, taken_own r left q.key q.deficit q.items qs v f, turns-taken q.key q.deficit q.items qs, falls_other l key r (head_bytes measure (q ∷ qs)) (later q.items) (turn q.key q.deficit) (turns_of qs), has-turns key qs, first_covered q.key q.deficit q.items qs f)

    -- an item that is put leaves the measure
    pub ahead-put : (key r start k : ℕ) (x : T) (qs : List (Queue T)) → has_key key qs ≡ true → bytes_ahead l key r (put start k x qs) ≡ bytes_ahead l key r qs
    ahead-put key r start k x qs h = ap (λ z. ahead l key r z) (turns-put start k x qs) ∙ ahead-join l key r start k (turns_of qs) (has-turns key qs ∙ h)

    pub ahead-offer : (key r k : ℕ) (x : T) (qs : List (Queue T)) → has_key key qs ≡ true → bytes_ahead l key r (offer_leaves measure (fair l qs) k x).queues ≡ bytes_ahead l key r qs
    ahead-offer key r k x qs h = offered_either (lacks_queue (fair l qs) k) (lacks_room measure (fair l qs) k x) (fair l qs) (fair l (put l.quantum k x qs)) (λ g. bytes_ahead l key r g.queues ≡ bytes_ahead l key r qs) refl (ahead-put key r l.quantum k x qs h)

    behind_turns : (qs : List (Queue T)) → AreBehind measure l qs → AllByRecursion (λ (t : Turn). t.deficit < l.max) (turns_of qs)
    behind_turns [] b = tt
    behind_turns (q ∷ qs) b = (b.0, behind_turns qs b.1)

    pub stand : (qs : List (Queue T)) → AreFair measure l qs → Stand l (turns_of qs)
    stand qs f = grind (arith, nat_tests, length-map, behind_turns)

    -- just after an item was queued, the measure of what its queue has up to it is at most the bound
    pub ahead_most : (key r : ℕ) (qs : List (Queue T)) → AreDrrLimits l → AreFair measure l qs → has_key key qs ≡ true → 1 ≤ r → bytes_ahead l key r qs ≤ most_until l r
    ahead_most key r qs v f h s = most l key r (turns_of qs) (omega (arith, v.quantum, v.max)) (stand qs f) (has-turns key qs ∙ h) s

    -- the next item is among what may go, where it is the key's own among what the key has yet to send
    pub head_ahead : (key r : ℕ) (qs : List (Queue T)) → AreFair measure l qs → (is_front key qs ≡ true → head_bytes measure qs ≤ r) → head_bytes measure qs ≤ bytes_ahead l key r qs
    head_ahead key r qs f h = grind (arith, nat_tests, front_ahead, first_covered)
