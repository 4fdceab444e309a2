-- The bytes that go up to a key's n-th item, whatever is offered.
use Rattle.tva_drr.proofs.Common.{◌≡◌, ℕ, zero, suc, ◌+◌, ◌≤◌, Bool, true, false, cond, eqb, List, [], ◌∷◌, ◌++◌, length, length-append, take, refl, sym, ap, subst, Some, arith, take-append-le, sum_by-cons, MatchBool, DrrLimits, Queue, Fair, fair, has_key, items_of, bytes_in, all_bytes, first, head, put, lacks_queue, lacks_room, offer_leaves, taken, AreMeasured, AreQueues, AreFair, IsFair, Step, Offer, Take, first_bytes, head_bytes, AreOffers, most_until, bytes_ahead, IsLeft, nat_tests}
use Rattle.tva_drr.specs.Service.{bytes_until}
use Rattle.tva_drr.proofs.Lists.{by_key, items_of_none}
use Rattle.tva_drr.proofs.Keeps.{keeps-offer, keeps-taken}
use Rattle.tva_drr.proofs.OrderLaws.{goes_last, goes_first}
use Rattle.tva_drr.proofs.Falling.{by_test, taken_falls, ahead-offer, ahead_most}

-- by whether an offer is queued
pub offer_cases : {A : Type 0} (b c : Bool) (f g : A) (P : A → Type 0) → P f → (b ≡ false → c ≡ false → P g) → P (cond b f (cond c f g))
offer_cases b c f g P x y = grind (arith, nat_tests)

module _ {T : Type 0} where
  pub has_from_items : (key : ℕ) (qs : List (Queue T)) → 1 ≤ length (items_of key qs) → has_key key qs ≡ true
  has_from_items key qs h = by_test (has_key key qs) (λ b. b ≡ true) (λ _. refl) (λ e. absurd (omega (arith, h, ap length (items_of_none key qs e))))

  module _ (measure : T → ℕ) (l : DrrLimits) where
    -- fair queues under these limits, where so many items wait under the key, whose first n have r bytes
    pub record Waits (key n r : ℕ) (f : Fair T) : Type 0 where
      pub fair : IsFair measure f
      pub limits : f.limits ≡ l
      pub enough : n ≤ length (items_of key f.queues)
      pub bytes : bytes_in measure (take n (items_of key f.queues)) ≡ r

    pub more_items : (key n r : ℕ) (xs ys : List T) (x : T) → ys ≡ xs ++ x ∷ [] → n ≤ length xs → bytes_in measure (take n xs) ≡ r → (n ≤ length ys) × (bytes_in measure (take n ys) ≡ r)
    more_items key n r xs ys x e h b = grind (arith, nat_tests, length-append xs (x ∷ []), take-append-le n xs (x ∷ []))

    items-put : (key n r k : ℕ) (x : T) (qs : List (Queue T)) → n ≤ length (items_of key qs) → bytes_in measure (take n (items_of key qs)) ≡ r
        → (n ≤ length (items_of key (put l.quantum k x qs))) × (bytes_in measure (take n (items_of key (put l.quantum k x qs))) ≡ r)
    items-put key n r k x qs h b = grind (arith, nat_tests, goes_last l l.quantum k x qs, more_items key n r (items_of key qs) (items_of key (put l.quantum k x qs)) x)

    pub waits-offer : (key n r k : ℕ) (x : T) (qs : List (Queue T)) → (1 ≤ measure x) × (measure x ≤ l.max) → Waits key n r (fair l qs) → Waits key n r (offer_leaves measure (fair l qs) k x)
    waits-offer key n r k x qs m w =
        offer_cases (lacks_queue (fair l qs) k) (lacks_room measure (fair l qs) k x) (fair l qs) (fair l (put l.quantum k x qs)) (λ g. Waits key n r g) w
        (λ e d.
        let i = items-put key n r k x qs w.enough w.bytes in
        record { fair = (keeps-offer measure l (all_bytes measure qs) k qs x w.fair refl m e d).0; limits = refl; enough = i.0; bytes = i.1 })

    some_first : (xs : List T) → 1 ≤ length xs → (x : T) × ((first xs ≡ Some x) × (first_bytes measure xs ≡ measure x))
    some_first [] h = absurd (omega arith)
    some_first (x ∷ xs) h = (x, (refl, refl))

    -- what a front's take gives
    pub some_head : (qs : List (Queue T)) → AreFair measure l qs → (key : ℕ) → has_key key qs ≡ true → (x : T) × ((head qs ≡ Some x) × (head_bytes measure qs ≡ measure x))
    some_head qs f key h = grind (arith, nat_tests, some_first)

    pub fair_taken : (qs : List (Queue T)) (x : T) → IsFair measure (fair l qs) → head qs ≡ Some x → IsFair measure (fair l (taken measure l.quantum qs))
    fair_taken qs x f e = (keeps-taken measure l (all_bytes measure qs) qs x f refl e).0

    -- a take of another key's item
    waits-other : (key n r : ℕ) (q : Queue T) (qs : List (Queue T)) (x : T) → head (q ∷ qs) ≡ Some x → (q.key ≡ key → ⊥) → Waits key n r (fair l (q ∷ qs)) → Waits key n r (fair l (taken measure l.quantum (q ∷ qs)))
    waits-other key n r q qs x e m w = grind (arith, nat_tests, goes_first measure l.quantum l q.key (q ∷ qs) x w.fair.queues.each refl e, fair_taken (q ∷ qs) x)

    pub one_less : (n r : ℕ) (x : T) (xs ys : List T) → xs ≡ x ∷ ys → suc n ≤ length xs → bytes_in measure (take (suc n) xs) ≡ r → (n ≤ length ys) × (measure x + bytes_in measure (take n ys) ≡ r)
    one_less n r x xs ys e h b = grind (arith, nat_tests, sum_by-cons measure x (take n ys))

    pub next_le : (n : ℕ) (ys : List T) → 1 ≤ n → n ≤ length ys → first_bytes measure ys ≤ bytes_in measure (take n ys)
    next_le n ys h k = grind (arith, nat_tests, sum_by-cons)

    -- a take of its own
    waits-own : (key n r : ℕ) (q : Queue T) (qs : List (Queue T)) (x : T) → head (q ∷ qs) ≡ Some x → q.key ≡ key → Waits key (suc n) r (fair l (q ∷ qs))
        → (left : ℕ) × ((measure x + left ≡ r) × (Waits key n left (fair l (taken measure l.quantum (q ∷ qs))) × (1 ≤ n → first_bytes measure (items_of key (taken measure l.quantum (q ∷ qs))) ≤ left)))
    waits-own key n r q qs x e m w = grind (arith, nat_tests, (goes_first measure l.quantum l q.key (q ∷ qs) x w.fair.queues.each refl e), (one_less n r x (items_of key (q ∷ qs))), (fair_taken (q ∷ qs) x w.fair e), (next_le n))

    pub ahead_enough : (key r : ℕ) (qs : List (Queue T)) → r ≤ bytes_ahead l key r qs
    ahead_enough key r qs = omega arith

    until_own : (key n r left : ℕ) (q : Queue T) (qs : List (Queue T)) (ss : List (Step T)) (x : T) → head_bytes measure (q ∷ qs) ≡ measure x → measure x + left ≡ r → eqb q.key key ≡ true → Waits key (suc n) r (fair l (q ∷ qs))
        → Waits key n left (fair l (taken measure l.quantum (q ∷ qs))) → (1 ≤ n → first_bytes measure (items_of key (taken measure l.quantum (q ∷ qs))) ≤ left)
        → bytes_until measure key n (fair l (taken measure l.quantum (q ∷ qs))) ss ≤ bytes_ahead l key left (taken measure l.quantum (q ∷ qs))
        → head_bytes measure (q ∷ qs) + bytes_until measure key n (fair l (taken measure l.quantum (q ∷ qs))) ss ≤ bytes_ahead l key r (q ∷ qs)
    until_own key zero r left q qs ss x h s t w v m k = omega (arith, h, s, ahead_enough key r (q ∷ qs))
    until_own key (suc n) r left q qs ss x h s t w v m k =
        let there = has_from_items key (q ∷ qs) (omega (arith, w.enough)) in
        let f : IsLeft measure l key r left (q ∷ qs) = subst (λ b. MatchBool b ((head_bytes measure (q ∷ qs) + left ≡ r) × (first_bytes measure (items_of key (taken measure l.quantum (q ∷ qs))) ≤ left)) (left ≡ r)) (sym t) (omega (arith, h, s), m (omega arith)) in
        omega (arith, k, taken_falls measure l key r left (q ∷ qs) w.fair.limits w.fair.queues there (has_from_items key (taken measure l.quantum (q ∷ qs)) (omega (arith, v.enough))) f)

    -- up to the n-th item no more goes than the measure
    until_le : (key n r : ℕ) (qs : List (Queue T)) (ss : List (Step T)) → AreOffers measure l.max ss → Waits key n r (fair l qs) → bytes_until measure key n (fair l qs) ss ≤ bytes_ahead l key r qs
    until_le key zero r qs ss o w = omega arith
    until_le key (suc n) r qs [] o w = omega arith
    until_le key (suc n) r qs (Offer k x ∷ ss) o w =
        let there = has_from_items key qs (omega (arith, w.enough)) in
        let next = waits-offer key (suc n) r k x qs o.0 w in
        offer_cases (lacks_queue (fair l qs) k) (lacks_room measure (fair l qs) k x) (fair l qs) (fair l (put l.quantum k x qs))
        (λ g. Waits key (suc n) r g → bytes_ahead l key r g.queues ≡ bytes_ahead l key r qs → bytes_until measure key (suc n) g ss ≤ bytes_ahead l key r qs)
        (λ v e. until_le key (suc n) r qs ss o.1 v)
        (λ _ _ v e. omega (arith, until_le key (suc n) r (put l.quantum k x qs) ss o.1 v, e))
        next (ahead-offer measure l key r k x qs there)
    until_le key (suc n) r [] (Take ∷ ss) o w = absurd (omega (arith, w.enough))
    until_le key (suc n) r (q ∷ qs) (Take ∷ ss) o w =
        let there = has_from_items key (q ∷ qs) (omega (arith, w.enough)) in
        let p = some_head (q ∷ qs) w.fair.queues key there in
        by_key q.key key (λ b. (eqb q.key key ≡ b) → head_bytes measure (q ∷ qs) + bytes_until measure key (cond b n (suc n)) (fair l (taken measure l.quantum (q ∷ qs))) ss ≤ bytes_ahead l key r (q ∷ qs))
        (λ e t.
        let c = waits-own key n r q qs p.0 p.1.0 e w in
        until_own key n r c.0 q qs ss p.0 p.1.1 c.1.0 t w c.1.1.0 c.1.1.1 (until_le key n c.0 (taken measure l.quantum (q ∷ qs)) ss o c.1.1.0))
        (λ m t.
        let v = waits-other key (suc n) r q qs p.0 p.1.0 m w in
        let k : IsLeft measure l key r r (q ∷ qs) = subst (λ b. MatchBool b ((head_bytes measure (q ∷ qs) + r ≡ r) × (first_bytes measure (items_of key (taken measure l.quantum (q ∷ qs))) ≤ r)) (r ≡ r)) (sym t) refl in
        omega (
          arith,
          until_le key (suc n) r (taken measure l.quantum (q ∷ qs)) ss o v,
          taken_falls measure l key r r (q ∷ qs) w.fair.limits w.fair.queues there (has_from_items key (taken measure l.quantum (q ∷ qs)) (omega (arith, v.enough))) k,
        ))
        refl

    pub some_bytes : (n : ℕ) (xs : List T) → 1 ≤ n → n ≤ length xs → AreMeasured measure l xs → 1 ≤ bytes_in measure (take n xs)
    some_bytes n xs h k m = grind (arith, nat_tests, sum_by-cons)

    pub measured_items : (key : ℕ) (qs : List (Queue T)) → AreQueues measure l qs → AreMeasured measure l (items_of key qs)
    measured_items key [] f = tt
    measured_items key (q ∷ qs) f = by_test (eqb q.key key) (λ b. AreMeasured measure l (cond b q.items (items_of key qs))) (λ _. f.0.measured) (λ _. measured_items key qs f.2)

    -- nor more than the bound
    pub until_most : (key n : ℕ) (qs : List (Queue T)) (ss : List (Step T)) → IsFair measure (fair l qs) → AreOffers measure l.max ss → n ≤ length (items_of key qs)
        → bytes_until measure key n (fair l qs) ss ≤ most_until l (bytes_in measure (take n (items_of key qs)))
    until_most key zero qs ss f o h = omega arith
    until_most key (suc n) qs ss f o h =
        let there = has_from_items key qs (omega arith) in
        let some : 1 ≤ bytes_in measure (take (suc n) (items_of key qs)) = some_bytes (suc n) (items_of key qs) (omega arith) h (measured_items key qs f.queues.each) in
        omega (arith, until_le key (suc n) (bytes_in measure (take (suc n) (items_of key qs))) qs ss o (record { fair = f; limits = refl; enough = h; bytes = refl }), ahead_most measure l key (bytes_in measure (take (suc n) (items_of key qs))) qs f.limits f.queues there some)
