-- The bytes that go up to the n-th item under two keys, whatever is offered.
use Rattle.tva_drr.proofs.Common.{◌≡◌, ℕ, zero, suc, ◌+◌, ◌≤◌, Bool, true, false, cond, eqb, ◌&&◌, List, [], ◌∷◌, length, take, refl, sym, subst, leb, arith, nat_tests, DrrLimits, Queue, Fair, has_key, bytes_in, lacks_queue, lacks_room, IsFront, is_front, first_bytes, Group, Hier, hier, inner_limits, queues_of, all_group_bytes, items_under, lacks_group, lacks_place, lacks_space, put_under, left_by_offer, groups_taken, IsHier, GoesLastUnder, GoesFirstUnder, bytes_ahead_under, are_front, next_bytes, IsLeftUnder, bytes_until, most_until_under}
use Rattle.tva_drr.proofs.Falling.{by_test}
use Rattle.tva_drr.proofs.Until.{offer_cases, has_from_items, measured_items, more_items, one_less, next_le, some_bytes}
use Rattle.tva_drr.specs.GroupsAhead.{Step, Offer, Take, AreOffers}
use Rattle.tva_drr.proofs.GroupLists.{none_true}
use Rattle.tva_drr.proofs.Keeping.{head_there, inner_of, keeps-groups_taken}
use Rattle.tva_drr.proofs.Orders.{goes_last_under, goes_first_under}
use Rattle.tva_drr.proofs.Offering.{left_keeps}
use Rattle.tva_drr.proofs.Aheads.{falls_under, offer_under, most_under, enough_under}

-- both keys stand at the front, or one of them doesn't
pub front_both : (a outer key k : ℕ) (f : Bool) → f ≡ eqb k key → (eqb a outer && f) ≡ true → (a ≡ outer) × (k ≡ key)
front_both a outer key k f e t = grind (arith, nat_tests)

pub front_apart : (a outer key k : ℕ) (f : Bool) → f ≡ eqb k key → (eqb a outer && f) ≡ false → outer ≡ a → key ≡ k → ⊥
front_apart a outer key k f e t s q = grind (arith, nat_tests)

module _ {T : Type 0} (measure : T → ℕ) (l : DrrLimits) (inner : ℕ) where
  -- so many items wait under the keys, of which the first n have r bytes
  abbrev Wait : ℕ → ℕ → ℕ → ℕ → Hier T → Type 0
  Wait outer key n r h = (n ≤ length (items_under h outer key)) × (bytes_in measure (take n (items_under h outer key)) ≡ r)

  wait-last : (outer key n r o i : ℕ) (x : T) (old new : Hier T) → GoesLastUnder o i x old new → Wait outer key n r old
      → Wait outer key n r new
  wait-last outer key n r o i x old new g w = grind (arith, nat_tests, more_items measure l key n r (items_under old outer key) (items_under new outer key) x)

  wait-offer : (outer key n r o i : ℕ) (x : T) (gs : List (Group T)) → Wait outer key n r (hier l inner gs)
      → Wait outer key n r (left_by_offer measure (hier l inner gs) o i x)
  wait-offer outer key n r o i x gs w = grind (arith, nat_tests, goes_last_under measure l inner l.quantum o i x gs, none_true (lacks_group (hier l inner gs) o) (lacks_queue (queues_of (inner_limits l inner) o gs) i), none_true (lacks_room measure (queues_of (inner_limits l inner) o gs) i x) (leb (suc l.class_bytes) (all_group_bytes measure gs + measure x)), wait-last outer key n r o i x (hier l inner gs) (hier l inner (put_under measure (hier l inner gs) o i x)))

  pub front_key : (qs : List (Queue T)) → 1 ≤ length qs
      → (k : ℕ) × (IsFront k qs × ((key : ℕ) → is_front key qs ≡ eqb k key))
  front_key [] h = absurd (omega arith)
  front_key (q ∷ qs) h = (q.key, (refl, λ key. refl))

  first_within : (n r : ℕ) (ys : List T) → 1 ≤ n → n ≤ length ys → bytes_in measure (take n ys) ≡ r → first_bytes measure ys ≤ r
  first_within n r ys h k b = subst (λ z. first_bytes measure ys ≤ z) b (next_le measure l n ys h k)

  there : (outer key n r : ℕ) (gs : List (Group T)) → 1 ≤ n → Wait outer key n r (hier l inner gs)
      → has_key key (queues_of (inner_limits l inner) outer gs).queues ≡ true
  there outer key n r gs h w = has_from_items key (queues_of (inner_limits l inner) outer gs).queues (omega (arith, w.0))

  -- the n-th item itself is taken, or a later one waits
  until_own : (outer key n r left : ℕ) (g : Group T) (gs : List (Group T)) (ss : List (Step T)) → IsHier measure (hier l inner (g ∷ gs))
      → are_front outer key (g ∷ gs) ≡ true → left + next_bytes measure (g ∷ gs) ≡ r → Wait outer key (suc n) r (hier l inner (g ∷ gs))
      → Wait outer key n left (hier l inner (groups_taken measure l.quantum (g ∷ gs)))
      → bytes_until measure outer key n (hier l inner (groups_taken measure l.quantum (g ∷ gs))) ss
      ≤ bytes_ahead_under (hier l inner (groups_taken measure l.quantum (g ∷ gs))) outer key left
      → next_bytes measure (g ∷ gs) + bytes_until measure outer key n (hier l inner (groups_taken measure l.quantum (g ∷ gs))) ss
      ≤ bytes_ahead_under (hier l inner (g ∷ gs)) outer key r
  until_own outer key zero r left g gs ss h t s w v k = omega (arith, s, enough_under measure l inner outer key r (g ∷ gs))
  until_own outer key (suc n) r left g gs ss h t s w v k =
      let new : List (Group T) = groups_taken measure l.quantum (g ∷ gs) in
      let left_under : IsLeftUnder measure (hier l inner (g ∷ gs)) outer key r left = (
        subst (λ b. left + cond b (next_bytes measure (g ∷ gs)) 0 ≡ r) (sym t) s,
        first_within (suc n) left
            (items_under (hier l inner new) outer key) (omega arith) v.0 v.1,
      ) in
      omega (
        arith,
        k,
        falls_under measure l inner outer key r left (g ∷ gs) h (there outer key (suc (suc n)) r (g ∷ gs) (omega arith) w)
            (there outer key (suc n) left new (omega arith) v) left_under,
      )

  -- what is taken of the front's keys, and what stays of all others
  taken_first : (g : Group T) (gs : List (Group T)) → IsHier measure (hier l inner (g ∷ gs))
      → (k : ℕ) × ((x : T) × ((next_bytes measure (g ∷ gs) ≡ measure x) × (((key : ℕ) → is_front key g.queues.queues ≡ eqb k key)
      × GoesFirstUnder g.key k x (hier l inner (g ∷ gs)) (hier l inner (groups_taken measure l.quantum (g ∷ gs)))
      × IsHier measure (hier l inner (groups_taken measure l.quantum (g ∷ gs))))))
  taken_first g gs h =
      let i = h.groups.each.0 in
      let x = head_there measure g.queues.limits g.queues.queues i.fair.queues.each i.filled in
      let k = front_key g.queues.queues i.filled in (
        k.0,
        (
          x.0,
          (
            x.1.1,
            (
              k.1.1,
              goes_first_under measure l inner g.key k.0 (g ∷ gs) x.0 h.groups.each (refl, k.1.0) x.1.0,
              (keeps-groups_taken measure l inner (all_group_bytes measure (g ∷ gs)) (g ∷ gs) x.0 h refl x.1.0).0,
            ),
          ),
        ),
      )

  -- up to the n-th item no more goes than the measure
  until_le : (outer key n r : ℕ) (gs : List (Group T)) (ss : List (Step T)) → AreOffers measure l.max ss
      → IsHier measure (hier l inner gs) → Wait outer key n r (hier l inner gs)
      → bytes_until measure outer key n (hier l inner gs) ss ≤ bytes_ahead_under (hier l inner gs) outer key r
  until_le outer key zero r gs ss o h w = omega arith
  until_le outer key (suc n) r gs [] o h w = omega arith
  until_le outer key (suc n) r gs (Offer p i x ∷ ss) o h w =
      let here = there outer key (suc n) r gs (omega arith) w in
      offer_cases (lacks_place (hier l inner gs) p i) (lacks_space measure (hier l inner gs) p i x) (hier l inner gs)
      (hier l inner (put_under measure (hier l inner gs) p i x))
      (λ z. IsHier measure z → Wait outer key (suc n) r z → bytes_ahead_under z outer key r ≡ bytes_ahead_under
      (hier l inner gs) outer key r → bytes_until measure outer key (suc n) z ss ≤ bytes_ahead_under (hier l inner gs) outer key r)
      (λ j v e. until_le outer key (suc n) r gs ss o.1 j v)
      (λ _ _ j v e. omega (arith, until_le outer key (suc n) r (put_under measure (hier l inner gs) p i x) ss o.1 j v, e))
      (left_keeps measure (hier l inner gs) p i x h o.0) (wait-offer outer key (suc n) r p i x gs w)
      (offer_under measure l inner outer key r p i x gs h here)
  until_le outer key (suc n) r [] (Take ∷ ss) o h w = absurd (omega (arith, w.0))
  until_le outer key (suc n) r (g ∷ gs) (Take ∷ ss) o h w =
      let new : List (Group T) = groups_taken measure l.quantum (g ∷ gs) in
      let taken = taken_first g gs h in
      let k : ℕ = taken.0 in
      let x : T = taken.1.0 in
      let more = taken.1.1.1 in
      by_test (are_front outer key (g ∷ gs)) (λ b. are_front outer key (g ∷ gs) ≡ b → next_bytes measure
      (g ∷ gs) + bytes_until measure outer key (cond b n (suc n)) (hier l inner new) ss ≤ bytes_ahead_under
      (hier l inner (g ∷ gs)) outer key r)
      (λ _ t.
      let both = front_both g.key outer key k (is_front key g.queues.queues) (more.0 key) t in
      let own : items_under (hier l inner (g ∷ gs)) outer key ≡ x ∷ items_under (hier l inner new) outer key =
      subst (λ z. items_under (hier l inner (g ∷ gs)) z key ≡ x ∷ items_under (hier l inner new) z key) both.0
      (subst (λ z. items_under (hier l inner (g ∷ gs)) g.key z ≡ x ∷ items_under (hier l inner new) g.key z) both.1 more.1.own) in
      let less = one_less measure l n r x (items_under (hier l inner (g ∷ gs)) outer key) (items_under (hier l inner new) outer key) own w.0 w.1 in
      let left : ℕ = bytes_in measure (take n (items_under (hier l inner new) outer key)) in
      until_own outer key n r left g gs ss h t (omega (arith, less.1, taken.1.1.0)) w (less.0, refl)
      (until_le outer key n left new ss o more.2 (less.0, refl)))
      (λ _ t.
      let apart : outer ≡ g.key → key ≡ k → ⊥ = front_apart g.key outer key k (is_front key g.queues.queues) (more.0 key) t in
      let v : Wait outer key (suc n) r (hier l inner new) = subst (λ zs. (suc n ≤ length zs) × (bytes_in measure (take (suc n) zs) ≡ r))
      (sym (more.1.others outer key apart)) w in
      let stays : IsLeftUnder measure (hier l inner (g ∷ gs)) outer key r r = (
        subst (λ b. r + cond b (next_bytes measure (g ∷ gs)) 0 ≡ r) (sym t) (omega arith),
        first_within (suc n) r
            (items_under (hier l inner new) outer key) (omega arith) v.0 v.1,
      ) in
      omega (
        arith,
        until_le outer key (suc n) r new ss o more.2 v,
        falls_under measure l inner outer key r r (g ∷ gs) h (there outer key (suc n) r (g ∷ gs) (omega arith) w)
            (there outer key (suc n) r new (omega arith) v) stays,
      ))
      refl

  -- nor more than the bound
  pub until_most : (outer key n : ℕ) (gs : List (Group T)) (ss : List (Step T)) → IsHier measure (hier l inner gs)
      → AreOffers measure l.max ss → n ≤ length (items_under (hier l inner gs) outer key)
      → bytes_until measure outer key n (hier l inner gs) ss
      ≤ most_until_under l inner (bytes_in measure (take n (items_under (hier l inner gs) outer key)))
  until_most outer key zero gs ss h o n = omega arith
  until_most outer key (suc k) gs ss h o n =
      let f : Fair T = queues_of (inner_limits l inner) outer gs in
      let i = inner_of measure l inner outer gs h.limits h.inner h.groups.each in
      let r : ℕ = bytes_in measure (take (suc k) (items_under (hier l inner gs) outer key)) in
      let some : 1 ≤ r = some_bytes measure f.limits (suc k) (items_under (hier l inner gs) outer key) (omega arith) n
      (measured_items measure f.limits key f.queues i.1.queues.each) in
      omega (
        arith,
        until_le outer key (suc k) r gs ss o h (n, refl),
        most_under measure l inner outer key r gs h
            (there outer key (suc k) r gs (omega arith) (n, refl)) some,
      )
