-- What two-level queues send next: an offer leaves it, a take of it leaves the other items, and it is ahead of what any two
-- keys have yet to send.
use Rattle.tva_drr.proofs.Common.{◌≡◌, ℕ, ◌≤◌, true, List, [], ◌∷◌, length, Some, refl, subst, arith, nat_tests, MatchBool, DrrLimits, Fair, fair, has_key, put, lacks_queue, lacks_room, offer_leaves, AreQueues, is_front, first_bytes, head_bytes, Group, Hier, hier, inner_limits, queues_of, items_under, next, lacks_place, lacks_space, put_under, left_by_offer, groups_taken, left_by_take, IsHier, bytes_ahead_under, are_front, next_bytes}
use Rattle.tva_drr.proofs.Falling.{by_test, front_ahead}
use Rattle.tva_drr.proofs.Until.{offer_cases}
use Rattle.tva_drr.proofs.Keeping.{head_some, head_there, head-put, inner_there, hier-taken}
use Rattle.tva_drr.proofs.Orders.{goes_first_under}
use Rattle.tva_drr.proofs.Aheads.{has_group_from, next_ahead_of}
use Rattle.tva_drr.proofs.Untils.{front_both, front_apart, front_key}

module _ {T : Type 0} (measure : T → ℕ) (l : DrrLimits) (inner : ℕ) where
  -- the bytes of the next item
  pub next_some : (gs : List (Group T)) (x : T) → next gs ≡ Some x → next_bytes measure gs ≡ measure x
  next_some gs x e = grind (arith, nat_tests, head_some)

  -- where there are groups there is a next item
  pub next_there : (gs : List (Group T)) → IsHier measure (hier l inner gs) → 1 ≤ length gs
      → (x : T) × ((next gs ≡ Some x) × (next_bytes measure gs ≡ measure x))
  next_there gs h n = grind (arith, nat_tests, head_there)

  -- where something waits under two keys there are groups
  pub groups_there : (outer key : ℕ) (gs : List (Group T))
      → has_key key (queues_of (inner_limits l inner) outer gs).queues ≡ true
      → 1 ≤ length gs
  groups_there outer key [] h = absurd (cc)
  groups_there outer key (g ∷ gs) h = omega arith

  -- ## an offer

  head-left : (m : DrrLimits) (f : Fair T) (key : ℕ) (x : T) → AreQueues measure m f.queues → 1 ≤ length f.queues
      → head_bytes measure (offer_leaves measure f key x).queues ≡ head_bytes measure f.queues
  head-left m f key x a n = grind (arith, nat_tests, offer_cases (lacks_queue f key) (lacks_room measure f key x) f (fair f.limits (put f.limits.quantum key x f.queues)) (λ (z : Fair T). head_bytes measure z.queues ≡ head_bytes measure f.queues), head-put measure m f.limits.quantum key x f.queues a n)

  pub next-offered : (o i : ℕ) (x : T) (gs : List (Group T)) → IsHier measure (hier l inner gs) → 1 ≤ length gs
      → next_bytes measure (left_by_offer measure (hier l inner gs) o i x).groups ≡ next_bytes measure gs
  next-offered o i x [] h n = absurd (omega arith)
  next-offered o i x (g ∷ gs) h n =
      let a = h.groups.each.0 in
      offer_cases (lacks_place (hier l inner (g ∷ gs)) o i) (lacks_space measure (hier l inner (g ∷ gs)) o i x)
      (hier l inner (g ∷ gs))
      (hier l inner (put_under measure (hier l inner (g ∷ gs)) o i x))
      (λ (z : Hier T). next_bytes measure z.groups ≡ next_bytes measure (g ∷ gs)) refl
      (λ _ _. grind (arith, nat_tests, head-left g.queues.limits g.queues i x a.fair.queues.each a.filled))

  -- ## a take

  pub hier_taken : (gs : List (Group T)) → IsHier measure (hier l inner gs)
      → IsHier measure (left_by_take measure (hier l inner gs))
  hier_taken gs h = grind (arith, nat_tests, hier-taken measure l inner gs h.limits h.groups)

  -- the item was the first under its keys, and the items under all others stay
  pub taken_under : (outer key : ℕ) (gs : List (Group T)) (x : T) → IsHier measure (hier l inner gs) → next gs ≡ Some x
      → MatchBool (are_front outer key gs)
      (items_under (hier l inner gs) outer key ≡ x ∷ items_under (left_by_take measure (hier l inner gs)) outer key)
      (items_under (left_by_take measure (hier l inner gs)) outer key ≡ items_under (hier l inner gs) outer key)
  taken_under outer key [] x h e = absurd (cc)
  taken_under outer key (g ∷ gs) x h e =
      let old : Hier T = hier l inner (g ∷ gs) in
      let new : Hier T = hier l inner (groups_taken measure l.quantum (g ∷ gs)) in
      let k = front_key measure l inner g.queues.queues h.groups.each.0.filled in
      let goes = goes_first_under measure l inner g.key k.0 (g ∷ gs) x h.groups.each (refl, k.1.0) e in
      by_test (are_front outer key (g ∷ gs))
      (λ b. are_front outer key (g ∷ gs) ≡ b → MatchBool b (items_under old outer key ≡ x ∷ items_under new outer key)
      (items_under new outer key ≡ items_under old outer key))
      (λ _ t.
      let both = front_both g.key outer key k.0 (is_front key g.queues.queues) (k.1.1 key) t in
      subst (λ z. items_under old z key ≡ x ∷ items_under new z key) both.0
      (subst (λ z. items_under old g.key z ≡ x ∷ items_under new g.key z) both.1 goes.own))
      (λ _ t. goes.others outer key (front_apart g.key outer key k.0 (is_front key g.queues.queues) (k.1.1 key) t))
      refl

  -- ## what is ahead

  -- the next item is ahead of so many bytes that two keys have yet to send
  pub next_ahead : (outer key bytes : ℕ) (gs : List (Group T)) → IsHier measure (hier l inner gs)
      → has_key key (queues_of (inner_limits l inner) outer gs).queues ≡ true
      → first_bytes measure (items_under (hier l inner gs) outer key) ≤ bytes
      → next_bytes measure gs ≤ bytes_ahead_under (hier l inner gs) outer key bytes
  next_ahead outer key bytes gs h t n = grind (arith, nat_tests, has_group_from, next_ahead_of, inner_there, front_ahead)
