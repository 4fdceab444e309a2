-- What is true of two-level queues stays true after an offer and after a take.
use Rattle.tva_drr.proofs.Common.{◌≡◌, ℕ, ◌+◌, ◌-◌, ◌<◌, ◌≤◌, ◌^◌, suc, true, false, leb, Some, List, [], ◌∷◌, ◌++◌, length, refl, ap, arith, length-append, nat_tests, sum_by-cons, sum_by_push, All, AllByRecursion, All-from_recursion, DrrLimits, AreDrrLimits, Queue, Fair, fair, first, head, all_bytes, put, lacks_queue, lacks_room, offer_leaves, taken, AreMeasured, AreQueues, IsFair, first_bytes, head_bytes, Group, group, hier, inner_limits, has_group, queues_of, group_bytes, all_group_bytes, next, lacks_group, lacks_place, lacks_space, changed, group_refilled, front_popped, group_settled, groups_taken, AreInner, AreGroups, AreGroupsBehind, HasGroupTurn, AreHier, IsHier}
use Rattle.tva_drr.proofs.Keeps.{keeps-offer, fair-taken, all_bytes-taken}
use Rattle.tva_drr.proofs.GroupLists.{none_true, has_group-push, has_group-changed, length-changed, bytes-changed, offered_is}

-- ## the limits of one group

pub limits_inner : (l : DrrLimits) (inner : ℕ) → AreDrrLimits l → (1 ≤ inner) × (inner ≤ 2 ^ 30) → AreDrrLimits (inner_limits l inner)
limits_inner l inner a i = grind (arith, nat_tests)

module _ {T : Type 0} (measure : T → ℕ) where
  -- ## what fair queues send next

  first_some : (xs : List T) (x : T) → first xs ≡ Some x → first_bytes measure xs ≡ measure x
  first_some xs x h = grind (arith, nat_tests)

  pub head_some : (qs : List (Queue T)) (x : T) → head qs ≡ Some x → head_bytes measure qs ≡ measure x
  head_some qs x h = grind (arith, nat_tests, first_some)

  first_most : (m : DrrLimits) (xs : List T) → AreMeasured measure m xs → first_bytes measure xs ≤ m.max
  first_most m xs h = grind (arith, nat_tests)

  pub head_most : (m : DrrLimits) (qs : List (Queue T)) → AreQueues measure m qs → head_bytes measure qs ≤ m.max
  head_most m qs h = grind (arith, nat_tests, first_most)

  first_there : (xs : List T) → 1 ≤ length xs → (x : T) × ((first xs ≡ Some x) × (first_bytes measure xs ≡ measure x))
  first_there [] h = absurd (omega arith)
  first_there (x ∷ xs) h = (x, (refl, refl))

  -- where something waits there is a next item
  pub head_there : (m : DrrLimits) (qs : List (Queue T)) → AreQueues measure m qs → 1 ≤ length qs
      → (x : T) × ((head qs ≡ Some x) × (head_bytes measure qs ≡ measure x))
  head_there m [] a h = absurd (omega arith)
  head_there m (q ∷ qs) a h = first_there q.items a.0.filled

  first-push : (xs : List T) (x : T) → 1 ≤ length xs → first_bytes measure (xs ++ x ∷ []) ≡ first_bytes measure xs
  first-push [] x h = absurd (omega arith)
  first-push (y ∷ ys) x h = refl

  some-put : (start key : ℕ) (x : T) (qs : List (Queue T)) → 1 ≤ length (put start key x qs)
  some-put start key x [] = omega arith
  some-put start key x (q ∷ qs) = grind (arith, nat_tests)

  -- an item that is put behind others isn't sent next
  pub head-put : (m : DrrLimits) (start key : ℕ) (x : T) (qs : List (Queue T)) → AreQueues measure m qs → 1 ≤ length qs
      → head_bytes measure (put start key x qs) ≡ head_bytes measure qs
  head-put m start key x qs a h = grind (arith, nat_tests, first-push)

  module _ (l : DrrLimits) (inner : ℕ) where
    -- ## an offer

    pub inner_empty : AreDrrLimits l → (1 ≤ inner) × (inner ≤ 2 ^ 30) → IsFair measure (fair (inner_limits l inner) [])
    inner_empty a i = grind (arith, nat_tests, limits_inner)

    pub inner_of : (key : ℕ) (gs : List (Group T)) → AreDrrLimits l → (1 ≤ inner) × (inner ≤ 2 ^ 30) → AreGroups measure l inner gs
        → ((queues_of (inner_limits l inner) key gs).limits ≡ inner_limits l inner)
        × IsFair measure (queues_of (inner_limits l inner) key gs)
    inner_of key [] a i h = (refl, inner_empty a i)
    inner_of key (g ∷ gs) a i h = grind (arith, nat_tests, inner_of key gs a i h.2)

    -- its queues where it has a group
    pub inner_there : (key : ℕ) (gs : List (Group T)) → AreGroups measure l inner gs → has_group key gs ≡ true
        → AreInner measure l inner (queues_of (inner_limits l inner) key gs)
    inner_there key [] h t = absurd (cc)
    inner_there key (g ∷ gs) h t = grind (arith, nat_tests, inner_there key gs h.2)

    -- an item that is queued there
    inner-offered : (f : Fair T) (key : ℕ) (x : T) → f.limits ≡ inner_limits l inner → IsFair measure f
        → (1 ≤ measure x) × (measure x ≤ l.max) → lacks_queue f key ≡ false → lacks_room measure f key x ≡ false
        → AreInner measure l inner (offer_leaves measure f key x)
        × (all_bytes measure (offer_leaves measure f key x).queues ≡ all_bytes measure f.queues + measure x)
    inner-offered f key x e i m h r = grind (arith, nat_tests, keeps-offer measure f.limits (all_bytes measure f.queues) key f.queues x i, offered_is measure f key x h r, some-put f.limits.quantum key x f.queues)

    groups-changed : (change : Fair T → Fair T) (start outer : ℕ) (gs : List (Group T))
        → AreInner measure l inner (change (queues_of (inner_limits l inner) outer gs)) → AreGroups measure l inner gs
        → AreGroups measure l inner (changed change (inner_limits l inner) start outer gs)
    groups-changed change start outer [] w h = (w, refl, tt)
    groups-changed change start outer (p ∷ gs) w h = grind (arith, nat_tests, has_group-changed p.key change (inner_limits l inner) 0 outer gs, groups-changed change 0 outer gs)

    behind-changed : (change : Fair T → Fair T) (outer : ℕ) (gs : List (Group T)) → 1 ≤ l.max → AreGroupsBehind measure l inner gs
        → AreGroupsBehind measure l inner (changed change (inner_limits l inner) 0 outer gs)
    behind-changed change outer [] m h = (m, tt)
    behind-changed change outer (p ∷ gs) m h = grind (arith, nat_tests, behind-changed change outer gs m h.1)

    -- what the front sends next stays, or it is new and has the quantum
    turn-changed : (change : Fair T → Fair T) (outer : ℕ) (gs : List (Group T)) → 1 ≤ l.max
        → (has_group outer gs ≡ false → head_bytes measure (change (queues_of (inner_limits l inner) outer gs)).queues ≤ l.quantum)
        → (has_group outer gs ≡ true
        → head_bytes measure (change (queues_of (inner_limits l inner) outer gs)).queues
        ≤ head_bytes measure (queues_of (inner_limits l inner) outer gs).queues) → HasGroupTurn measure l inner gs
        → HasGroupTurn measure l inner (changed change (inner_limits l inner) l.quantum outer gs)
    turn-changed change outer gs m new old h = grind (arith, nat_tests, behind-changed)

    few-changed : (change : Fair T → Fair T) (start outer : ℕ) (gs : List (Group T)) → lacks_group (hier l inner gs) outer ≡ false
        → length gs ≤ l.queues → length (changed change (inner_limits l inner) start outer gs) ≤ l.queues
    few-changed change start outer gs h n = grind (arith, nat_tests, length-changed change (inner_limits l inner) start outer gs)

    head-offered : (f : Fair T) (key : ℕ) (x : T) → AreInner measure l inner f → lacks_queue f key ≡ false
        → lacks_room measure f key x ≡ false → head_bytes measure (offer_leaves measure f key x).queues ≤ head_bytes measure f.queues
    head-offered f key x a h r = grind (arith, nat_tests, offered_is measure f key x h r, head-put f.limits f.limits.quantum key x f.queues a.fair.queues.each a.filled)

    -- an offer that is queued keeps what is true
    pub keeps-offered : (b outer key : ℕ) (gs : List (Group T)) (x : T) → IsHier measure (hier l inner gs)
        → b ≡ all_group_bytes measure gs → (1 ≤ measure x) × (measure x ≤ l.max) → lacks_place (hier l inner gs) outer key ≡ false
        → lacks_space measure (hier l inner gs) outer key x ≡ false
        → IsHier measure (hier l inner (changed (λ f. offer_leaves measure f key x) (inner_limits l inner) l.quantum outer gs))
        × (b + measure x ≡ all_group_bytes measure
        (changed (λ f. offer_leaves measure f key x) (inner_limits l inner) l.quantum outer gs))
    keeps-offered b outer key gs x h e m p s =
        let place = none_true (lacks_group (hier l inner gs) outer) (lacks_queue (queues_of (inner_limits l inner) outer gs) key) p in
        let space = none_true (lacks_room measure (queues_of (inner_limits l inner) outer gs) key x)
        (leb (suc l.class_bytes) (all_group_bytes measure gs + measure x)) s in
        let fits : all_group_bytes measure gs + measure x ≤ l.class_bytes = grind (arith, nat_tests, space.1) in
        let o = inner_of outer gs h.limits h.inner h.groups.each in
        let i = inner-offered (queues_of (inner_limits l inner) outer gs) key x o.0 o.1 m place.1 space.0 in
        let bytes = bytes-changed measure (λ f. offer_leaves measure f key x) (inner_limits l inner) l.quantum outer (measure x) gs i.1 in
        let most : head_bytes measure (offer_leaves measure (queues_of (inner_limits l inner) outer gs) key x).queues ≤ l.quantum = omega (
          arith,
          ap (λ (z : DrrLimits). z.max) i.0.limits,
          h.limits.quantum,
          head_most
              (offer_leaves measure (queues_of (inner_limits l inner) outer gs) key x).limits
              (offer_leaves measure (queues_of (inner_limits l inner) outer gs) key x).queues i.0.fair.queues.each,
        ) in (
          record {
            limits = h.limits;
            inner = h.inner;
            groups = record {
              few = few-changed (λ f. offer_leaves measure f key x) l.quantum outer gs place.0 h.groups.few;
              each = groups-changed (λ f. offer_leaves measure f key x) l.quantum outer gs i.0 h.groups.each;
              turn = turn-changed (λ f. offer_leaves measure f key x) outer gs h.limits.max (λ _. most)
                  (λ t. head-offered (queues_of (inner_limits l inner) outer gs) key x
                  (inner_there outer gs h.groups.each t) place.1 space.0) h.groups.turn;
              bytes = omega (arith, bytes, fits);
            };
          },
          omega (arith, bytes, e),
        )

    -- ## a take

    groups-push : (gs : List (Group T)) (g : Group T) → AreGroups measure l inner gs → AreInner measure l inner g.queues
        → has_group g.key gs ≡ false → AreGroups measure l inner (gs ++ g ∷ [])
    groups-push [] g h i n = (i, refl, tt)
    groups-push (p ∷ gs) g h i n = grind (arith, nat_tests, has_group-push p.key gs g h.1, groups-push gs g h.2 i)

    behind-push : (gs : List (Group T)) (g : Group T) → AreGroupsBehind measure l inner gs → g.deficit < l.max
        → AreGroupsBehind measure l inner (gs ++ g ∷ [])
    behind-push [] g h i = (i, tt)
    behind-push (p ∷ gs) g h i = (h.0, behind-push gs g h.1 i)

    -- what a group sends next is at most the greatest length
    pub next_most : (f : Fair T) → AreInner measure l inner f → head_bytes measure f.queues ≤ l.max
    next_most f a = omega (arith, head_most f.limits f.queues a.fair.queues.each, ap (λ (z : DrrLimits). z.max) a.limits)

    hier-refilled : (gs : List (Group T)) → AreDrrLimits l → length gs ≤ l.queues → AreGroups measure l inner gs
        → AreGroupsBehind measure l inner gs → all_group_bytes measure gs ≤ l.class_bytes
        → AreHier measure l inner (group_refilled l.quantum gs)
    hier-refilled gs v n h b s = grind (arith, nat_tests, sum_by-cons, next_most)

    hier-settled : (key deficit : ℕ) (m : DrrLimits) (qs : List (Queue T)) (gs : List (Group T)) → AreDrrLimits l
        → m ≡ inner_limits l inner → IsFair measure (fair m qs) → length gs + 1 ≤ l.queues → AreGroups measure l inner gs
        → has_group key gs ≡ false → AreGroupsBehind measure l inner gs → deficit < l.max + l.quantum
        → all_bytes measure qs + all_group_bytes measure gs ≤ l.class_bytes
        → AreHier measure l inner (group_settled measure l.quantum (group key deficit (fair m qs)) qs gs)
    hier-settled key deficit m [] gs v e f n h k b d s = hier-refilled gs v (omega arith) h b (omega arith)
    hier-settled key deficit m (q ∷ qs) gs v e f n h k b d s =
        let g : Group T = group key deficit (fair m (q ∷ qs)) in
        let whole : AreInner measure l inner (fair m (q ∷ qs)) = record { limits = e; fair = f; filled = omega arith } in
        let most : first_bytes measure q.items ≤ l.max = next_most (fair m (q ∷ qs)) whole in
        grind (arith, nat_tests, most, hier-refilled (gs ++ g ∷ []) v, length-append gs (g ∷ []), groups-push gs g h whole k, behind-push gs g b, sum_by_push (group_bytes measure) gs g, sum_by-cons (group_bytes measure) g gs)

    pub hier-taken : (gs : List (Group T)) → AreDrrLimits l → AreHier measure l inner gs
        → AreHier measure l inner (groups_taken measure l.quantum gs)
    hier-taken [] v h = h
    hier-taken (g ∷ gs) v h =
        let i = h.each.0 in
        let there = head_there g.queues.limits g.queues.queues i.fair.queues.each i.filled in
        let bytes = all_bytes-taken measure g.queues.limits g.queues.queues there.0 there.1.0 in
        hier-settled g.key (g.deficit - head_bytes measure g.queues.queues) g.queues.limits
        (taken measure g.queues.limits.quantum g.queues.queues) gs v i.limits
        (record { limits = i.fair.limits; queues = fair-taken measure g.queues.limits g.queues.queues i.fair.limits i.fair.queues })
        (omega (arith, h.few)) h.each.2 h.each.1 h.turn.2 (omega (arith, h.turn.1))
        (omega (arith, h.bytes, bytes, sum_by-cons (group_bytes measure) g gs))

    -- each group's deficit has room for the quantum, once the front's item is gone
    groups_behind-room : (gs : List (Group T)) → AreDrrLimits l → AreGroupsBehind measure l inner gs
        → AllByRecursion (λ g. g.deficit + l.quantum < 2 ^ 32) gs
    groups_behind-room [] v b = tt
    groups_behind-room (p ∷ gs) v b = (omega (arith, b.0, v.quantum), groups_behind-room gs v b.1)

    groups_room : (gs : List (Group T)) → AreDrrLimits l → AreHier measure l inner gs
        → AllByRecursion (λ g. g.deficit + l.quantum < 2 ^ 32) (front_popped measure gs)
    groups_room gs v h = grind (arith, nat_tests, groups_behind-room)

    pub all_groups_room : (gs : List (Group T)) → AreDrrLimits l → AreHier measure l inner gs
        → All (λ g. g.deficit + l.quantum < 2 ^ 32) (front_popped measure gs)
    all_groups_room gs v h = All-from_recursion (λ g. g.deficit + l.quantum < 2 ^ 32) (front_popped measure gs) (groups_room gs v h)

    -- the bytes of an item that goes
    bytes-refilled : (gs : List (Group T)) → all_group_bytes measure (group_refilled l.quantum gs) ≡ all_group_bytes measure gs
    bytes-refilled gs = grind (arith, nat_tests, sum_by-cons)

    bytes-settled : (key deficit : ℕ) (m : DrrLimits) (qs : List (Queue T)) (gs : List (Group T))
        → all_group_bytes measure (group_settled measure l.quantum (group key deficit (fair m qs)) qs gs)
        ≡ all_bytes measure qs + all_group_bytes measure gs
    bytes-settled key deficit m [] gs = omega (arith, bytes-refilled gs)
    bytes-settled key deficit m (q ∷ qs) gs = grind (arith, nat_tests, bytes-refilled (gs ++ group key deficit (fair m (q ∷ qs)) ∷ []), sum_by-cons (group_bytes measure) (group key deficit (fair m (q ∷ qs))) gs, sum_by_push (group_bytes measure) gs (group key deficit (fair m (q ∷ qs))))

    bytes-taken : (gs : List (Group T)) (x : T) → next gs ≡ Some x
        → all_group_bytes measure (groups_taken measure l.quantum gs) + measure x ≡ all_group_bytes measure gs
    bytes-taken [] x e = absurd (cc)
    bytes-taken (g ∷ gs) x e = grind (arith, nat_tests, all_bytes-taken measure g.queues.limits g.queues.queues x e, bytes-settled g.key (g.deficit - head_bytes measure g.queues.queues) g.queues.limits (taken measure g.queues.limits.quantum g.queues.queues) gs, sum_by-cons (group_bytes measure) g gs)

    -- a take keeps what is true
    pub keeps-groups_taken : (b : ℕ) (gs : List (Group T)) (x : T) → IsHier measure (hier l inner gs) → b ≡ all_group_bytes measure gs
        → next gs ≡ Some x → IsHier measure (hier l inner (groups_taken measure l.quantum gs))
        × (b - measure x ≡ all_group_bytes measure (groups_taken measure l.quantum gs))
    keeps-groups_taken b gs x h e f = grind (arith, nat_tests, (hier-taken gs h.limits h.groups), (bytes-taken gs x f))
