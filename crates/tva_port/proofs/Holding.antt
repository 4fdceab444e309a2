-- What holds of each packet that is offered holds of those that wait, and of the next.
use Rattle.tva_port.proofs.Common.{◌≡◌, ℕ, ◌-◌, Bool, true, false, cond, List, [], ◌∷◌, ◌++◌, Option, Some, None, subst, nat_lt, AllByRecursion, DrrLimits, LinkLimits, PacketData, packet_length, inner_key_of, Queue, Fair, fair, first, head, put, offer_leaves, refilled, popped, settled, front_settled, taken, take_leaves, first_bytes, Group, Hier, inner_limits, next, changed, left_by_offer, group_refilled, group_settled, groups_taken, RequestQueues, OneLevel, TwoLevels, none_under, no_requests, next_in, request_leaves, request_taken, arith, nat_tests}

each_more : {A : Type 0} (P : A → Type 0) (xs : List A) (x : A) → AllByRecursion P xs → P x
    → AllByRecursion P (xs ++ x ∷ [])
each_more P [] x h k = (k, tt)
each_more P (y ∷ ys) x h k = (h.0, each_more P ys x h.1 k)

some_same : {X : Type 0} (x y : X) → Some x ≡ Some y → x ≡ y
some_same x y e = cc

module _ (P : PacketData → Type 0) where
  -- ## fair queues

  abbrev pub Each : List (Queue PacketData) → Type 0
  Each qs = AllByRecursion (λ (q : Queue PacketData). AllByRecursion P q.items) qs

  either : (b : Bool) (xs ys : List (Queue PacketData)) → Each xs → Each ys → Each (cond b xs ys)
  either true xs ys h k = h
  either false xs ys h k = k

  each-put : (start key : ℕ) (p : PacketData) (qs : List (Queue PacketData)) → P p → Each qs → Each (put start key p qs)
  each-put start key p [] h k = ((h, tt), tt)
  each-put start key p (q ∷ qs) h k = grind (arith, nat_tests, each_more P q.items p, each-put 0 key p qs)

  pub each-offered : (f : Fair PacketData) (key : ℕ) (p : PacketData) → P p → Each f.queues
      → Each (offer_leaves packet_length f key p).queues
  each-offered f key p h k = grind (arith, nat_tests, each-put f.limits.quantum key p f.queues)

  each-refilled : (quantum : ℕ) (qs : List (Queue PacketData)) → Each qs → Each (refilled quantum qs)
  each-refilled quantum [] h = tt
  each-refilled quantum (q ∷ qs) h = h

  each-settled : (quantum key deficit : ℕ) (xs : List PacketData) (qs : List (Queue PacketData))
      → AllByRecursion P xs → Each qs → Each (settled packet_length quantum key deficit xs qs)
  each-settled quantum key deficit xs qs h k = grind (arith, nat_tests, each-refilled, either, each_more)

  each-popped : (quantum key deficit : ℕ) (xs : List PacketData) (qs : List (Queue PacketData))
      → AllByRecursion P xs → Each qs
      → Each (front_settled packet_length quantum (popped packet_length key deficit xs ∷ qs))
  each-popped quantum key deficit [] qs h k = each-settled quantum key deficit [] qs h k
  each-popped quantum key deficit (x ∷ xs) qs h k = each-settled quantum key (deficit - packet_length x) xs qs h.1 k

  each-left : (quantum : ℕ) (qs : List (Queue PacketData)) → Each qs → Each (taken packet_length quantum qs)
  each-left quantum [] h = tt
  each-left quantum (q ∷ qs) h = each-popped quantum q.key q.deficit q.items qs h.0 h.1

  pub each-taken : (f : Fair PacketData) → Each f.queues → Each (take_leaves packet_length f).queues
  each-taken f h = each-left f.limits.quantum f.queues h

  pub each-first : (xs : List PacketData) (p : PacketData) → AllByRecursion P xs → first xs ≡ Some p → P p
  each-first [] p h e = absurd (cc)
  each-first (x ∷ xs) p h e = subst P (some_same x p e) h.0

  pub each-head : (qs : List (Queue PacketData)) (p : PacketData) → Each qs → head qs ≡ Some p → P p
  each-head [] p h e = absurd (cc)
  each-head (q ∷ qs) p h e = each-first q.items p h.0 e

  -- ## groups

  abbrev pub InGroups : List (Group PacketData) → Type 0
  InGroups gs = AllByRecursion (λ (g : Group PacketData). Each g.queues.queues) gs

  groups_either : (b : Bool) (xs ys : List (Group PacketData)) → InGroups xs → InGroups ys → InGroups (cond b xs ys)
  groups_either true xs ys h k = h
  groups_either false xs ys h k = k

  groups-changed : (l : DrrLimits) (start outer inner : ℕ) (p : PacketData) (gs : List (Group PacketData)) → P p
      → InGroups gs
      → InGroups (changed (λ f. offer_leaves packet_length f inner p) l start outer gs)
  groups-changed l start outer inner p [] h k = (each-offered (fair l []) inner p h tt, tt)
  groups-changed l start outer inner p (g ∷ gs) h k = grind (arith, nat_tests, each-offered g.queues inner p h, groups-changed l 0 outer inner p gs h)

  groups-offered : (h : Hier PacketData) (outer inner : ℕ) (p : PacketData) → P p → InGroups h.groups
      → InGroups (left_by_offer packet_length h outer inner p).groups
  groups-offered h outer inner p w k = grind (arith, nat_tests, groups-changed (inner_limits h.limits h.inner) h.limits.quantum outer inner p h.groups w)

  groups-refilled : (quantum : ℕ) (gs : List (Group PacketData)) → InGroups gs → InGroups (group_refilled quantum gs)
  groups-refilled quantum [] h = tt
  groups-refilled quantum (g ∷ gs) h = h

  groups-settled : (quantum : ℕ) (g : Group PacketData) (qs : List (Queue PacketData))
      (gs : List (Group PacketData)) → Each g.queues.queues → InGroups gs
      → InGroups (group_settled packet_length quantum g qs gs)
  groups-settled quantum g [] gs h k = groups-refilled quantum gs k
  groups-settled quantum g (q ∷ qs) gs h k =
      groups_either (nat_lt g.deficit (first_bytes packet_length q.items)) (group_refilled quantum (gs ++ g ∷ []))
      (g ∷ gs)
      (groups-refilled quantum (gs ++ g ∷ []) (each_more (λ (z : Group PacketData). Each z.queues.queues) gs g k h))
      (h, k)

  groups-taken : (quantum : ℕ) (gs : List (Group PacketData)) → InGroups gs
      → InGroups (groups_taken packet_length quantum gs)
  groups-taken quantum gs h = grind (arith, nat_tests, groups-settled, each-taken)

  groups-next : (gs : List (Group PacketData)) (p : PacketData) → InGroups gs → next gs ≡ Some p → P p
  groups-next [] p h e = absurd (cc)
  groups-next (g ∷ gs) p h e = each-head g.queues.queues p h.0 e

  -- ## requests

  abbrev pub EachRequest : RequestQueues → Type 0
  EachRequest (OneLevel f) = Each f.queues
  EachRequest (TwoLevels h) = InGroups h.groups

  no_request : (d : DrrLimits) (inner : Option ℕ) → EachRequest (none_under d inner)
  no_request d None = tt
  no_request d (Some inner) = tt

  pub request-none : (l : LinkLimits) → EachRequest (no_requests l)
  request-none l = no_request l.request l.request_inner

  pub request-offered : (rs : RequestQueues) (key : ℕ) (p : PacketData) → P p → EachRequest rs
      → EachRequest (request_leaves rs key p)
  request-offered (OneLevel f) key p h k = each-offered f key p h k
  request-offered (TwoLevels g) key p h k = groups-offered g key (inner_key_of p) p h k

  pub request-taken : (rs : RequestQueues) → EachRequest rs → EachRequest (request_taken rs)
  request-taken (OneLevel f) h = each-taken f h
  request-taken (TwoLevels g) h = groups-taken g.limits.quantum g.groups h

  pub request-next : (rs : RequestQueues) (p : PacketData) → EachRequest rs → next_in rs ≡ Some p → P p
  request-next (OneLevel f) p h e = each-head f.queues p h e
  request-next (TwoLevels g) p h e = groups-next g.groups p h e
