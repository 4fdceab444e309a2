-- The items under each two keys after an offer and after a take.
use Rattle.tva_drr.proofs.Common.{◌≡◌, ℕ, ◌-◌, Some, false, cond, eqb, List, [], ◌∷◌, ◌++◌, refl, ap, ◌∙◌, arith, cases_eq, nat_tests, DrrLimits, Queue, Fair, fair, items_of, head, put, lacks_queue, lacks_room, offer_leaves, IsFair, GoesLast, IsFront, Group, group, hier, inner_limits, has_group, queues_of, next, changed, group_refilled, group_settled, groups_taken, AreGroups, GoesLastUnder, GoesFirstUnder, AreFront}
use Rattle.tva_drr.proofs.Lists.{by_key}
use Rattle.tva_drr.proofs.OrderLaws.{goes_last, goes_first}
use Rattle.tva_drr.proofs.GroupLists.{queues_of-changed, queues_of-changed_other, queues_of_none, offered_is}

module _ {T : Type 0} (measure : T → ℕ) (l : DrrLimits) (inner : ℕ) where
  -- ## an offer

  -- an item that is put goes last under its keys
  pub goes_last_under : (start outer key : ℕ) (x : T) (gs : List (Group T))
      → lacks_queue (queues_of (inner_limits l inner) outer gs) key ≡ false
      → lacks_room measure (queues_of (inner_limits l inner) outer gs) key x ≡ false
      → GoesLastUnder outer key x (hier l inner gs) (hier l inner
      (changed (λ f. offer_leaves measure f key x) (inner_limits l inner) start outer gs))
  goes_last_under start outer key x gs q r =
      let f : Fair T = queues_of (inner_limits l inner) outer gs in
      let m : DrrLimits = inner_limits l inner in
      let new : List (Group T) = changed (λ f. offer_leaves measure f key x) m start outer gs in
      let same : queues_of m outer new ≡ fair f.limits (put f.limits.quantum key x f.queues) = queues_of-changed
      (λ f. offer_leaves measure f key x) m start outer gs ∙ offered_is measure f key x q r in
      let last : GoesLast key x f (fair f.limits
      (put f.limits.quantum key x f.queues)) = goes_last f.limits f.limits.quantum key x f.queues in
      record {
        own = ap (λ (z : Fair T). items_of key z.queues) same ∙ last.own;
        others = λ o i n. grind (arith, cases_eq o outer, n, queues_of-changed_other o (λ f. offer_leaves measure f key x) m start outer gs, last.others i);
      }

  -- ## a take

  queues_of-refilled : (m : DrrLimits) (o quantum : ℕ) (gs : List (Group T))
      → queues_of m o (group_refilled quantum gs) ≡ queues_of m o gs
  queues_of-refilled m o quantum gs = grind (arith, nat_tests)

  queues_of-push_own : (m : DrrLimits) (gs : List (Group T)) (g : Group T) → has_group g.key gs ≡ false
      → queues_of m g.key (gs ++ g ∷ []) ≡ g.queues
  queues_of-push_own m [] g h = by_key g.key g.key (λ b. cond b g.queues (fair m []) ≡ g.queues) (λ _. refl) (λ n. absurd (n refl))
  queues_of-push_own m (p ∷ gs) g h = grind (arith, nat_tests, queues_of-push_own m gs g)

  queues_of-push_other : (m : DrrLimits) (o : ℕ) (gs : List (Group T)) (g : Group T) → (g.key ≡ o → ⊥)
      → queues_of m o (gs ++ g ∷ []) ≡ queues_of m o gs
  queues_of-push_other m o [] g n = by_key g.key o (λ b. cond b g.queues (fair m []) ≡ fair m []) (λ e. absurd (n e)) (λ _. refl)
  queues_of-push_other m o (p ∷ gs) g n = ap (λ z. cond (eqb p.key o) p.queues z) (queues_of-push_other m o gs g n)

  -- the queues of the front, where they have a group no more they are empty
  pub queues_of-settled_own : (quantum key deficit : ℕ) (m : DrrLimits) (qs : List (Queue T)) (gs : List (Group T))
      → has_group key gs ≡ false → (queues_of m key (group_settled measure quantum (group key deficit (fair m qs)) qs gs)).queues ≡ qs
  queues_of-settled_own quantum key deficit m [] gs h = grind (arith, nat_tests, queues_of-refilled m key quantum gs, queues_of_none m key gs h)
  queues_of-settled_own quantum key deficit m (q ∷ qs) gs h = grind (arith, nat_tests, queues_of-push_own m gs, queues_of-refilled m key quantum)

  pub queues_of-settled_other : (quantum o key deficit : ℕ) (k m : DrrLimits) (qs : List (Queue T)) (gs : List (Group T)) → (key ≡ o → ⊥)
      → queues_of m o (group_settled measure quantum (group key deficit (fair k qs)) qs gs) ≡ queues_of m o gs
  queues_of-settled_other quantum o key deficit k m qs gs n = grind (arith, nat_tests, queues_of-refilled, queues_of-push_other)

  -- the front's own queues lose the item that their take gives
  served_under : (key deficit i : ℕ) (m : DrrLimits) (qs : List (Queue T)) (gs : List (Group T)) (x : T) → m ≡ inner_limits l inner
      → IsFair measure (fair m qs) → has_group key gs ≡ false → IsFront i qs → head qs ≡ Some x
      → GoesFirstUnder key i x (hier l inner (group key deficit (fair m qs) ∷ gs)) (hier l inner
      (groups_taken measure l.quantum (group key deficit (fair m qs) ∷ gs)))
  served_under key deficit i m qs gs x e f h a t = grind (arith, nat_tests, (goes_first measure m.quantum m i qs x f.queues.each a t), (queues_of-settled_own l.quantum key), cases_eq, (queues_of-settled_other l.quantum))

  -- an item that is taken was the first under its keys
  pub goes_first_under : (outer i : ℕ) (gs : List (Group T)) (x : T) → AreGroups measure l inner gs → AreFront outer i gs
      → next gs ≡ Some x → GoesFirstUnder outer i x (hier l inner gs) (hier l inner (groups_taken measure l.quantum gs))
  goes_first_under outer i [] x h a e = absurd a
  goes_first_under outer i (g ∷ gs) x h a e = grind (arith, nat_tests, served_under g.key g.deficit i g.queues.limits g.queues.queues gs x h.0.limits h.0.fair h.1 a.1 e)
