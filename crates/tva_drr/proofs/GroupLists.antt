-- The group of an outer key, by its place, and what an offer to its queues does to the list.
use Rattle.tva_drr.proofs.Common.{◌≡◌, ℕ, ◌+◌, ◌<◌, ◌≤◌, Bool, true, false, cond, eqb, List, [], ◌∷◌, ◌++◌, length, ◌||◌, leb, take, set, get_or, Some, refl, sym, ap, ◌∙◌, zero, suc, arith, nat_tests, set-get_or, sum_by-cons, DrrLimits, Fair, fair, all_bytes, put, lacks_queue, lacks_room, offer_leaves, Group, group, hier, inner_limits, has_group, queues_of, group_bytes, all_group_bytes, lacks_place, changed, IsGroupPlace}
use Rattle.tva_drr.proofs.Lists.{by_key, leaves_queued}

pub none_true : (a b : Bool) → (a || b) ≡ false → (a ≡ false) × (b ≡ false)
none_true a b h = grind (arith, nat_tests)

pub or_false : (a b : Bool) → b ≡ false → (a || b) ≡ a
or_false a b e = grind (arith, nat_tests)

module _ {T : Type 0} where
  pub has_group-push : (key : ℕ) (gs : List (Group T)) (g : Group T) → has_group key gs ≡ false → eqb g.key key ≡ false
      → has_group key (gs ++ g ∷ []) ≡ false
  has_group-push key [] g h e = ap (λ b. cond b true false) e
  has_group-push key (p ∷ gs) g h e = grind (arith, nat_tests, has_group-push key gs g)

  -- what stands at a place of the list
  group_here : (gs : List (Group T)) (i : ℕ) → i < length gs → Group T
  group_here [] i n = absurd (omega arith)
  group_here (g ∷ gs) zero n = g
  group_here (g ∷ gs) (suc i) n = group_here gs i (omega arith)

  group_here_is : (gs : List (Group T)) (i : ℕ) (n : i < length gs) → group_here gs i n ≡ get_or gs i (group_here gs i n)
  unfolding group_here
  group_here_is [] i n = absurd (omega arith)
  group_here_is (g ∷ gs) zero n = refl
  group_here_is (g ∷ gs) (suc i) n = group_here_is gs i (omega arith)

  -- what stands there has the outer key
  has_at : (key : ℕ) (gs : List (Group T)) (at : ℕ) (g : Group T) → at < length gs → g ≡ get_or gs at g → g.key ≡ key
      → has_group key gs ≡ true
  has_at key [] at g n s e = absurd (omega arith)
  has_at key (p ∷ gs) zero g n s e = let k : p.key ≡ key = ap (λ (r : Group T). r.key) (sym s) ∙ e in grind (arith, nat_tests)
  has_at key (p ∷ gs) (suc i) g n s e = grind (arith, has_at key gs i g)

  pub has_place : (key : ℕ) (gs : List (Group T)) (at : ℕ) → IsGroupPlace key gs (Some at) → has_group key gs ≡ true
  has_place key gs at p = has_at key gs at (group_here gs at p.0) p.0 (group_here_is gs at p.0) (p.2 _ (group_here_is gs at p.0))

  pub queues_of_at : (l : DrrLimits) (key : ℕ) (gs : List (Group T)) (at : ℕ) (g : Group T) → at < length gs
      → has_group key (take at gs) ≡ false → g ≡ get_or gs at g → g.key ≡ key → queues_of l key gs ≡ g.queues
  queues_of_at l key [] at g n h s e = absurd (omega arith)
  queues_of_at l key (p ∷ gs) zero g n h s e = grind (arith, nat_tests)
  queues_of_at l key (p ∷ gs) (suc i) g n h s e = grind (arith, queues_of_at l key gs i g)

  pub queues_of_none : (l : DrrLimits) (key : ℕ) (gs : List (Group T)) → has_group key gs ≡ false → queues_of l key gs ≡ fair l []
  queues_of_none l key [] h = refl
  queues_of_none l key (p ∷ gs) h = grind (arith, queues_of_none l key gs)

  pub changed_at : (change : Fair T → Fair T) (l : DrrLimits) (start key : ℕ) (gs : List (Group T)) (at : ℕ) (g : Group T)
      → at < length gs → has_group key (take at gs) ≡ false → g ≡ get_or gs at g → g.key ≡ key
      → changed change l start key gs ≡ set gs at (group g.key g.deficit (change g.queues))
  changed_at change l start key [] at g n h s e = absurd (omega arith)
  changed_at change l start key (p ∷ gs) zero g n h s e = grind (arith, nat_tests)
  changed_at change l start key (p ∷ gs) (suc i) g n h s e = grind (arith, changed_at change l 0 key gs i g)

  changed_next : (change : Fair T → Fair T) (l : DrrLimits) (key : ℕ) (gs : List (Group T)) → has_group key gs ≡ false
      → changed change l 0 key gs ≡ gs ++ group key 0 (change (fair l [])) ∷ []
  changed_next change l key [] h = refl
  changed_next change l key (p ∷ gs) h = grind (arith, changed_next change l key gs)

  pub changed_new : (change : Fair T → Fair T) (l : DrrLimits) (start key : ℕ) (gs : List (Group T)) → has_group key gs ≡ false
      → changed change l start key gs ≡ gs ++ group key (cond (eqb (length gs) 0) start 0) (change (fair l [])) ∷ []
  changed_new change l start key [] h = refl
  changed_new change l start key (p ∷ gs) h = grind (arith, changed_next change l key gs)

  pub has_group-changed : (k : ℕ) (change : Fair T → Fair T) (l : DrrLimits) (start key : ℕ) (gs : List (Group T)) → (key ≡ k → ⊥)
      → has_group k gs ≡ false → has_group k (changed change l start key gs) ≡ false
  has_group-changed k change l start key [] n h = by_key key k (λ b. cond b true false ≡ false) (λ e. absurd (n e)) (λ _. refl)
  has_group-changed k change l start key (p ∷ gs) n h = grind (arith, nat_tests, has_group-changed k change l 0 key gs n)

  pub length-changed : (change : Fair T → Fair T) (l : DrrLimits) (start key : ℕ) (gs : List (Group T))
      → length (changed change l start key gs) ≡ cond (has_group key gs) (length gs) (length gs + 1)
  length-changed change l start key [] = omega arith
  length-changed change l start key (p ∷ gs) = grind (arith, nat_tests, length-changed change l 0 key gs)

  pub queues_of-changed : (change : Fair T → Fair T) (l : DrrLimits) (start key : ℕ) (gs : List (Group T))
      → queues_of l key (changed change l start key gs) ≡ change (queues_of l key gs)
  queues_of-changed change l start key [] = grind (arith, nat_tests)
  queues_of-changed change l start key (p ∷ gs) = grind (arith, nat_tests, queues_of-changed change l 0 key gs)

  pub queues_of-changed_other : (k : ℕ) (change : Fair T → Fair T) (l : DrrLimits) (start key : ℕ) (gs : List (Group T)) → (key ≡ k → ⊥)
      → queues_of l k (changed change l start key gs) ≡ queues_of l k gs
  queues_of-changed_other k change l start key [] n = grind (arith, nat_tests)
  queues_of-changed_other k change l start key (p ∷ gs) n = grind (arith, nat_tests, queues_of-changed_other k change l 0 key gs n)

  -- the bytes of all groups, where the queues of one get so many more
  pub bytes-changed : (measure : T → ℕ) (change : Fair T → Fair T) (l : DrrLimits) (start key m : ℕ) (gs : List (Group T))
      → all_bytes measure (change (queues_of l key gs)).queues ≡ all_bytes measure (queues_of l key gs).queues + m
      → all_group_bytes measure (changed change l start key gs) ≡ all_group_bytes measure gs + m
  bytes-changed measure change l start key m [] e = omega (arith, e, sum_by-cons (group_bytes measure) (group key start (change (fair l []))) [])
  bytes-changed measure change l start key m (p ∷ gs) e = grind (arith, nat_tests, bytes-changed measure change l 0 key m gs, sum_by-cons (group_bytes measure) p gs, sum_by-cons (group_bytes measure) (group p.key p.deficit (change p.queues)) gs, sum_by-cons (group_bytes measure) p (changed change l 0 key gs))

  -- what an offer leaves where nothing is lacking
  pub offered_is : (measure : T → ℕ) (f : Fair T) (key : ℕ) (x : T) → lacks_queue f key ≡ false → lacks_room measure f key x ≡ false
      → offer_leaves measure f key x ≡ fair f.limits (put f.limits.quantum key x f.queues)
  offered_is measure f key x h r = sym (leaves_queued measure f (fair f.limits (put f.limits.quantum key x f.queues)) key x h r refl)

  -- ## the places of groups

  pub set_read : (gs : List (Group T)) (at : ℕ) (g : Group T) → g ≡ get_or gs at g → set gs at g ≡ gs
  set_read gs at g e = ap (λ z. set gs at z) e ∙ set-get_or gs at g

  -- the tests of an offer, by the place that was found
  pub place_at : (l : DrrLimits) (n key inner at : ℕ) (gs : List (Group T)) (g : Group T) → IsGroupPlace key gs (Some at)
      → g ≡ get_or gs at g → lacks_place (hier l n gs) key inner ≡ lacks_queue g.queues inner
  place_at l n key inner at gs g p e = grind (arith, nat_tests, queues_of_at (inner_limits l n) key gs at g p.0 p.1 e (p.2 g e), has_place key gs at p)

  pub place_new : (l : DrrLimits) (n key inner : ℕ) (gs : List (Group T)) → 1 ≤ n → has_group key gs ≡ false
      → lacks_place (hier l n gs) key inner ≡ leb l.queues (length gs)
  place_new l n key inner gs h e = grind (arith, nat_tests, queues_of_none (inner_limits l n) key gs e, or_false (leb l.queues (length gs)) (leb n 0))
