-- An offer to the group at a place, or to a new group, is the offer to the whole, and a take from the front's queues the take.
use Rattle.tva_drr.proofs.Common.{◌≡◌, ℕ, ◌+◌, ◌-◌, ◌≤◌, suc, Bool, true, false, cond, eqb, leb, not, Some, List, [], ◌∷◌, ◌++◌, length, get_or, set, refl, sym, ap, ◌∙◌, subst, arith, nat_tests, DrrLimits, Queued, NoQueue, QueueFull, map-set, map_push, Served, option_map, option_map_or, TurnsOver, turns_over, served, turns_popped, turns_settled, front_next, take_leaves, Fair, fair, head, lacks_queue, lacks_room, offer_answer, offer_leaves, Group, Hier, group, hier, inner_limits, has_group, fair_of, all_group_bytes, next, lacks_group, lacks_place, lacks_space, put_under, answer_to_offer, left_by_offer, left_by_take, IsHier, GoesLastUnder, GoesFirstUnder, AreFront, IsGroupPlace, groups_in, added}
use Rattle.tva_drr.specs.declared.offered.Offered.{Offered}
use Rattle.tva_drr.proofs.Keeps.{with_length}
use Rattle.tva_drr.proofs.Falling.{by_test}
use Rattle.tva_drr.proofs.Until.{offer_cases}
use Rattle.tva_drr.proofs.GroupLists.{none_true, or_false, queues_of_at, queues_of_none, changed_at, changed_new, set_read}
use Rattle.tva_drr.proofs.GroupTurns.{group_of, length-groups, group_read, front-next, turns_after}
use Rattle.tva_drr.proofs.Keeping.{keeps-offered, keeps-groups_taken}
use Rattle.tva_drr.proofs.Orders.{goes_last_under, goes_first_under}

pub not_not : (b : Bool) → not (not b) ≡ b
not_not b = grind (arith, nat_tests)

module _ {T : Type 0} where
  module _ (measure : T → ℕ) where
    -- ## the whole offer, by its tests

    fits_is : (h : Hier T) (outer key : ℕ) (x : T) → all_group_bytes measure h.groups + measure x ≤ h.limits.class_bytes
        → lacks_space measure h outer key x ≡ lacks_room measure (fair_of h outer) key x
    fits_is h outer key x b = grind (arith, nat_tests, or_false (lacks_room measure (fair_of h outer) key x) (leb (suc h.limits.class_bytes) (all_group_bytes measure h.groups + measure x)))

    answer_is : (h : Hier T) (outer key : ℕ) (x : T) → lacks_place h outer key ≡ false
        → all_group_bytes measure h.groups + measure x ≤ h.limits.class_bytes
        → answer_to_offer measure h outer key x ≡ cond (lacks_room measure (fair_of h outer) key x) (QueueFull x) Queued
    answer_is h outer key x p b = grind (arith, nat_tests, fits_is h outer key x b)

    left_is : (h : Hier T) (outer key : ℕ) (x : T) → lacks_place h outer key ≡ false
        → all_group_bytes measure h.groups + measure x ≤ h.limits.class_bytes
        → left_by_offer measure h outer key x
        ≡ cond (lacks_room measure (fair_of h outer) key x) h (hier h.limits h.inner (put_under measure h outer key x))
    left_is h outer key x p b = grind (arith, nat_tests, fits_is h outer key x b)

    inner_answer : (f : Fair T) (key : ℕ) (x : T) → lacks_queue f key ≡ false
        → offer_answer measure f key x ≡ cond (lacks_room measure f key x) (QueueFull x) Queued
    inner_answer f key x p = ap (λ z. cond z (NoQueue x) (cond (lacks_room measure f key x) (QueueFull x) Queued)) p

    queue_there : (h : Hier T) (outer key : ℕ) → lacks_place h outer key ≡ false → lacks_queue (fair_of h outer) key ≡ false
    queue_there h outer key p = (none_true (lacks_group h outer) (lacks_queue (fair_of h outer) key) p).1

    -- an offer to the queues of the outer key answers as one to the whole
    pub answers_alike : (h : Hier T) (outer key : ℕ) (x : T) (f : Fair T) → fair_of h outer ≡ f → lacks_place h outer key ≡ false
        → all_group_bytes measure h.groups + measure x ≤ h.limits.class_bytes
        → offer_answer measure f key x ≡ answer_to_offer measure h outer key x
    answers_alike h outer key x f e p b = grind (arith, nat_tests, inner_answer (fair_of h outer) key x (queue_there h outer key p), queue_there h outer key p, answer_is h outer key x p b)

    -- ## what an offer leaves

    -- a refusal changes nothing
    pub left_refused : (h : Hier T) (outer key : ℕ) (x y : T) → answer_to_offer measure h outer key x ≡ QueueFull y
        → left_by_offer measure h outer key x ≡ h
    left_refused h outer key x y e = grind (arith, nat_tests)

    pub left_queued : (h : Hier T) (outer key : ℕ) (x : T) → answer_to_offer measure h outer key x ≡ Queued
        → left_by_offer measure h outer key x ≡ hier h.limits h.inner (put_under measure h outer key x)
    left_queued h outer key x e = grind (arith, nat_tests)

    refused_is : (f : Fair T) (key : ℕ) (x : T) → lacks_queue f key ≡ false → lacks_room measure f key x ≡ true
        → offer_leaves measure f key x ≡ f
    refused_is f key x q r = rw (q, r) refl

    -- the group at a place gets what its queues leave
    pub left_at : (l : DrrLimits) (n outer key at : ℕ) (gs : List (Group T)) (g : Group T) (x : T) → IsGroupPlace outer gs (Some at)
        → g ≡ get_or gs at g → lacks_place (hier l n gs) outer key ≡ false → all_group_bytes measure gs + measure x ≤ l.class_bytes
        → hier l n (set gs at (group g.key g.deficit (offer_leaves measure g.queues key x)))
        ≡ left_by_offer measure (hier l n gs) outer key x
    left_at l n outer key at gs g x p e k b = grind (arith, nat_tests, queues_of_at (inner_limits l n) outer gs at g p.0 p.1 e (p.2 g e), queue_there, changed_at (λ z. offer_leaves measure z key x) (inner_limits l n) l.quantum outer gs at g p.0 p.1 e (p.2 g e), refused_is g.queues key x, set_read gs at g e, left_is)

    -- a new group goes last
    pub left_new : (l : DrrLimits) (n outer key : ℕ) (gs : List (Group T)) (x : T) → has_group outer gs ≡ false
        → answer_to_offer measure (hier l n gs) outer key x ≡ Queued
        → hier l n (gs ++ group outer (cond (eqb (length gs) 0) l.quantum 0)
        (offer_leaves measure (fair (inner_limits l n) []) key x) ∷ []) ≡ left_by_offer measure (hier l n gs) outer key x
    left_new l n outer key gs x e a = grind (arith, nat_tests, left_queued (hier l n gs) outer key x a, changed_new (λ z. offer_leaves measure z key x) (inner_limits l n) l.quantum outer gs e)

    pub left_keeps : (h : Hier T) (outer key : ℕ) (x : T) → IsHier measure h → (1 ≤ measure x) × (measure x ≤ h.limits.max)
        → IsHier measure (left_by_offer measure h outer key x)
    left_keeps h outer key x i m =
        offer_cases (lacks_place h outer key) (lacks_space measure h outer key x) h
        (hier h.limits h.inner (put_under measure h outer key x)) (λ z. IsHier measure z) i
        (λ p s. (keeps-offered measure h.limits h.inner (all_group_bytes measure h.groups) outer key h.groups x i refl m p s).0)

    bytes_by : (h : Hier T) (outer key : ℕ) (x : T) (b c : Bool) (new : List (Group T))
        → (b ≡ false → c ≡ false → all_group_bytes measure new ≡ all_group_bytes measure h.groups + measure x)
        → all_group_bytes measure (cond b h (cond c h (hier h.limits h.inner new))).groups
        ≡ all_group_bytes measure h.groups + added (cond b (NoQueue x) (cond c (QueueFull x) Queued)) (measure x)
    bytes_by h outer key x b c new k = grind (arith, nat_tests)

    pub left_bytes : (h : Hier T) (outer key : ℕ) (x : T) → IsHier measure h → (1 ≤ measure x) × (measure x ≤ h.limits.max)
        → all_group_bytes measure (left_by_offer measure h outer key x).groups
        ≡ all_group_bytes measure h.groups + added (answer_to_offer measure h outer key x) (measure x)
    left_bytes h outer key x i m =
        bytes_by h outer key x (lacks_place h outer key) (lacks_space measure h outer key x) (put_under measure h outer key x)
        (λ p s. sym (keeps-offered measure h.limits h.inner (all_group_bytes measure h.groups) outer key h.groups x i refl m p s).1)

    queued_tests : (b c : Bool) (x : T) → cond b (NoQueue x) (cond c (QueueFull x) Queued) ≡ Queued → (b ≡ false) × (c ≡ false)
    queued_tests b c x h = grind arith

    -- an item that is queued waits behind those under its keys
    pub left_last : (h : Hier T) (outer key : ℕ) (x : T) → answer_to_offer measure h outer key x ≡ Queued
        → GoesLastUnder outer key x h (left_by_offer measure h outer key x)
    left_last h outer key x a =
        let t = queued_tests (lacks_place h outer key) (lacks_space measure h outer key x) x a in
        subst (λ z. GoesLastUnder outer key x h z) (sym (left_queued h outer key x a))
        (goes_last_under measure h.limits h.inner h.limits.quantum outer key x h.groups (queue_there h outer key t.0)
        (none_true (lacks_room measure (fair_of h outer) key x) (leb (suc h.limits.class_bytes) (all_group_bytes measure h.groups + measure x)) t.1).0)

    -- ## the code's offers

    -- the invariant of the code, and what an item that is offered needs
    abbrev pub Invariant : DrrLimits → ℕ → ℕ → TurnsOver (Fair T) → Type 0
    Invariant l n b u = IsHier measure (hier l n (groups_in u.turns)) × (b ≡ all_group_bytes measure (groups_in u.turns)) × (u.limits ≡ inner_limits l n) × (u.places ≡ l.queues)

    abbrev pub MayTake : ℕ → ℕ → T → Hier T → Type 0
    MayTake outer key x h = ((1 ≤ measure x) × (measure x ≤ h.limits.max)) × (lacks_place h outer key ≡ false) × (all_group_bytes measure h.groups + measure x ≤ h.limits.class_bytes)

    -- the answer, what is left, and the invariant
    pub record IsOffered (l : DrrLimits) (n outer key b : ℕ) (x : T) (r : Offered T) (old : Hier T) (w : TurnsOver (Fair T)) : Type 0 where
      pub answer : r ≡ answer_to_offer measure old outer key x
      pub left : hier l n (groups_in w.turns) ≡ left_by_offer measure old outer key x
      pub kept : Invariant l n b w

    offered : (l : DrrLimits) (n outer key b d : ℕ) (u w : TurnsOver (Fair T)) (x : T) (r : Offered T) → Invariant l n b u → (1 ≤ measure x) × (measure x ≤ l.max) → d ≡ added r (measure x)
        → hier l n (groups_in w.turns) ≡ left_by_offer measure (hier l n (groups_in u.turns)) outer key x → r ≡ answer_to_offer measure (hier l n (groups_in u.turns)) outer key x → w.limits ≡ u.limits → w.places ≡ u.places
        → IsOffered l n outer key (b + d) x r (hier l n (groups_in u.turns)) w
    offered l n outer key b d u w x r i m s e a f p =
        let h : Hier T = hier l n (groups_in u.turns) in
        record {
          answer = a;
          left = e;
          kept = (
            subst (λ z. IsHier measure z) (sym e) (left_keeps h outer key x i.0 m),
            ap (λ z. z + d) i.1 ∙ (ap (λ z. all_group_bytes measure h.groups + z) (s ∙ ap (λ z. added z (measure x)) a) ∙ sym (ap (λ (z : Hier T). all_group_bytes measure z.groups) e ∙ left_bytes h outer key x i.0 m)),
            f ∙ i.2,
            p ∙ i.3,
          );
        }

    -- to the group at a place
    pub at_left : (l : DrrLimits) (n outer key at b d : ℕ) (u w : TurnsOver (Fair T)) (x : T) (r : Offered T) (old : Hier T) → hier l n (groups_in u.turns) ≡ old → Invariant l n b u → MayTake outer key x old × IsGroupPlace outer old.groups (Some at) → d ≡ added r (measure x)
        → (t : Served (Fair T)) × (t ≡ get_or u.turns at t) × (r ≡ offer_answer measure t.source key x) × (w ≡ turns_over u.limits u.places (set u.turns at (served t.key t.deficit (offer_leaves measure t.source key x))))
        → IsOffered l n outer key (b + d) x r old w
    at_left l n outer key at b d u w x r old v i m s p =
        let gs : List (Group T) = groups_in u.turns in
        let k = subst (λ o. MayTake outer key x o × IsGroupPlace outer o.groups (Some at)) (sym v) m in
        let q = group_read u.turns at p.0 (omega (arith, k.1.0, length-groups u.turns)) p.1 in
        subst (λ o. IsOffered l n outer key (b + d) x r o w) v (offered l n outer key b d u w x r i k.0.0 s
        (ap (λ (z : TurnsOver (Fair T)). hier l n (groups_in z.turns)) p.3 ∙ (ap (λ z. hier l n z) (map-set group_of u.turns at (served p.0.key p.0.deficit (offer_leaves measure p.0.source key x))) ∙ left_at l n outer key at gs (group_of p.0) x k.1 q k.0.1 k.0.2))
        (p.2 ∙ answers_alike (hier l n gs) outer key x p.0.source (queues_of_at (inner_limits l n) outer gs at (group_of p.0) k.1.0 k.1.1 q (k.1.2 (group_of p.0) q)) k.0.1 k.0.2)
        (ap (λ (z : TurnsOver (Fair T)). z.limits) p.3) (ap (λ (z : TurnsOver (Fair T)). z.places) p.3))

    -- to a new group
    pub new_left : (l : DrrLimits) (n outer key b d : ℕ) (u w : TurnsOver (Fair T)) (x : T) (r : Offered T) (old : Hier T) → hier l n (groups_in u.turns) ≡ old → Invariant l n b u → MayTake outer key x old × (has_group outer old.groups ≡ false) → d ≡ added r (measure x)
        → r ≡ offer_answer measure (fair u.limits []) key x → (r ≡ Queued → w ≡ turns_over u.limits u.places (u.turns ++ served outer (cond (eqb (length u.turns) 0) u.limits.quantum 0) (offer_leaves measure (fair u.limits []) key x) ∷ []))
        → ((r ≡ Queued → ⊥) → w ≡ u) → (w.limits ≡ u.limits) × (w.places ≡ u.places) → IsOffered l n outer key (b + d) x r old w
    new_left l n outer key b d u w x r old v i m s e q o f =
        let gs : List (Group T) = groups_in u.turns in
        let h : Hier T = hier l n gs in
        let k = subst (λ o. MayTake outer key x o × (has_group outer o.groups ≡ false)) (sym v) m in
        let answer : r ≡ answer_to_offer measure h outer key x = e ∙ (ap (λ z. offer_answer measure (fair z []) key x) i.2 ∙ answers_alike h outer key x (fair (inner_limits l n) []) (queues_of_none (inner_limits l n) outer gs k.1) k.0.1 k.0.2) in
        let left = by_test (lacks_room measure (fair_of h outer) key x) (λ t. r ≡ cond t (QueueFull x) Queued → hier l n (groups_in w.turns) ≡ left_by_offer measure h outer key x)
        (λ _ c. ap (λ (z : TurnsOver (Fair T)). hier l n (groups_in z.turns)) (o (λ y. absurd (let z : QueueFull x ≡ Queued = sym c ∙ y in cc))) ∙ sym (left_refused h outer key x x (sym answer ∙ c)))
        (λ _ c. ap (λ (z : TurnsOver (Fair T)). hier l n (groups_in z.turns)) (q c) ∙ (ap (λ z. hier l n z) (map_push group_of u.turns (served outer (cond (eqb (length u.turns) 0) u.limits.quantum 0) (offer_leaves measure (fair u.limits []) key x))
        ∙ (ap (λ z. gs ++ group outer (cond (eqb z 0) u.limits.quantum 0) (offer_leaves measure (fair u.limits []) key x) ∷ []) (sym (length-groups u.turns)) ∙ ap (λ (z : DrrLimits). gs ++ group outer (cond (eqb (length gs) 0) z.quantum 0) (offer_leaves measure (fair z []) key x) ∷ []) i.2))
        ∙ left_new l n outer key gs x k.1 (sym answer ∙ c)))
        (answer ∙ answer_is h outer key x k.0.1 k.0.2) in
        subst (λ o. IsOffered l n outer key (b + d) x r o w) v (offered l n outer key b d u w x r i k.0.0 s left answer f.0 f.1)

    -- what follows of an answer and of what is left
    pub by_left : (old new : Hier T) (r : Offered T) (outer key : ℕ) (x : T) → IsHier measure old
        → (1 ≤ measure x) × (measure x ≤ old.limits.max)
        → r ≡ answer_to_offer measure old outer key x → new ≡ left_by_offer measure old outer key x
        → (r ≡ Queued → GoesLastUnder outer key x old new) × IsHier measure new
    by_left old new r outer key x i m a e = (
      λ q. subst (λ z. GoesLastUnder outer key x old z) (sym e) (left_last old outer key x (sym a ∙ q)),
      subst (λ z. IsHier measure z) (sym e) (left_keeps old outer key x i m),
    )

    -- ## the code's takes

    -- what is left, whose item goes, and the invariant
    pub record IsTaken (l : DrrLimits) (n b : ℕ) (x : T) (old : Hier T) (w : TurnsOver (Fair T)) : Type 0 where
      pub left : hier l n (groups_in w.turns) ≡ left_by_take measure old
      pub first : (outer key : ℕ) → AreFront outer key old.groups → GoesFirstUnder outer key x old (hier l n (groups_in w.turns))
      pub kept : Invariant l n b w

    pub taken_next : (l : DrrLimits) (n b len : ℕ) (u v w : TurnsOver (Fair T)) (old : Hier T) → hier l n (groups_in u.turns) ≡ old → Invariant l n b u → option_map measure (next old.groups) ≡ Some len
        → v ≡ turns_over u.limits u.places (turns_popped (λ (f : Fair T). option_map_or measure (head f.queues) 0) (λ (f : Fair T). take_leaves measure f) u.turns)
        → w ≡ turns_over v.limits v.places (turns_settled (λ (f : Fair T). option_map measure (head f.queues)) v.limits.quantum v.turns)
        → (x : T) × (front_next (λ (f : Fair T). head f.queues) u.turns ≡ Some x) × IsTaken l n (b - len) x old w
    taken_next l n b len u v w old e i s p q =
        let gs : List (Group T) = groups_in u.turns in
        let found = with_length measure (next gs) len (subst (λ (o : Hier T). option_map measure (next o.groups) ≡ Some len) (sym e) s) in
        let a = turns_after measure l n u.limits u.places u.turns v w i.2 i.0.groups p q in
        let k = keeps-groups_taken measure l n b gs found.0 i.0 i.1 found.1 in (
          found.0,
          front-next u.turns ∙ found.1,
          subst (λ o. IsTaken l n (b - len) found.0 o w) e (record {
            left = ap (λ z. hier l n z) a.2;
            first = λ outer key f. subst (λ z. GoesFirstUnder outer key found.0 (hier l n gs) (hier l n z)) (sym a.2) (goes_first_under measure l n outer key gs found.0 i.0.groups.each f found.1);
            kept = (subst (λ z. IsHier measure (hier l n z)) (sym a.2) k.0, subst (λ z. b - len ≡ all_group_bytes measure z) (sym a.2) (ap (λ z. b - z) (sym found.2) ∙ k.1), a.0 ∙ i.2, a.1 ∙ i.3);
          }),
        )
