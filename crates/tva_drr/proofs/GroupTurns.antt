-- Groups as turns over fair queues, and their places by the keys alone.
use Rattle.tva_drr.proofs.Common.{◌≡◌, ℕ, ◌-◌, ◌<◌, ◌≤◌, suc, false, List, [], ◌∷◌, length, map, get_or, slice_get, Option, Some, None, refl, sym, ap, ◌∙◌, subst, arith, nat_tests, option_map, option_map_or, get_or-map, length-map, map_push, place_in, DrrLimits, Served, Queue, Fair, first, head, take_leaves, AreQueues, first_bytes, head_bytes, TurnsOver, turns_over, served, turn_keys, turns_refilled, turn_settled, turns_settled, turns_popped, front_next, Group, group, inner_limits, has_group, next, group_refilled, front_popped, group_settled, groups_taken, AreHier, HasGroupTurn, IsGroupPlace, groups_in}
use Rattle.tva_drr.proofs.Keeps.{fair-taken}
use Rattle.tva_drr.proofs.Keeping.{head_there}

module _ {T : Type 0} where
  abbrev pub group_of : Served (Fair T) → Group T
  group_of t = group t.key t.deficit t.source

  pub length-groups : (ts : List (Served (Fair T))) → length (groups_in ts) ≡ length ts
  length-groups ts = length-map ts group_of

  pub group_read : (ts : List (Served (Fair T))) (i : ℕ) (t : Served (Fair T)) → i < length ts → t ≡ get_or ts i t → group_of t ≡ get_or (groups_in ts) i (group_of t)
  group_read ts i t n e = ap group_of e ∙ sym (get_or-map group_of ts i t (group_of t) n)

  pub keys-groups : (ts : List (Served (Fair T))) → map (λ (g : Group T). g.key) (groups_in ts) ≡ turn_keys ts
  keys-groups [] = refl
  keys-groups (t ∷ ts) = ap (λ (z : List ℕ). t.key ∷ z) (keys-groups ts)

  pub front-next : (ts : List (Served (Fair T))) → front_next (λ (f : Fair T). head f.queues) ts ≡ next (groups_in ts)
  front-next ts = grind (arith, nat_tests)

  groups-refilled : (quantum : ℕ) (ts : List (Served (Fair T))) → groups_in (turns_refilled quantum ts) ≡ group_refilled quantum (groups_in ts)
  groups-refilled quantum ts = grind (arith, nat_tests)

  module _ (measure : T → ℕ) where
    sent_first : (xs : List T) → option_map_or measure (first xs) 0 ≡ first_bytes measure xs
    sent_first xs = grind (arith, nat_tests)

    sent_is : (qs : List (Queue T)) → option_map_or measure (head qs) 0 ≡ head_bytes measure qs
    sent_is qs = grind (arith, nat_tests, sent_first)

    pub groups-popped : (ts : List (Served (Fair T))) → groups_in (turns_popped (λ (f : Fair T). option_map_or measure (head f.queues) 0) (λ (f : Fair T). take_leaves measure f) ts) ≡ front_popped measure (groups_in ts)
    groups-popped ts = grind (arith, nat_tests, sent_is)

    settled_by : (quantum : ℕ) (m : DrrLimits) (t : Served (Fair T)) (qs : List (Queue T)) (ts : List (Served (Fair T))) → AreQueues measure m qs
        → groups_in (turn_settled quantum (option_map measure (head qs)) t ts) ≡ group_settled measure quantum (group_of t) qs (groups_in ts)
    settled_by quantum m t qs ts a = grind (arith, nat_tests, groups-refilled, head_there, map_push)

    module _ (l : DrrLimits) (inner : ℕ) where
      turns-taken : (quantum : ℕ) (ts : List (Served (Fair T))) → AreHier measure l inner (groups_in ts)
          → groups_in (turns_settled (λ (f : Fair T). option_map measure (head f.queues)) quantum (turns_popped (λ (f : Fair T). option_map_or measure (head f.queues) 0) (λ (f : Fair T). take_leaves measure f) ts)) ≡ groups_taken measure quantum (groups_in ts)
      turns-taken quantum [] h = refl
      turns-taken quantum (t ∷ ts) h = grind (arith, nat_tests, (settled_by quantum t.source.limits (served t.key (t.deficit - option_map_or measure (head t.source.queues) 0) (take_leaves measure t.source)) (take_leaves measure t.source).queues ts), (fair-taken measure t.source.limits t.source.queues), (sent_is t.source.queues))

      -- a take
      pub turns_after : (m : DrrLimits) (places : ℕ) (ts : List (Served (Fair T))) (one two : TurnsOver (Fair T)) → m ≡ inner_limits l inner → AreHier measure l inner (groups_in ts)
          → one ≡ turns_over m places (turns_popped (λ (f : Fair T). option_map_or measure (head f.queues) 0) (λ (f : Fair T). take_leaves measure f) ts)
          → two ≡ turns_over one.limits one.places (turns_settled (λ (f : Fair T). option_map measure (head f.queues)) one.limits.quantum one.turns)
          → (two.limits ≡ m) × (two.places ≡ places) × (groups_in two.turns ≡ groups_taken measure l.quantum (groups_in ts))
      turns_after m places ts one two e h p s = grind (arith, nat_tests, turns-taken)

      -- the front may send its next item
      pub front_covers : (ts : List (Served (Fair T))) → HasGroupTurn measure l inner (groups_in ts) → (t : Served (Fair T)) → slice_get ts 0 ≡ Some t → option_map_or measure (head t.source.queues) 0 ≤ t.deficit
      front_covers [] h t e = absurd (cc)
      front_covers (u ∷ ts) h t e = let q : u ≡ t = cc in subst (λ (z : Served (Fair T)). option_map_or measure (head z.source.queues) 0 ≤ z.deficit) q (omega (arith, h.0, sent_is u.source.queues))

  place_later : (key : ℕ) (g : Group T) (gs : List (Group T)) (o : Option ℕ) → (g.key ≡ key → ⊥) → IsGroupPlace key gs o → IsGroupPlace key (g ∷ gs) (option_map (λ (n : ℕ). suc n) o)
  place_later key g gs o n h = grind (arith, nat_tests)

  -- the place of the key is that of its group
  pub group_place : (key : ℕ) (gs : List (Group T)) → IsGroupPlace key gs (place_in key (map (λ (g : Group T). g.key) gs))
  group_place key [] = refl
  group_place key (g ∷ gs) = grind (arith, nat_tests, place_later key g gs (place_in key (map (λ (g : Group T). g.key) gs)), group_place key gs)

  -- a key without a group has no place
  pub no_place : (key : ℕ) (gs : List (Group T)) → has_group key gs ≡ false → place_in key (map (λ (g : Group T). g.key) gs) ≡ None
  no_place key [] h = refl
  no_place key (g ∷ gs) h = grind (arith, nat_tests, no_place key gs)
