-- The measure of the bytes that may still go, over both levels, falls at each take by what is taken.
use Rattle.tva_drr.proofs.Common.{◌≡◌, ℕ, suc, ◌+◌, ◌-◌, ◌*◌, ◌<◌, ◌≤◌, true, false, cond, eqb, leb, Option, Some, None, List, [], ◌∷◌, refl, sym, ap, ◌∙◌, subst, arith, cases_eq, nat_tests, div_ceil, AllByRecursion, mul-le-mul_right, mul_comm, length-map, map_push, DrrLimits, AreDrrLimits, Queue, Fair, fair, has_key, items_of, lacks_queue, lacks_room, offer_leaves, taken, AreFair, is_front, first_bytes, head_bytes, most_until, Turn, turn, deficit_of, place_of, quanta_before, ahead, bytes_ahead, Group, group, hier, inner_limits, has_group, queues_of, all_group_bytes, lacks_group, lacks_place, lacks_space, changed, put_under, left_by_offer, group_refilled, group_settled, groups_taken, left_by_take, AreGroupsBehind, AreHier, IsHier, turns_of_groups, bytes_ahead_under, next_bytes, IsLeftUnder, most_until_under}
use Rattle.tva_drr.proofs.Keeps.{fair-taken}
use Rattle.tva_drr.proofs.Ceil.{ceil_le}
use Rattle.tva_drr.proofs.Falling.{has, refill, settle, join, Stand, falls_own, falls_other, ahead-join, most, taken_falls, ahead-put, ahead_most, head_ahead}
use Rattle.tva_drr.proofs.Until.{offer_cases, ahead_enough}
use Rattle.tva_drr.proofs.GroupLists.{none_true, queues_of-changed, queues_of-changed_other, queues_of_none, offered_is}
use Rattle.tva_drr.proofs.Keeping.{inner_of}
use Rattle.tva_drr.proofs.Orders.{queues_of-settled_own, queues_of-settled_other}

-- ## more bytes have no fewer ahead

quanta-le : (others place t u : ℕ) → t ≤ u → quanta_before others place t ≤ quanta_before others place u
quanta-le others place t u h = grind (arith, nat_tests, mul-le-mul_right)

pub most-le : (l : DrrLimits) (r s : ℕ) → 1 ≤ l.quantum → r ≤ s → most_until l r ≤ most_until l s
most-le l r s q h =
    let c = ceil_le r s l.quantum q h in
    let t = mul-le-mul_right l.quantum c in
    let sum : div_ceil r l.quantum * l.quantum + l.max ≤ div_ceil s l.quantum * l.quantum + l.max = omega arith in
    let m = mul-le-mul_right (l.queues - 1) sum in
    omega (
      arith,
      m,
      mul_comm (l.queues - 1) (div_ceil r l.quantum * l.quantum + l.max),
      mul_comm (l.queues - 1)
          (div_ceil s l.quantum * l.quantum + l.max),
    )

pub ahead-le : (l : DrrLimits) (key r s : ℕ) (ts : List Turn) → 1 ≤ l.quantum → r ≤ s → ahead l key r ts ≤ ahead l key s ts
ahead-le l key r s ts q h =
    let d : r - deficit_of key ts ≤ s - deficit_of key ts = omega arith in
    let c = ceil_le (r - deficit_of key ts) (s - deficit_of key ts) l.quantum q d in
    let t = mul-le-mul_right l.quantum (quanta-le (l.queues - 1) (place_of key ts) (div_ceil (r - deficit_of key ts) l.quantum) (div_ceil (s - deficit_of key ts) l.quantum) c) in
    omega (arith, t)

module _ {T : Type 0} where
  -- ## the turns of groups

  turns-refilled : (quantum : ℕ) (gs : List (Group T)) → turns_of_groups (group_refilled quantum gs) ≡ refill quantum (turns_of_groups gs)
  turns-refilled quantum gs = grind (arith, nat_tests)

  turns-changed : (change : Fair T → Fair T) (m : DrrLimits) (start outer : ℕ) (gs : List (Group T)) → turns_of_groups (changed change m start outer gs) ≡ join start outer (turns_of_groups gs)
  turns-changed change m start outer [] = refl
  turns-changed change m start outer (g ∷ gs) = grind (arith, nat_tests, turns-changed change m 0 outer gs, join 0 outer (turns_of_groups gs))

  pub has-groups : (key : ℕ) (gs : List (Group T)) → has key (turns_of_groups gs) ≡ has_group key gs
  has-groups key [] = refl
  has-groups key (g ∷ gs) = ap (λ z. cond (eqb g.key key) true z) (has-groups key gs)

  -- where something waits under two keys the outer key has a group
  pub has_group_from : (l : DrrLimits) (outer key : ℕ) (gs : List (Group T)) → has_key key (queues_of l outer gs).queues ≡ true
      → has_group outer gs ≡ true
  has_group_from l outer key gs h = grind (arith, nat_tests, queues_of_none l outer gs)

  module _ (measure : T → ℕ) where
    -- the length of what queues send next
    abbrev sends : List (Queue T) → Option ℕ
    sends [] = None
    sends (q ∷ qs) = Some (first_bytes measure q.items)

    sends_within : (qs : List (Queue T)) (y left : ℕ) → sends qs ≡ Some y → head_bytes measure qs ≤ left → y ≤ left
    sends_within qs y left e h = grind (arith, nat_tests)

    turns-settled : (quantum : ℕ) (g : Group T) (qs : List (Queue T)) (gs : List (Group T))
        → turns_of_groups (group_settled measure quantum g qs gs) ≡ settle quantum (sends qs) (turn g.key g.deficit) (turns_of_groups gs)
    turns-settled quantum g qs gs = grind (arith, nat_tests, turns-refilled, map_push)

    -- what fair queues send next is ahead of what a key has yet to send
    pub next_ahead_of : (m : DrrLimits) (key r : ℕ) (qs : List (Queue T)) → AreFair measure m qs → first_bytes measure (items_of key qs) ≤ r → head_bytes measure qs ≤ bytes_ahead m key r qs
    next_ahead_of m key r qs f w = grind (arith, nat_tests, head_ahead)

    module _ (l : DrrLimits) (inner : ℕ) where
      behind_groups : (gs : List (Group T)) → AreGroupsBehind measure l inner gs → AllByRecursion (λ (t : Turn). t.deficit < l.max) (turns_of_groups gs)
      behind_groups [] h = tt
      behind_groups (g ∷ gs) h = (h.0, behind_groups gs h.1)

      stand_groups : (gs : List (Group T)) → AreHier measure l inner gs → Stand l (turns_of_groups gs)
      stand_groups gs h = grind (arith, nat_tests, length-map, behind_groups)

      -- ## a take

      -- a take of the group of the keys
      own_falls : (k key bytes left d : ℕ) (m : DrrLimits) (qs : List (Queue T)) (gs : List (Group T)) → AreDrrLimits l
          → AreHier measure l inner (group k d (fair m qs) ∷ gs) → has_key key qs ≡ true → has_key key (taken measure m.quantum qs) ≡ true
          → left + cond (is_front key qs) (head_bytes measure qs) 0 ≡ bytes → first_bytes measure (items_of key (taken measure m.quantum qs)) ≤ left
          → ahead l k (bytes_ahead m key left (taken measure m.quantum qs)) (turns_of_groups (groups_taken measure l.quantum (group k d (fair m qs) ∷ gs))) + head_bytes measure qs
          ≤ ahead l k (bytes_ahead m key bytes qs) (turns_of_groups (group k d (fair m qs) ∷ gs))
      own_falls k key bytes left d m qs gs v h there later s n =
          let after : List (Queue T) = taken measure m.quantum qs in
          let g : Group T = group k (d - head_bytes measure qs) (fair m after) in
          let i = h.each.0 in
          let falls = taken_falls measure m key bytes left qs i.fair.limits i.fair.queues there later (grind (arith, nat_tests)) in
          grind (
            arith,
            nat_tests,
            falls,
            next_ahead_of m key left after (fair-taken measure m qs i.fair.limits i.fair.queues) n,
            turns-settled l.quantum g after gs,
            queues_of-settled_own measure l inner l.quantum k (d - head_bytes measure qs) m after gs h.each.1,
            has-groups,
            has_group_from m k key,
            sends_within after,
            length-map gs (λ (p : Group T). turn p.key p.deficit),
            falls_own l (bytes_ahead m key bytes qs) (bytes_ahead m key bytes qs - head_bytes measure qs) (head_bytes measure qs) (sends after) (turn k d) (turns_of_groups gs),
            ahead-le l k (bytes_ahead m key left after) (bytes_ahead m key bytes qs - head_bytes measure qs),
          )

      -- a take of another group
      other_falls : (outer r : ℕ) (g : Group T) (gs : List (Group T)) → (g.key ≡ outer → ⊥) → AreDrrLimits l → AreHier measure l inner (g ∷ gs) → has_group outer gs ≡ true
          → ahead l outer r (turns_of_groups (groups_taken measure l.quantum (g ∷ gs))) + head_bytes measure g.queues.queues ≤ ahead l outer r (turns_of_groups (g ∷ gs))
      other_falls outer r g gs n v h there =
          let after : List (Queue T) = taken measure g.queues.limits.quantum g.queues.queues in
          let p : Group T = group g.key (g.deficit - head_bytes measure g.queues.queues) (fair g.queues.limits after) in
          subst (λ z. ahead l outer r z + head_bytes measure g.queues.queues ≤ ahead l outer r (turns_of_groups (g ∷ gs))) (sym (turns-settled l.quantum p after gs))
          (falls_other l outer r (head_bytes measure g.queues.queues) (sends after) (turn g.key g.deficit) (turns_of_groups gs) (omega (arith, v.max, v.quantum)) n (has-groups outer gs ∙ there) h.turn.0)

      -- a take
      pub falls_under : (outer key bytes left : ℕ) (gs : List (Group T)) → IsHier measure (hier l inner gs)
          → has_key key (queues_of (inner_limits l inner) outer gs).queues ≡ true
          → has_key key (queues_of (inner_limits l inner) outer (groups_taken measure l.quantum gs)).queues ≡ true
          → IsLeftUnder measure (hier l inner gs) outer key bytes left
          → bytes_ahead_under (left_by_take measure (hier l inner gs)) outer key left + next_bytes measure gs
          ≤ bytes_ahead_under (hier l inner gs) outer key bytes
      falls_under outer key bytes left [] h w v n = absurd (cc)
      falls_under outer key bytes left (g ∷ gs) h w v n = grind (arith, nat_tests, queues_of-settled_own, own_falls, has_group_from, queues_of-settled_other, other_falls)

      -- ## an offer

      -- what an offer that is queued leaves of the measure within the group
      inner-offered_ahead : (outer key r o i : ℕ) (x : T) (gs : List (Group T))
          → has_key key (queues_of (inner_limits l inner) outer gs).queues ≡ true
          → lacks_queue (queues_of (inner_limits l inner) o gs) i ≡ false
          → lacks_room measure (queues_of (inner_limits l inner) o gs) i x ≡ false
          → bytes_ahead (inner_limits l inner) key r (queues_of (inner_limits l inner) outer
          (changed (λ f. offer_leaves measure f i x) (inner_limits l inner) l.quantum o gs)).queues
          ≡ bytes_ahead (inner_limits l inner) key r (queues_of (inner_limits l inner) outer gs).queues
      inner-offered_ahead outer key r o i x gs t q s =
          let li : DrrLimits = inner_limits l inner in
          let new : List (Group T) = changed (λ f. offer_leaves measure f i x) li l.quantum o gs in
          let f : Fair T = queues_of li o gs in
          grind (arith, cases_eq o outer, t, queues_of-changed (λ f. offer_leaves measure f i x) li l.quantum o gs, offered_is measure f i x q s, ahead-put measure li key r f.limits.quantum i x f.queues, queues_of-changed_other outer (λ f. offer_leaves measure f i x) li l.quantum o gs)

      pub offer_under : (outer key bytes o i : ℕ) (x : T) (gs : List (Group T)) → IsHier measure (hier l inner gs)
          → has_key key (queues_of (inner_limits l inner) outer gs).queues ≡ true
          → bytes_ahead_under (left_by_offer measure (hier l inner gs) o i x) outer key bytes
          ≡ bytes_ahead_under (hier l inner gs) outer key bytes
      offer_under outer key bytes o i x gs h t =
          let li : DrrLimits = inner_limits l inner in
          offer_cases (lacks_place (hier l inner gs) o i) (lacks_space measure (hier l inner gs) o i x) (hier l inner gs)
          (hier l inner (put_under measure (hier l inner gs) o i x))
          (λ z. bytes_ahead_under z outer key bytes ≡ bytes_ahead_under (hier l inner gs) outer key bytes)
          refl
          (λ p s.
          let q = (none_true (lacks_group (hier l inner gs) o) (lacks_queue (queues_of li o gs) i) p).1 in
          let room = (none_true (lacks_room measure (queues_of li o gs) i x)
          (leb (suc l.class_bytes) (all_group_bytes measure gs + measure x)) s).0 in
          ap (λ z. ahead l outer z (turns_of_groups (changed (λ f. offer_leaves measure f i x) li l.quantum o gs))) (inner-offered_ahead outer key bytes o i x gs t q room)
          ∙ (ap (λ z. ahead l outer (bytes_ahead li key bytes (queues_of li outer gs).queues) z) (turns-changed (λ f. offer_leaves measure f i x) li l.quantum o gs)
          ∙ ahead-join l outer (bytes_ahead li key bytes (queues_of li outer gs).queues) l.quantum o (turns_of_groups gs) (has-groups outer gs ∙ has_group_from li outer key gs t)))

      -- ## the bound

      pub most_under : (outer key bytes : ℕ) (gs : List (Group T)) → IsHier measure (hier l inner gs)
          → has_key key (queues_of (inner_limits l inner) outer gs).queues ≡ true → 1 ≤ bytes
          → bytes_ahead_under (hier l inner gs) outer key bytes ≤ most_until_under l inner bytes
      most_under outer key bytes gs h t b =
          let f : Fair T = queues_of (inner_limits l inner) outer gs in
          let o = inner_of measure l inner outer gs h.limits h.inner h.groups.each in
          grind (
            arith,
            nat_tests,
            o.0,
            ahead_most measure f.limits key bytes f.queues o.1.limits o.1.queues t b,
            ahead_enough measure (inner_limits l inner) key bytes f.queues,
            most l outer (bytes_ahead (inner_limits l inner) key bytes f.queues) (turns_of_groups gs),
            stand_groups gs h.groups,
            has-groups outer gs,
            has_group_from (inner_limits l inner) outer key gs t,
            most-le l (bytes_ahead (inner_limits l inner) key bytes f.queues) (most_until (inner_limits l inner) bytes),
          )

      pub enough_under : (outer key bytes : ℕ) (gs : List (Group T)) → bytes ≤ bytes_ahead_under (hier l inner gs) outer key bytes
      enough_under outer key bytes gs = grind (arith, nat_tests, ahead_enough)
