-- When each node has work next, as it is noted.
use Rattle.tva_net.proofs.Common.{◌≡◌, ℕ, ◌+◌, ◌<◌, ◌≤◌, List, [], ◌∷◌, length, get_or, All, Option, Some, None, sym, subst, ◌∙◌, ap, arith, inl, inr, AllByRecursion, cases_eq, cases_lt, get_or_default, get_or-set_other, get_or-set_same, length-set, All-from_recursion, All-weaker, slice_get-get_or, Time, Entry, NodeState, Stands, StandsFor, IsSameBut, HasNone, HasNoneBefore, HasWorkAt, IsFirstTime, IsFirstDue, AreNoted, HasWorkBefore, IsNext, IsNoted, IsNotedAt, number_of}
use Rattle.tva_index.specs.Lowest.{IsLeastPlace}

-- ## what is noted

-- the next times of the first so many nodes are noted
pub record AreNotedTo (to : ℕ) (times : List ℕ) (nodes : List NodeState) : Type 0 where
  pub count : length times ≡ length nodes
  pub each : (place : ℕ) (d : NodeState) → place < to → IsNoted (get_or times place 0) (get_or nodes place d)

pub noted_first : (times : List ℕ) (nodes : List NodeState) → length times ≡ length nodes → AreNotedTo 0 times nodes
noted_first times nodes c = record { count = c; each = λ place d l. absurd (omega (arith, l)) }

written_count : (place : ℕ) (old new : List ℕ) (nodes : List NodeState) → IsNotedAt place old new nodes → length new ≡ length old
written_count place old new nodes w = ap length w.written ∙ length-set old place w.number

written_here : (place other : ℕ) (old new : List ℕ) (nodes : List NodeState) (d : NodeState) → place < length old → IsNotedAt place old new nodes → other ≡ place → IsNoted (get_or new other 0) (get_or nodes other d)
written_here place other old new nodes d l w e =
    subst (λ k. IsNoted (get_or new k 0) (get_or nodes k d)) (sym e)
    (subst (λ n. IsNoted n (get_or nodes place d)) (sym (ap (λ ns. get_or ns place 0) w.written ∙ get_or-set_same old place w.number 0 l)) (w.noted d))

written_there : (place other : ℕ) (old new : List ℕ) (nodes : List NodeState) → IsNotedAt place old new nodes → (other ≡ place → ⊥) → get_or new other 0 ≡ get_or old other 0
written_there place other old new nodes w e = ap (λ ns. get_or ns other 0) w.written ∙ get_or-set_other old place other w.number 0 e

pub noted_more : (place : ℕ) (old new : List ℕ) (nodes : List NodeState) → place < length nodes → AreNotedTo place old nodes → IsNotedAt place old new nodes → AreNotedTo (place + 1) new nodes
noted_more place old new nodes l h w = record {
  count = written_count place old new nodes w ∙ h.count;
  each = λ other d m.
      elim (cases_eq other place) [
        | inl e ↦ written_here place other old new nodes d (omega (arith, l, h.count)) w e
        | inr e ↦ subst (λ n. IsNoted n (get_or nodes other d)) (sym (written_there place other old new nodes w e)) (h.each other d (omega (arith, m, e)))
      ];
}

pub noted_last : (place : ℕ) (times : List ℕ) (nodes : List NodeState) → length nodes ≤ place → AreNotedTo place times nodes → AreNoted times nodes
noted_last place times nodes l h = record { count = h.count; each = λ other d m. h.each other d (omega (arith, l, m)) }

-- where something happened to one node alone, and its time is noted
pub noted_after : (place : ℕ) (old new : List ℕ) (before after : List NodeState) → AreNoted old before → IsSameBut place before after → IsNotedAt place old new after → AreNoted new after
noted_after place old new before after h same w = record {
  count = written_count place old new after w ∙ (h.count ∙ sym same.0);
  each = λ other d m.
      elim (cases_eq other place) [
        | inl e ↦ written_here place other old new after d (let c = same.0 in omega (arith, m, e, c, h.count)) w e
        | inr e ↦
            subst (λ v. IsNoted (get_or new other 0) v) (sym (same.1 other d e))
            (subst (λ n. IsNoted n (get_or before other d)) (sym (written_there place other old new after w e)) (h.each other d (let c = same.0 in omega (arith, m, c))))
      ];
}

-- ## the first of them

-- what is no later than a node's next time is no later than what is noted of it
no_later : (v : NodeState) (log : List Entry) (next other : Option Time) → StandsFor v log → IsNext v next → IsNext v other → number_of next ≤ number_of other
no_later v log None None s k m = omega arith
no_later v log None (Some b) s k m = absurd (k log s b.0 (m log s).0 (m log s).1)
no_later v log (Some a) None s k m = let within = (k log s).0 in let few = s.horizon.0 in omega (arith, within, few)
no_later v log (Some a) (Some b) s k m = elim (cases_lt b.0 a.0) [ inl l ↦ absurd ((k log s).2 b.0 l (m log s).1) | inr l ↦ l ]

never : (v : NodeState) (number : ℕ) → IsNoted number v → 1000000000000001 ≤ number → HasNone v
never v number (None, e, k) l = λ log time s m w. k log s time m w
never v number (Some u, e, k) l = λ log time s m w. let within = (k log s).0 in let few = s.horizon.0 in absurd (omega (arith, l, e, within, few))

none_until : (v : NodeState) (number until : ℕ) → IsNoted number v → until ≤ number → HasNoneBefore until v
none_until v number until (None, e, k) l = λ log time s m n w. k log s time m w
none_until v number until (Some u, e, k) l = λ log time s m n w. (k log s).2 time (omega (arith, n, l, e)) w

module _ (times : List ℕ) (nodes : List NodeState) (noted : AreNoted times nodes) (stand : AllByRecursion Stands nodes) where
  module _ (place : ℕ) (v : NodeState) (least : IsLeastPlace times (Some place)) (is : v ≡ get_or nodes place v) where
    here : place < length nodes
    here = let l = least.0 in let c = noted.count in omega (arith, l, c)

    -- the number in that place is no less than the next time
    number_there : (next : Option Time) → IsNext v next → number_of next ≤ get_or times place 0
    number_there next k =
        let q = subst (IsNoted (get_or times place 0)) (sym is) (noted.each place v here) in
        let (log, s) = subst Stands (sym is) (All-from_recursion Stands nodes stand place v here) in
        let most = no_later v log next q.0 s k q.2 in
        let same = q.1 in
        omega (arith, most, same)

    number_of_all : (next : Option Time) → IsNext v next → (n : ℕ) → n < length nodes → number_of next ≤ get_or times n 0
    number_of_all next k n l =
        let a = number_there next k in
        let b = least.1 n (let c = noted.count in omega (arith, l, c)) in
        omega (arith, a, b)

    pub due_never : IsNext v None → All HasNone nodes
    due_never k n d l = never (get_or nodes n d) (get_or times n 0) (noted.each n d l) (number_of_all None k n l)

    pub due_first : (time : Time) → IsNext v (Some time) → IsFirstDue nodes (Some (place, time))
    due_first time k = (
      here,
      λ d. subst (HasWorkAt time.0) (is ∙ get_or_default nodes place v d here) (λ log s. ((k log s).0, (k log s).1)),
      λ n d l. none_until (get_or nodes n d) (get_or times n 0) time.0 (noted.each n d l) (number_of_all (Some time) k n l),
    )

pub first_is : (nodes : List NodeState) (due : ℕ × Time) → IsFirstDue nodes (Some due) → IsFirstTime nodes (Some due.1)
first_is [] due h = absurd (let l = h.0 in omega (arith, l))
first_is (v ∷ vs) due h = (
  record { place = due.0; node = get_or (v ∷ vs) due.0 v; is_node = slice_get-get_or (v ∷ vs) due.0 v h.0; work = h.1 v },
  h.2,
)

-- ## before a time

pub none_at_all : (until : ℕ) (nodes : List NodeState) → All HasNone nodes → All (HasNoneBefore until) nodes
none_at_all until nodes h = All-weaker HasNone (HasNoneBefore until) (λ v k log time s l m w. k log time s l w) nodes h

pub none_sooner : (until time : ℕ) (nodes : List NodeState) → until ≤ time → All (HasNoneBefore time) nodes → All (HasNoneBefore until) nodes
none_sooner until time nodes l h = All-weaker (HasNoneBefore time) (HasNoneBefore until) (λ v k log t s m n w. k log t s m (omega (arith, n, l)) w) nodes h

pub work_before : (until : ℕ) (nodes : List NodeState) (due : ℕ × Time) → IsFirstDue nodes (Some due) → due.1.0 < until → (d : NodeState) → HasWorkBefore until (get_or nodes due.0 d)
work_before until nodes due h l d = (due.1.0, l, h.1 d)
