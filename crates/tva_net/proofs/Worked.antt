-- Nodes that are worked up to a time, one after another or all at once.
use Rattle.tva_net.proofs.Common.{◌≡◌, ℕ, ◌-◌, ◌<◌, ◌≤◌, List, [], ◌∷◌, length, get_or, set, All, refl, sym, subst, ◌∙◌, ap, arith, AllByRecursion, AllZip, sum_by, get_or_default, get_or-set_other, length-set, All-from_recursion, All-head, All-set, All-tail, recursion_from_All, sum_by-set, IsAdvanced, Keeps, NodeState, Stands, keeps_on, keeps_same, HasNoneBefore, IsElsewhere, Rises, AreAllPlaces, AreThrough, CanGoTo, IsPutAmong, IsThrough, IsWorkedAt, HasWorkBefore, AllZip-same}
use Rattle.tva_net.proofs.Lists.{zip_more}
use Rattle.tva_net.proofs.Mails.{zip_set}

-- ## what is kept

pub kept_more : (a b c : List NodeState) → AllZip Keeps a b → AllZip Keeps b c → AllZip Keeps a c
kept_more a b c h k = zip_more Keeps keeps_on a b c h k

pub kept_set : (nodes : List NodeState) (place : ℕ) (v : NodeState) → ((d : NodeState) → Keeps (get_or nodes place d) v) → AllZip Keeps nodes (set nodes place v)
kept_set nodes place v k = zip_set Keeps keeps_same nodes place v (k v)

pub kept_at : (nodes : List NodeState) (place : ℕ) (u v : NodeState) → place < length nodes → Keeps (get_or nodes place u) v → AllZip Keeps nodes (set nodes place v)
kept_at nodes place u v l k = kept_set nodes place v (λ d. subst (λ x. Keeps x v) (get_or_default nodes place u d l) k)

pub worked_at : (until : ℕ) (nodes : List NodeState) (place : ℕ) (u v : NodeState) → place < length nodes → IsAdvanced until (get_or nodes place u) v → Keeps (get_or nodes place u) v → IsWorkedAt until place nodes (set nodes place v)
worked_at until nodes place u v l a k = record {
  node = v;
  written = refl;
  advanced = λ d. subst (λ x. IsAdvanced until x v) (get_or_default nodes place u d l) a;
  keeps = λ d. subst (λ x. Keeps x v) (get_or_default nodes place u d l) k;
}

-- ## one after another

-- so far these were worked
pub record AreWorkedSoFar (until : ℕ) (olds nodes : List NodeState) (places : List ℕ) : Type 0 where
  pub stand : AllByRecursion Stands nodes
  pub reach : All (CanGoTo until) nodes
  pub kept : AllZip Keeps olds nodes
  pub count : length nodes ≡ length olds
  pub rises : Rises places
  pub within : AllByRecursion (λ place. place < length olds) places
  pub others : (place : ℕ) (d : NodeState) → place < length olds → IsElsewhere places place → get_or nodes place d ≡ get_or olds place d

pub none_worked : (until : ℕ) (nodes : List NodeState) (places : List ℕ) → places ≡ [] → AllByRecursion Stands nodes → All (CanGoTo until) nodes → AreWorkedSoFar until nodes nodes places
none_worked until nodes places none stand reach = subst (AreWorkedSoFar until nodes nodes) (sym none) (record {
  stand = stand;
  reach = reach;
  kept = AllZip-same Keeps keeps_same nodes;
  count = refl;
  rises = tt;
  within = tt;
  others = λ place d l k. refl;
})

reaches : (until : ℕ) (u v : NodeState) → CanGoTo until u → IsAdvanced until u v → Keeps u v → (v.worked_to ≡ until) × CanGoTo until v
reaches until u v can a k =
    let from = can.0 in
    let to = can.1 in
    let upto = a.upto in
    let same = k.horizon in
    let e : v.worked_to ≡ until = omega (arith, from, to, upto) in
    (e, (omega (arith, e), omega (arith, to, same)))

module _ (until place : ℕ) (nodes news : List NodeState) (l : place < length nodes) (worked : IsWorkedAt until place nodes news) where
  new_count : length news ≡ length nodes
  new_count = ap length worked.written ∙ length-set nodes place worked.node

  pub one_more : (olds : List NodeState) (places more : List ℕ) → AreWorkedSoFar until olds nodes places → IsPutAmong place places more → AreWorkedSoFar until olds news more
  one_more olds places more h put =
      let v = worked.node in
      let at = reaches until (get_or nodes place v) v (h.reach place v l) (worked.advanced v) (worked.keeps v) in
      record {
        stand = recursion_from_All Stands news (subst (All Stands) (sym worked.written) (All-set Stands nodes place v (worked.advanced v).stands (All-from_recursion Stands nodes h.stand)));
        reach = subst (All (CanGoTo until)) (sym worked.written) (All-set (CanGoTo until) nodes place v at.1 h.reach);
        kept = kept_more olds nodes news h.kept (subst (AllZip Keeps nodes) (sym worked.written) (kept_set nodes place v worked.keeps));
        count = new_count ∙ h.count;
        rises = put.rises;
        within = put.within (length olds) (omega (arith, l, h.count)) h.within;
        others = λ other d m k.
            let (apart, elsewhere) = put.elsewhere other k in
            ap (λ vs. get_or vs other d) worked.written
            ∙ (get_or-set_other nodes place other v d (λ e. apart (sym e)) ∙ h.others other d m elsewhere);
      }

  -- less is left to do
  pub less_left : AllByRecursion Stands nodes → All (CanGoTo until) nodes → ((d : NodeState) → HasWorkBefore until (get_or nodes place d)) → sum_by (λ v. until - v.worked_to) news < sum_by (λ v. until - v.worked_to) nodes
  less_left stand reach work =
      let v = worked.node in
      let u = get_or nodes place v in
      let (log, s) = All-from_recursion Stands nodes stand place v l in
      let (time, soon, has) = work v in
      let from : u.worked_to ≤ time = (has log s).1.0 in
      let at : v.worked_to ≡ until = (reaches until u v (reach place v l) (worked.advanced v) (worked.keeps v)).0 in
      let sums = sum_by-set (λ (x : NodeState). until - x.worked_to) nodes place v v l in
      let new : sum_by (λ (x : NodeState). until - x.worked_to) news ≡ sum_by (λ (x : NodeState). until - x.worked_to) (set nodes place v) =
      ap (sum_by (λ (x : NodeState). until - x.worked_to)) worked.written in
      omega (arith, sums, new, at, from, soon)

through_each : (until : ℕ) (nodes : List NodeState) → AllByRecursion Stands nodes → All (CanGoTo until) nodes → All (HasNoneBefore until) nodes → All (IsThrough until) nodes
through_each until nodes stand reach none n d l = record {
  stands = All-from_recursion Stands nodes stand n d l;
  worked_to = (reach n d l).0;
  rests = none n d l;
}

pub all_worked : (until : ℕ) (olds nodes : List NodeState) (places : List ℕ) → AreWorkedSoFar until olds nodes places → All (HasNoneBefore until) nodes → AreThrough until olds nodes places
all_worked until olds nodes places h none = record {
  each = recursion_from_All (IsThrough until) nodes (through_each until nodes h.stand h.reach none);
  placed = record { rises = h.rises; within = subst (λ n. AllByRecursion (λ place. place < n) places) (sym h.count) h.within };
  others = λ place d l k. h.others place d (let c = h.count in omega (arith, l, c)) k;
}

-- ## all at once

advanced_through : (until : ℕ) (olds news : List NodeState) → All (CanGoTo until) olds → AllZip (IsAdvanced until) olds news → AllZip Keeps olds news → AllByRecursion (IsThrough until) news
advanced_through until [] [] reach a k = tt
advanced_through until [] (v ∷ vs) reach a k = absurd a
advanced_through until (u ∷ us) [] reach a k = absurd a
advanced_through until (u ∷ us) (v ∷ vs) reach a k =
    let (at, can) = reaches until u v (All-head (CanGoTo until) u us reach) a.0 k.0 in (
      record {
        stands = a.0.stands;
        worked_to = can.0;
        rests = λ log time s l m w. let from = w.0 in absurd (omega (arith, at, from, m));
      },
      advanced_through until us vs (All-tail (CanGoTo until) u us reach) a.1 k.1,
    )

pub all_advanced : (until : ℕ) (olds news : List NodeState) (places : List ℕ) → All (CanGoTo until) olds → AllZip (IsAdvanced until) olds news → AllZip Keeps olds news → AreAllPlaces (length news) places → AreThrough until olds news places
all_advanced until olds news places reach a k all = record {
  each = advanced_through until olds news reach a k;
  placed = all.placed;
  others = λ place d l e. absurd (all.all place l e);
}
