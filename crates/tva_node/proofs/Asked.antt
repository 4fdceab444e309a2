-- The link that decides first, by its key; and those that have nothing to do before it decides.
use Rattle.tva_node.proofs.Common.{◌≡◌, ℕ, zero, suc, ◌+◌, ◌-◌, ◌<◌, ◌≤◌, true, false, List, [], ◌∷◌, length, get_or, map, set, take, drop, All, Option, Some, None, refl, sym, subst, ◌∙◌, ap, arith, inl, inr, ◌==◌, IfSome, cases_lt, cond-true, cond-false, eq-eqb, ne_eqb, nat_tests, get_or_default, get_or-drop, get_or-set_other, get_or-set_same, get_or-take, length-drop, length-map, length-take, All-head, All-map, All-tail, All-weaker, LinkPlan, links_of, AreRising, limits_out, late_on, Link, AreKeys, AreNoKeys, IsFirstAsked, IsKey, IsRankOf, asked_by, first_link, is_asked, least_next, sooner, with_next, link_pair, KnowsNext, NodeState, DecidesAt}
use Rattle.std.proofs.lemmas.List.{length-set}
use Rattle.tva_index.specs.Lowest.{IsLeastPlace}
use Rattle.tva_node.proofs.Finding.{rises, rises_above}
use Rattle.tva_node.proofs.Works.{passed}
use Rattle.tva_node.proofs.Waits.{some_is}

-- ## by their keys

-- a link that decides then is no later than one that decides then
abbrev NoLater : Option ℕ → Option ℕ → Type 0
NoLater None b = b ≡ None
NoLater (Some a) None = Unit {0}
NoLater (Some a) (Some b) = a ≤ b

-- one in front decides no sooner, and not at the same time
in_front : (p q k l s : ℕ) (b : Option ℕ) → IsKey p (Some s) k → IsKey q b l → q < p → k ≤ l → IfSome b (λ t. s < t)
in_front p q k l s b f g before h = grind (arith, nat_tests)

-- one that decides at all decides no sooner
no_sooner : (s : ℕ) (b : Option ℕ) → NoLater (Some s) b → IfSome b (λ t. s ≤ t)
no_sooner s b h = grind (arith, nat_tests)

no_later_both : (a b c : Option ℕ) → NoLater a b → NoLater a c → NoLater a (sooner b c)
no_later_both a b c h k = grind (arith, nat_tests)

sooner_first : (a b : Option ℕ) → NoLater a b → sooner a b ≡ a
sooner_first a b h = grind (arith, nat_tests)

sooner_last : (a b : Option ℕ) → NoLater b a → sooner a b ≡ b
sooner_last a b h = grind (arith, nat_tests)

all_later : (a : Option ℕ) (ls : List Link) (d : Link) → ((q : ℕ) → q < length ls → NoLater a (get_or ls q d).next) → NoLater a (least_next ls)
all_later None [] d h = refl
all_later (Some s) [] d h = tt
all_later a (l ∷ ls) d h = no_later_both a l.next (least_next ls) (h 0 (omega arith)) (all_later a ls d (λ q m. h (suc q) (omega (arith, m))))

least_is : (ls : List Link) (p : ℕ) (d : Link) → p < length ls → ((q : ℕ) → q < length ls → NoLater (get_or ls p d).next (get_or ls q d).next) → least_next ls ≡ (get_or ls p d).next
least_is [] p d h k = absurd (omega arith)
least_is (l ∷ ls) zero d h k = sooner_first l.next (least_next ls) (all_later l.next ls d (λ q m. k (suc q) (omega (arith, m))))
least_is (l ∷ ls) (suc p) d h k = cc (least_is ls p d (omega arith) (λ q m. k (suc q) (omega (arith, m))), sooner_last l.next (get_or ls p d).next (k 0 (omega arith)))

module _ (keys : List ℕ) (ls : List Link) (p : ℕ) (x : Link) (h : AreKeys keys ls) (least : IsLeastPlace keys (Some p)) (is : x ≡ get_or ls p x) where
  here : p < length ls
  here = let c = h.count in let l = least.0 in omega (arith, c, l)

  later : (q : ℕ) (d : Link) → q < length ls → NoLater x.next (get_or ls q d).next
  later q d l = grind (arith, nat_tests)

  pub first_is : x.next ≡ least_next ls
  first_is = ap (λ (o : Link). o.next) is ∙ sym (least_is ls p x here (λ q l. subst (λ (o : Link). NoLater o.next (get_or ls q x).next) is (later q x l)))

  pub first_there : p < length ls
  first_there = here

  pub none_asked : (now : ℕ) → is_asked x.next now ≡ false → IsFirstAsked now ls None
  none_asked now e q d l = grind (arith, nat_tests)

  by_time : (next : Option ℕ) (now : ℕ) → x.next ≡ next → is_asked next now ≡ true → (time : ℕ) × (x.next ≡ Some time) × (time ≤ now)
  by_time next now f e = grind (arith, nat_tests)

  pub first_asked : (now : ℕ) → is_asked x.next now ≡ true → IsFirstAsked now ls (Some p)
  first_asked now e = grind (arith, nat_tests, by_time, here, get_or_default, in_front, no_sooner, later)

-- ## what is noted of a link

pub keys_put : (keys : List ℕ) (ls : List Link) (place key : ℕ) (next : Option ℕ) (x : Link) → AreKeys keys ls → place < length ls → IsKey place next key
    → AreKeys (set keys place key) (set ls place (record x { next = next }))
keys_put keys ls place key next x h l k = grind (arith, nat_tests, length-set, get_or-set_same, get_or-set_other)

-- ## keys of links that don't decide yet

few_from : (low : ℕ) (ns : List ℕ) → low ≤ 65536 → All (λ m. low ≤ m) ns → AreRising ns → All (λ m. m < 65536) ns → length ns + low ≤ 65536
few_from low [] h a r b = omega arith
few_from low (n ∷ ns) h a r b =
    let more = few_from (n + 1) ns (let s = All-head (λ m. m < 65536) n ns b in omega (arith, s)) (All-weaker (λ m. n < m) (λ m. n + 1 ≤ m) (λ m l. omega (arith, l)) ns r.0) r.1 (All-tail (λ m. m < 65536) n ns b) in
    omega (arith, more, (All-head (λ m. low ≤ m) n ns a))

pub few_links : (ls : List Link) → AreRising (links_of (map link_pair ls)) → All (λ (l : Link). l.number < 65536) ls → length ls ≤ 65536
few_links ls r small =
    let pairs = map link_pair ls in
    let numbers : All (λ m. m < 65536) (links_of pairs) =
    All-map (λ m. m < 65536) (λ (o : ℕ × LinkPlan). o.0) pairs (All-map (λ (o : ℕ × LinkPlan). o.0 < 65536) link_pair ls small) in
    let most = few_from 0 (links_of pairs) (omega arith) (λ k d l. omega arith) r numbers in
    omega (arith, most, (length-map pairs (λ (o : ℕ × LinkPlan). o.0)), (length-map ls link_pair))

first_next : (links : List (ℕ × LinkPlan)) (q : ℕ) (d : Link) → q < length (map first_link links) → (get_or (map first_link links) q d).next ≡ None
first_next [] q d l = absurd (omega (arith, l))
first_next (o ∷ os) zero d l = refl
first_next (o ∷ os) (suc q) d l = first_next os q d (omega (arith, l))

pub first_keyed : (keys : List ℕ) (ls : List Link) (links : List (ℕ × LinkPlan)) → ls ≡ map first_link links → length ls ≤ 65536 → AreNoKeys (length ls) keys → AreKeys keys ls
first_keyed keys ls links e few h = grind (arith, nat_tests, first_next)

-- ## by their numbers

pub low_to : (number middle : ℕ) (ls : List Link) (x : Link) → AreRising (links_of (map link_pair ls)) → middle < length ls → x ≡ get_or ls middle x → x.number < number
    → (q : ℕ) (d : Link) → q < middle + 1 → (get_or ls q d).number < number
low_to number middle ls x r l is low q d b = grind (arith, nat_tests, get_or_default, rises)

pub high_from : (number middle : ℕ) (ls : List Link) (x : Link) → AreRising (links_of (map link_pair ls)) → middle < length ls → x ≡ get_or ls middle x → number ≤ x.number
    → (q : ℕ) (d : Link) → middle ≤ q → q < length ls → number ≤ (get_or ls q d).number
high_from number middle ls x r l is high q d b m = grind (arith, nat_tests, get_or_default, rises)

other_unasked : (number now : ℕ) (l : Link) → (l.number ≡ number → ⊥) → asked_by (Some number) now l ≡ l
other_unasked number now l n = λ i. record l { next = cond-false (number == l.number) (Some now) l.next (ne_eqb number l.number (λ e. n (sym e))) i }

none_by : (number now : ℕ) (ls : List Link) → All (λ (l : Link). l.number ≡ number → ⊥) ls → map (asked_by (Some number) now) ls ≡ ls
none_by number now [] h = refl
none_by number now (l ∷ ls) h = grind (arith, nat_tests, other_unasked, All-head, All-tail, (none_by number now ls (All-tail (λ (x : Link). x.number ≡ number → ⊥) l ls h)))

pub asked_nothing : (now : ℕ) (ls : List Link) → map (asked_by None now) ls ≡ ls
asked_nothing now [] = refl
asked_nothing now (l ∷ ls) = λ i. l ∷ asked_nothing now ls i

asked_at : (number now : ℕ) (ls : List Link) (p : ℕ) (d : Link) → p < length ls → AreRising (links_of (map link_pair ls)) → (get_or ls p d).number ≡ number
    → map (asked_by (Some number) now) ls ≡ set ls p (record (get_or ls p d) { next = Some now })
asked_at number now [] p d l r e = absurd (omega (arith, l))
asked_at number now (x ∷ xs) zero d l r e = λ i.
    record x { next = cond-true (number == x.number) (Some now) x.next (eq-eqb number x.number (sym e)) i }
    ∷ none_by number now xs (All-weaker (λ (y : Link). x.number < y.number) (λ (y : Link). y.number ≡ number → ⊥) (λ y a f. omega (arith, a, e, f)) xs (rises_above x.number xs r.0)) i
asked_at number now (x ∷ xs) (suc p) d l r e = λ i.
    other_unasked number now x (λ f. let less = rises_above x.number xs r.0 p d (omega (arith, l)) in omega (arith, less, e, f)) i
    ∷ asked_at number now xs p d (omega (arith, l)) r.1 e i

-- the link of that number is asked
pub asked_rank : (number now : ℕ) (ls : List Link) (p : ℕ) (x : Link) → p < length ls → AreRising (links_of (map link_pair ls)) → x ≡ get_or ls p x → x.number ≡ number → (d : Link)
    → with_next p (Some now) ls d ≡ map (asked_by (Some number) now) ls
asked_rank number now ls p x l r is e d = grind (arith, nat_tests, asked_at, get_or_default)

-- no link has it
pub asked_no_rank : (number now : ℕ) (ls : List Link) (p : ℕ) → IsRankOf number ls p → AreRising (links_of (map link_pair ls)) → ((d : Link) → p < length ls → (get_or ls p d).number ≡ number → ⊥)
    → ls ≡ map (asked_by (Some number) now) ls
asked_no_rank number now ls p h r n = grind (arith, nat_tests, none_by, rises)

-- ## before it decides

any_link : (ls : List Link) → 0 < length ls → Link
any_link ls l = grind (arith, nat_tests)

unasked_late : (o : Option ℕ) (now time : ℕ) → IfSome o (λ t. time < t) → now ≤ time → is_asked o now ≡ false
unasked_late o now time h l = grind (arith, nat_tests)

-- links that are not asked are passed
pub skip : (v : NodeState) (now count from : ℕ) → from + count ≤ length v.links → ((q : ℕ) (d : Link) → from ≤ q → q < from + count → is_asked (get_or v.links q d).next now ≡ false) → DecidesAt v now from → DecidesAt v now (from + count)
skip v now zero from l h st = subst (DecidesAt v now) (let e : from ≡ from + 0 = omega arith in e) st
skip v now (suc count) from l h st =
    let d = any_link v.links (omega (arith, l)) in
    let next = passed v now from st.0 st.1 d st.2 st.3 st.4 (omega (arith, l)) (h from d (omega arith) (omega arith)) in
    rw (← let e : from + 1 + count ≡ from + suc count = omega arith in e) (skip v now count (from + 1) (omega (arith, l)) (λ q x a b. h q x (omega (arith, a)) (omega (arith, b))) next)

module _ (v : NodeState) (now from : ℕ) (st : DecidesAt v now from) where
  abbrev rank : ℕ
  rank = st.0

  decided_late : (q : ℕ) (d : Link) → q < length v.links → q < from → (time : ℕ) → (get_or v.links q d).next ≡ Some time → now < time
  decided_late q d l b time e =
      let link = get_or v.links q d in
      let in_front : q < length (take from v.links) = (let n = length-take from v.links in omega (arith, l, b, n)) in
      let low : link.number < rank = subst (λ (x : Link). x.number < rank) (get_or-take from v.links q d b) (st.2.before q d in_front) in
      let knows : KnowsNext v.site st.1 (now + 1) link = st.3.links q d l low in
      let late = late_on v.site st.1 (now + 1) time link.number (limits_out v.site link.number) (sym knows ∙ e) in
      omega (arith, late)

  awaiting_late : (q : ℕ) (d : Link) → q < length v.links → from ≤ q → (time : ℕ) → (get_or v.links q d).next ≡ Some time → now ≤ time
  awaiting_late q d l b time e =
      let link = get_or v.links q d in
      let at : from + (q - from) ≡ q = omega (arith, b) in
      let behind : q - from < length (drop from v.links) = (let n = length-drop from v.links in omega (arith, l, b, n)) in
      let high : rank ≤ link.number = subst (λ (x : Link). rank ≤ x.number) (get_or-drop from v.links (q - from) d ∙ ap (λ k. get_or v.links k d) at) (st.2.behind (q - from) d behind) in
      elim (st.4 q d l high) [
        | inl a ↦ let same : now ≡ time = some_is now time (sym a ∙ e) in omega (arith, same)
        | inr k ↦ late_on v.site st.1 now time link.number (limits_out v.site link.number) (sym k ∙ e)
      ]

  -- the first that is asked has not decided yet, and those up to it have nothing to do
  pub goes_on : (place : ℕ) → IsFirstAsked now v.links (Some place) → (from ≤ place) × DecidesAt v now place
  goes_on place first =
      let d = any_link v.links (let l = first.0 in omega (arith, l)) in
      let f = first.1 d in
      let behind : from ≤ place = elim (cases_lt place from) [
        | inl a ↦ absurd (let early = decided_late place d first.0 a f.0 f.1 in omega (arith, early, f.2))
        | inr a ↦ a
      ] in
      let at : from + (place - from) ≡ place = omega (arith, behind) in (
        behind,
        subst (DecidesAt v now) at
            (skip v now (place - from) from (let l = first.0 in omega (arith, l, at))
            (λ q x a b. let quiet = (first.1 x).3 q (omega (arith, b, at)) in
            let same : (first.1 x).0 ≡ f.0 = some_is (first.1 x).0 f.0 (sym (first.1 x).1 ∙ (ap (λ (y : Link). y.next) (get_or_default v.links place x d first.0) ∙ f.1)) in
            unasked_late (get_or v.links q x).next now (first.1 x).0 quiet (omega (arith, (awaiting_late place d first.0 behind f.0 f.1), same)))
            st),
      )

  -- where none is asked any more, all have decided
  pub goes_through : from ≤ length v.links → IsFirstAsked now v.links None → DecidesAt v now (length v.links)
  goes_through l none =
      let at : from + (length v.links - from) ≡ length v.links = omega (arith, l) in
      subst (DecidesAt v now) at
      (skip v now (length v.links - from) from (omega (arith, at)) (λ q x a b. none q x (omega (arith, b, at))) st)
