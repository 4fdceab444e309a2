-- The links of a node by their numbers.
use Rattle.tva_node.proofs.Common.{nat_tests, ◌≡◌, ℕ, zero, suc, ◌<◌, Bool, true, List, [], ◌∷◌, length, get_or, map, All, Option, Some, None, refl, sym, subst, ◌∙◌, arith, ◌==◌, option_map, find, eq-eqb, ne_eqb, eqb-true, cond-true, cond-false, All-head, All-map, All-tail, LinkLimits, LinkPlan, AreLinkLimits, links_of, AreRising, Site, IsSite, IsLinkOut, limits_out, Link, link_pair}

abbrev number_is : ℕ → ℕ × LinkPlan → Bool
number_is k o = o.0 == k

-- a number that no link has
pub find-none : (k : ℕ) (ls : List Link) → All (λ (l : Link). l.number ≡ k → ⊥) ls → find (λ o. o.0 == k) (map link_pair ls) ≡ None
find-none k [] h = refl
find-none k (l ∷ ls) h = grind (arith, nat_tests, All-head, All-tail, (find-none k ls (All-tail (λ (x : Link). x.number ≡ k → ⊥) l ls h)))

-- what is found meets what all meet, and the test
find_holds : {X : Type 0} (P : X → Type 0) (p : X → Bool) (xs : List X) (x : X) → All P xs → find p xs ≡ Some x → P x × (p x ≡ true)
find_holds P p [] x h e = absurd (cc)
find_holds P p (y ∷ ys) x h e = grind (arith, nat_tests, All-head, All-tail, (find_holds P p ys x (All-tail P y ys h)))

-- what is found is a link
pub find-some : (P : Link → Type 0) (k : ℕ) (ls : List Link) (o : ℕ × LinkPlan) → All P ls → find (λ x. x.0 == k) (map link_pair ls) ≡ Some o → (l : Link) × (P l × (l.number ≡ k))
find-some P k ls o h e =
    let Q : ℕ × LinkPlan → Type 0 = λ x. (l : Link) × (P l × (link_pair l ≡ x)) in
    let found = find_holds Q (λ x. x.0 == k) (map link_pair ls) o (All-map Q link_pair ls (λ i d m. (get_or ls i d, (h i d m, refl)))) e in
    (found.0.0, (found.0.1.0, eqb-true found.0.0.number k (subst (λ (x : ℕ × LinkPlan). (x.0 == k) ≡ true) (sym found.0.1.1) found.1)))

-- ## numbers that rise

pub rises_above : (n : ℕ) (ls : List Link) → All (λ m. n < m) (links_of (map link_pair ls)) → All (λ (l : Link). n < l.number) ls
rises_above n [] h k d l = absurd (omega (arith, l))
rises_above n (x ∷ xs) h zero d l = All-head (λ m. n < m) x.number (links_of (map link_pair xs)) h
rises_above n (x ∷ xs) h (suc k) d l = rises_above n xs (All-tail (λ m. n < m) x.number (links_of (map link_pair xs)) h) k d (omega (arith, l))

pub rises : (ls : List Link) (i j : ℕ) (d e : Link) → AreRising (links_of (map link_pair ls)) → i < j → j < length ls → (get_or ls i d).number < (get_or ls j e).number
rises [] i j d e r h l = absurd (omega (arith, l))
rises (x ∷ xs) i zero d e r h l = absurd (omega (arith, h))
rises (x ∷ xs) zero (suc j) d e r h l = rises_above x.number xs r.0 j e (omega (arith, l))
rises (x ∷ xs) (suc i) (suc j) d e r h l = rises xs i j d e r.1 (omega (arith, h)) (omega (arith, l))

-- where the numbers rise, a link is found by its number
pub find-at : (ls : List Link) (i : ℕ) (d : Link) → AreRising (links_of (map link_pair ls)) → i < length ls → find (λ o. o.0 == (get_or ls i d).number) (map link_pair ls) ≡ Some (link_pair (get_or ls i d))
find-at [] i d r h = absurd (omega arith)
find-at (l ∷ ls) zero d r h = cond-true (l.number == l.number) (Some (link_pair l)) (find (λ o. o.0 == l.number) (map link_pair ls)) (eq-eqb l.number l.number refl)
find-at (l ∷ ls) (suc i) d r h =
    let more : l.number < (get_or ls i d).number = rises_above l.number ls r.0 i d (omega arith) in
    cond-false (l.number == (get_or ls i d).number) (Some (link_pair l)) (find (λ o. o.0 == (get_or ls i d).number) (map link_pair ls)) (ne_eqb l.number (get_or ls i d).number (λ e. omega arith))
    ∙ find-at ls i d r.1 (omega arith)

-- a link out has valid limits, and its number
pub link_valid : (site : Site) (k : ℕ) (x : ℕ × LinkLimits) → IsSite site → limits_out site k ≡ Some x → AreLinkLimits x.1 × (x.0 ≡ k)
link_valid site k x s e = of_found (find (λ o. o.0 == k) site.links) refl e
  where
    of_found : (found : Option (ℕ × LinkPlan)) → find (λ o. o.0 == k) site.links ≡ found → option_map (λ o. (o.0, o.1.limits)) found ≡ Some x → AreLinkLimits x.1 × (x.0 ≡ k)
    of_found None f e = absurd (cc)
    of_found (Some o) f e =
        let h = find_holds (IsLinkOut site.number) (λ o. o.0 == k) site.links o s.links f in
        let pair : ℕ × LinkLimits = (o.0, o.1.limits) in
        let same : pair ≡ x = cc in
        subst (λ (y : ℕ × LinkLimits). AreLinkLimits y.1 × (y.0 ≡ k)) same (h.0.limits, eqb-true o.0 k h.1)
