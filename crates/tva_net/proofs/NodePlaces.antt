-- What the nodes in places have.
use Rattle.tva_net.proofs.Common.{◌≡◌, ℕ, suc, ◌+◌, ◌<◌, ◌≤◌, List, [], ◌∷◌, ◌++◌, length, get_or, drop, refl, sym, subst, ◌∙◌, ap, ap₂, arith, inl, inr, flat_map, AllByRecursion, option_map_or, cases_eq, append_assoc, drop_all, drop_more, recursion_from_All, slice_get-get_or, each-weaker, NodeState, of_place, picked, ArePlaces, IsElsewhere, Rises}

pub of_place_is : {X : Type 0} (has : NodeState → List X) (nodes : List NodeState) (place : ℕ) (d : NodeState) → place < length nodes → of_place has nodes place ≡ has (get_or nodes place d)
of_place_is has nodes place d l = ap (λ o. option_map_or has o []) (slice_get-get_or nodes place d l)

pub picked_more : {X : Type 0} (has : NodeState → List X) (nodes : List NodeState) (places : List ℕ) (i d : ℕ) → i < length places
    → picked has nodes (drop i places) ≡ of_place has nodes (get_or places i d) ++ picked has nodes (drop (i + 1) places)
picked_more has nodes places i d l = ap (picked has nodes) (drop_more places i d l)

pub picked_last : {X : Type 0} (has : NodeState → List X) (nodes : List NodeState) (places : List ℕ) (i : ℕ) → length places ≤ i → picked has nodes (drop i places) ≡ []
picked_last has nodes places i l = ap (picked has nodes) (drop_all i places l)

-- what one node more has is put behind
pub picked_step : {X : Type 0} (has : NodeState → List X) (nodes : List NodeState) (places : List ℕ) (i : ℕ) (v : NodeState) (old new whole : List X) → i < length places → get_or places i 0 < length nodes
    → v ≡ get_or nodes (get_or places i 0) v → new ≡ old ++ has v → old ++ picked has nodes (drop i places) ≡ whole → new ++ picked has nodes (drop (i + 1) places) ≡ whole
picked_step {X} has nodes places i v old new whole l m is e h =
    let rest : List X = picked has nodes (drop (i + 1) places) in
    let here : of_place has nodes (get_or places i 0) ≡ has v = of_place_is has nodes (get_or places i 0) v m ∙ ap has (sym is) in
    let next : picked has nodes (drop i places) ≡ has v ++ rest = picked_more has nodes places i 0 l ∙ ap (λ xs. xs ++ rest) here in
    ap (λ xs. xs ++ rest) e ∙ (append_assoc old (has v) rest ∙ (ap (λ xs. old ++ xs) (sym next) ∙ h))

-- from a place on, what all nodes have is what those in these places have, where the others have nothing
since_from : {X : Type 0} (has : NodeState → List X) (f : ℕ → List X) (k : ℕ) (nodes : List NodeState) (places : List ℕ) → ((i : ℕ) → i < length nodes → f (k + i) ≡ of_place has nodes i) → Rises places → AllByRecursion (λ z. k ≤ z) places → AllByRecursion (λ z. z < k + length nodes) places
    → ((i : ℕ) → i < length nodes → IsElsewhere places (k + i) → of_place has nodes i ≡ []) → flat_map has nodes ≡ flat_map f places
since_from has f k [] [] e r a b none = refl
since_from has f k [] (p ∷ ps) e r a b none = absurd (let from = a.0 in let to = b.0 in omega (arith, from, to))
since_from has f k (v ∷ vs) [] e r a b none =
    ap₂ (λ xs ys. xs ++ ys) (none 0 (omega arith) tt)
    (since_from has f (k + 1) vs []
    (λ i l. let same : k + 1 + i ≡ k + suc i = omega arith in ap f same ∙ e (suc i) (omega (arith, l))) tt tt tt
    (λ i l out. none (suc i) (omega (arith, l)) tt))
since_from has f k (v ∷ vs) (p ∷ ps) e r a b none =
    elim (cases_eq p k) [
      | inl here ↦
          ap₂ (λ xs ys. xs ++ ys) (sym (let same : p ≡ k + 0 = omega (arith, here) in ap f same ∙ e 0 (omega arith)))
          (since_from has f (k + 1) vs ps
          (λ i l. let same : k + 1 + i ≡ k + suc i = omega arith in ap f same ∙ e (suc i) (omega (arith, l))) r.1
          (each-weaker (λ z. p < z) (λ z. k + 1 ≤ z) (λ z l. omega (arith, l, here)) ps r.0)
          (each-weaker (λ z. z < k + length (v ∷ vs)) (λ z. z < k + 1 + length vs) (λ z l. omega (arith, l)) ps b.1)
          (λ i l out.
          let same : k + 1 + i ≡ k + suc i = omega arith in
          none (suc i) (omega (arith, l)) ((λ q. omega (arith, q, here)), subst (IsElsewhere ps) same out)))
      | inr there ↦
          let late : k < p = let from = a.0 in omega (arith, from, there) in
          ap₂ (λ xs ys. xs ++ ys)
          (none 0 (omega arith) ((λ q. omega (arith, q, late)), each-weaker (λ z. p < z) (λ z. z ≡ k + 0 → ⊥) (λ z l q. omega (arith, l, q, late)) ps r.0))
          (since_from has f (k + 1) vs (p ∷ ps)
          (λ i l. let same : k + 1 + i ≡ k + suc i = omega arith in ap f same ∙ e (suc i) (omega (arith, l))) r
          ((omega (arith, late)), each-weaker (λ z. p < z) (λ z. k + 1 ≤ z) (λ z l. omega (arith, l, late)) ps r.0)
          (let to = b.0 in omega (arith, to), each-weaker (λ z. z < k + length (v ∷ vs)) (λ z. z < k + 1 + length vs) (λ z l. omega (arith, l)) ps b.1)
          (λ i l out.
          let same : k + 1 + i ≡ k + suc i = omega arith in
          none (suc i) (omega (arith, l)) (subst (IsElsewhere (p ∷ ps)) same out)))
    ]

-- what all nodes have is what those in these places have, where the others have nothing
pub since_picked : {X : Type 0} (has : NodeState → List X) (nodes : List NodeState) (places : List ℕ) → ArePlaces (length nodes) places
    → ((i : ℕ) (d : NodeState) → i < length nodes → IsElsewhere places i → has (get_or nodes i d) ≡ []) → flat_map has nodes ≡ picked has nodes places
since_picked has [] places h none = since_from has (of_place has []) 0 [] places (λ i l. absurd (omega (arith, l))) h.rises
    (recursion_from_All (λ z. 0 ≤ z) places (λ k d l. omega arith)) (each-weaker (λ z. z < 0) (λ z. z < 0 + 0) (λ z l. l) places h.within) (λ i l out. absurd (omega (arith, l)))
since_picked has (v ∷ vs) places h none =
    let nodes = v ∷ vs in
    since_from has (of_place has nodes) 0 nodes places (λ i l. let same : 0 + i ≡ i = omega arith in ap (of_place has nodes) same) h.rises
    (recursion_from_All (λ z. 0 ≤ z) places (λ k d l. omega arith))
    (each-weaker (λ z. z < length nodes) (λ z. z < 0 + length nodes) (λ z l. omega (arith, l)) places h.within)
    (λ i l out. let same : 0 + i ≡ i = omega arith in of_place_is has nodes i v l ∙ none i v l (subst (IsElsewhere places) same out))
