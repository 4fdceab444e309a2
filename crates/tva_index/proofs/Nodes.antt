-- A tree of numbers: each node has at most the numbers below it, and stays so where one is written.
use Rattle.tva_index.proofs.Common.{◌≡◌, ℕ, ◌+◌, ◌-◌, ◌*◌, ◌/◌, ◌<◌, ◌≤◌, min, List, length, get_or, set, drop, replicate, map, ◌∷◌, refl, sym, ap, ap₂, ◌∙◌, subst, inl, inr, zero, suc, Some, arith, cases_lt, cases_eq, get_or-set_same, get_or-set_other, get_or-replicate, get_or-drop, get_or-map, length-drop, IsLeastPlace, IsNode, AreNodes, AreNodesBut}

-- what is read at a place is the number there
pub number_at : {A : Type 0} (f : A → ℕ) (xs : List A) (i : ℕ) (x : A) → i < length xs → x ≡ get_or xs i x → get_or (map f xs) i 0 ≡ f x
number_at f xs i x l e = get_or-map f xs i x 0 l ∙ ap f (sym e)

-- a 0 everywhere
zeros : {A : Type 0} (f : A → ℕ) (z : A) (m : ℕ) → f z ≡ 0 → map f (replicate m z) ≡ replicate m 0
zeros f z zero e = refl
zeros f z (suc m) e = ap₂ ◌∷◌ e (zeros f z m e)

pub all_zero : {A : Type 0} (f : A → ℕ) (z : A) (n : ℕ) (xs : List A) → f z ≡ 0 → xs ≡ replicate (2 * n) z → map f xs ≡ replicate (2 * n) 0
all_zero f z n xs e q = ap (map f) q ∙ zeros f z (2 * n) e

pub nodes_zero : (n m : ℕ) (xs : List ℕ) → m ≡ 2 * n → xs ≡ replicate m 0 → AreNodes n xs
nodes_zero n m xs e f i a b = grind (arith, get_or-replicate)

-- a number is written below all inner nodes
pub nodes-leaf : (n leaf v : ℕ) (xs : List ℕ) → AreNodes n xs → n ≤ leaf → AreNodesBut n (set xs leaf v) (leaf / 2)
nodes-leaf n leaf v xs t l i a b d = grind (arith, get_or-set_other)

-- a node is mended
pub nodes-mend : (n at v : ℕ) (xs : List ℕ) → AreNodesBut n xs at → 0 < at → at < n → length xs ≡ 2 * n → v ≡ min (get_or xs (2 * at) 0) (get_or xs (2 * at + 1) 0) → AreNodesBut n (set xs at v) (at / 2)
nodes-mend n at v xs t p l s e i a b d = grind (arith, get_or-set_other, cases_eq, get_or-set_same)

-- where the one node is right, all are
pub nodes_all : (n at : ℕ) (xs : List ℕ) → AreNodesBut n xs at → (1 ≤ at → IsNode xs at) → AreNodes n xs
nodes_all n at xs t k i a b = elim (cases_eq i at) [ inl q ↦ subst (IsNode xs) (sym q) (k (omega (arith, q, a))) | inr q ↦ t i a b q ]

-- the root has at most each number
child : (n : ℕ) (xs : List ℕ) → AreNodes n xs → (j : ℕ) → 2 ≤ j → j < 2 * n → get_or xs (j / 2) 0 ≤ get_or xs j 0
child n xs t j a b = grind (arith, cases_eq)

root_within : (n : ℕ) (xs : List ℕ) → AreNodes n xs → (k j : ℕ) → j ≤ k → 1 ≤ j → j < 2 * n → get_or xs 1 0 ≤ get_or xs j 0
root_within n xs t zero j l a b = absurd (omega arith)
root_within n xs t (suc k) j l a b = grind (arith, cases_lt, root_within n xs t k (j / 2), child)

pub root-le : (n : ℕ) (xs : List ℕ) → AreNodes n xs → (j : ℕ) → 1 ≤ j → j < 2 * n → get_or xs 1 0 ≤ get_or xs j 0
root-le n xs t j a b = root_within n xs t j j (omega arith) a b

-- so the leaf that has the root's number has a least one
pub least_at : (n leaf p : ℕ) (xs : List ℕ) → AreNodes n xs → length xs ≡ 2 * n → n ≤ leaf → leaf < 2 * n → get_or xs leaf 0 ≡ get_or xs 1 0 → n + p ≡ leaf → IsLeastPlace (drop n xs) (Some p)
least_at n leaf p xs t s a b e w = grind (arith, length-drop n xs, root-le n xs t, get_or-drop n xs p 0, get_or-drop n xs)

-- and the root has at least what none of the numbers is below
root_above : (n b : ℕ) (xs : List ℕ) → AreNodes n xs → ((p : ℕ) → p < n → b ≤ get_or xs (n + p) 0) → (k j : ℕ) → 2 * n ≤ j + k → 1 ≤ j → j < 2 * n → b ≤ get_or xs j 0
root_above n b xs t f zero j l a d = absurd (omega arith)
root_above n b xs t f (suc k) j l a d =
    elim (cases_lt j n) [
      | inl h ↦ omega (arith, t j a h, root_above n b xs t f k (2 * j) (omega arith) (omega arith) (omega arith), root_above n b xs t f k (2 * j + 1) (omega arith) (omega arith) (omega arith))
      | inr h ↦ (let e : n + (j - n) ≡ j = omega arith in omega (arith, f (j - n) (omega arith), ap (λ (z : ℕ). get_or xs z 0) e))
    ]

-- the numbers, once one is written
leaf_is : (n p q v : ℕ) (xs ys : List ℕ) → drop n ys ≡ drop n (set xs (n + p) v) → get_or ys (n + q) 0 ≡ get_or (set xs (n + p) v) (n + q) 0
leaf_is n p q v xs ys e = sym (get_or-drop n ys q 0) ∙ (ap (λ (z : List ℕ). get_or z q 0) e ∙ get_or-drop n (set xs (n + p) v) q 0)

-- where the root has the number that is written, it is a least one
pub least_written : (n p v : ℕ) (xs ys : List ℕ) → length xs ≡ 2 * n → length ys ≡ 2 * n → AreNodes n ys → drop n ys ≡ drop n (set xs (n + p) v) → p < n → v ≡ get_or ys 1 0 → IsLeastPlace (drop n ys) (Some p)
least_written n p v xs ys s z t e l r =
    least_at n (n + p) p ys t z (omega arith) (omega arith) (omega (arith, leaf_is n p p v xs ys e, get_or-set_same xs (n + p) v 0 (omega arith), r)) (omega arith)

-- where it has not, one that was least elsewhere still is
pub least_kept : (n p f v : ℕ) (xs ys : List ℕ) → length xs ≡ 2 * n → length ys ≡ 2 * n → AreNodes n ys → drop n ys ≡ drop n (set xs (n + p) v) → p < n → (v ≡ get_or ys 1 0 → ⊥) → IsLeastPlace (drop n xs) (Some f) → (p ≡ f → ⊥) → IsLeastPlace (drop n ys) (Some f)
least_kept n p f v xs ys s z t e l r least d =
    let here : get_or ys (n + p) 0 ≡ v = leaf_is n p p v xs ys e ∙ get_or-set_same xs (n + p) v 0 (omega arith) in
    let there : (q : ℕ) → (q ≡ p → ⊥) → get_or ys (n + q) 0 ≡ get_or xs (n + q) 0 = λ q o. leaf_is n p q v xs ys e ∙ get_or-set_other xs (n + p) (n + q) v 0 (λ w. o (omega (arith, w))) in
    let was : (q : ℕ) → q < n → get_or xs (n + f) 0 ≤ get_or xs (n + q) 0 = λ q o. omega (arith, least.1 q (omega (arith, length-drop n xs)), get_or-drop n xs f 0, get_or-drop n xs q 0) in
    let is : (q : ℕ) → q < n → min v (get_or xs (n + f) 0) ≤ get_or ys (n + q) 0 = λ q o.
    elim (cases_eq q p) [ inl w ↦ omega (arith, here, ap (λ (z : ℕ). get_or ys (n + z) 0) w) | inr w ↦ omega (arith, there q w, was q o) ] in
    let more : get_or xs (n + f) 0 < v = elim (cases_lt (get_or xs (n + f) 0) v) [
      | inl h ↦ h
      | inr h ↦ absurd (r (omega (arith, here, root-le n ys t (n + p) (omega arith) (omega arith), root_above n (min v (get_or xs (n + f) 0)) ys t is (2 * n) 1 (omega arith) (omega arith) (omega arith))))
    ] in (
      omega (arith, least.0, length-drop n xs, length-drop n ys),
      λ q o. omega (arith, is q (omega (arith, o, length-drop n ys)), more, there f (λ w. d (sym w)), get_or-drop n ys f 0, get_or-drop n ys q 0),
    )
