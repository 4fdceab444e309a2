-- Places in their order: one more is put among them, and all of them.
use Rattle.tva_net.proofs.Common.{◌≡◌, ℕ, zero, suc, ◌+◌, ◌<◌, ◌≤◌, List, [], ◌∷◌, ◌++◌, length, get_or, arith, inl, inr, AllByRecursion, insert, cases_lt, get_or_default, All-from_recursion, recursion_from_All, each-append, each-weaker, Rises, AreAllPlaces, IsPutAmong}

-- ## one more place

each_insert : (P : ℕ → Type 0) (xs : List ℕ) (i y : ℕ) → P y → AllByRecursion P xs → AllByRecursion P (insert xs i y)
each_insert P [] zero y p h = (p, tt)
each_insert P [] (suc i) y p h = (p, tt)
each_insert P (x ∷ xs) zero y p h = (p, h)
each_insert P (x ∷ xs) (suc i) y p h = (h.0, each_insert P xs i y p h.1)

each_inserted : (P : ℕ → Type 0) (xs : List ℕ) (i y : ℕ) → AllByRecursion P (insert xs i y) → P y × AllByRecursion P xs
each_inserted P [] zero y h = (h.0, tt)
each_inserted P [] (suc i) y h = (h.0, tt)
each_inserted P (x ∷ xs) zero y h = (h.0, h.1)
each_inserted P (x ∷ xs) (suc i) y h = let k = each_inserted P xs i y h.1 in (k.0, (h.0, k.1))

rises_insert : (xs : List ℕ) (i y : ℕ) → Rises xs → i ≤ length xs → ((k : ℕ) → k < i → get_or xs k 0 < y) → ((k : ℕ) → i ≤ k → k < length xs → y < get_or xs k 0) → Rises (insert xs i y)
rises_insert [] zero y h l below above = (tt, tt)
rises_insert [] (suc i) y h l below above = absurd (omega (arith, l))
rises_insert (x ∷ xs) zero y h l below above = (
  recursion_from_All (λ z. y < z) (x ∷ xs) (λ k d m. let e = get_or_default (x ∷ xs) k d 0 m in let a = above k (omega arith) m in omega (arith, e, a)),
  h,
)
rises_insert (x ∷ xs) (suc i) y h l below above = (
  each_insert (λ z. x < z) xs i y (below 0 (omega arith)) h.0,
  rises_insert xs i y h.1 (omega (arith, l)) (λ k m. below (suc k) (omega (arith, m))) (λ k a b. above (suc k) (omega (arith, a)) (omega (arith, b))),
)

pub rises_sorted : (xs : List ℕ) → Rises xs → (i j : ℕ) → i ≤ j → j < length xs → get_or xs i 0 ≤ get_or xs j 0
rises_sorted [] h i j l m = absurd (omega (arith, m))
rises_sorted (x ∷ xs) h zero zero l m = omega arith
rises_sorted (x ∷ xs) h zero (suc j) l m = let k = All-from_recursion (λ z. x < z) xs h.0 j 0 (omega (arith, m)) in omega (arith, k)
rises_sorted (x ∷ xs) h (suc i) zero l m = absurd (omega (arith, l))
rises_sorted (x ∷ xs) h (suc i) (suc j) l m = rises_sorted xs h.1 i j (omega (arith, l)) (omega (arith, m))

pub put_new : (xs : List ℕ) (place i : ℕ) → Rises xs → i ≤ length xs → ((k : ℕ) → k < i → get_or xs k 0 < place) → ((k : ℕ) → i ≤ k → k < length xs → place < get_or xs k 0) → IsPutAmong place xs (insert xs i place)
put_new xs place i h l below above = record {
  rises = rises_insert xs i place h l below above;
  within = λ count m k. each_insert (λ z. z < count) xs i place m k;
  elsewhere = λ other k. each_inserted (λ z. z ≡ other → ⊥) xs i place k;
}

-- ## all places

each_pushed : (P : ℕ → Type 0) (xs : List ℕ) (y : ℕ) → AllByRecursion P (xs ++ y ∷ []) → P y × AllByRecursion P xs
each_pushed P [] y h = (h.0, tt)
each_pushed P (x ∷ xs) y h = let k = each_pushed P xs y h.1 in (k.0, (h.0, k.1))

rises_push : (xs : List ℕ) (y : ℕ) → Rises xs → AllByRecursion (λ z. z < y) xs → Rises (xs ++ y ∷ [])
rises_push [] y h l = (tt, tt)
rises_push (x ∷ xs) y h l = (each-append (λ z. x < z) xs (y ∷ []) h.0 (l.0, tt), rises_push xs y h.1 l.1)

pub all_none : AreAllPlaces 0 []
all_none = record { placed = record { rises = tt; within = tt }; all = λ place l. absurd (omega (arith, l)) }

pub all_more : (n : ℕ) (xs : List ℕ) → AreAllPlaces n xs → AreAllPlaces (n + 1) (xs ++ n ∷ [])
all_more n xs h = record {
  placed = record {
    rises = rises_push xs n h.placed.rises h.placed.within;
    within = each-append (λ z. z < n + 1) xs (n ∷ []) (each-weaker (λ z. z < n) (λ z. z < n + 1) (λ z l. omega (arith, l)) xs h.placed.within) (omega arith, tt);
  };
  all = λ place l k.
      let both = each_pushed (λ z. z ≡ place → ⊥) xs n k in
      elim (cases_lt place n) [
        | inl m ↦ h.all place m both.1
        | inr m ↦ both.0 (let e : n ≡ place = omega (arith, l, m) in e)
      ];
}
