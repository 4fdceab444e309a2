-- Times that rise, and one more of them.
use Rattle.tva_config.proofs.Common.{◌≡◌, ◌<◌, ◌&&◌, ◌||◌, ℕ, nat_le, suc, Bool, true, false, cond, List, [], ◌∷◌, ◌++◌, map, filter, Option, Some, None, All, refl, sym, subst, arith, append-nil, list_any, leb-false, nat_tests, map-append, All-nil, filter-append, AreRising, is_late, all_cons, all_push}
use Rattle.tva_config.proofs.StepsKeep.{or_false}

-- a number above all others, behind them
pub rising_push : (ns : List ℕ) (n : ℕ) → AreRising ns → All (λ m. m < n) ns → AreRising (ns ++ n ∷ [])
rising_push [] n rising below = (All-nil (λ m. n < m), tt)
rising_push (m ∷ ms) n rising below =
    (all_push (λ k. m < k) ms n rising.0 (below 0 m (omega arith)), rising_push ms n rising.1 (λ j d within. below (suc j) d (omega arith)))

below_one : {A : Type 0} (time : A → ℕ) (n : ℕ) (x : A) (rest : List A) (b : Bool) → (b && nat_le n (time x)) ≡ false
    → All (λ m. m < n) (map time rest) → All (λ m. m < n) (map time (cond b (x ∷ rest) rest))
below_one time n x rest true none below = all_cons (λ m. m < n) (time x) (map time rest) (leb-false n (time x) none) below
below_one time n x rest false none below = below

-- where none that passes has a time that isn't smaller, all have a smaller one
below_all : {A : Type 0} (test : A → Bool) (time : A → ℕ) (n : ℕ) (xs : List A) → list_any (λ y. test y && nat_le n (time y)) xs ≡ false
    → All (λ m. m < n) (map time (filter test xs))
below_all test time n [] none = All-nil (λ m. m < n)
below_all test time n (x ∷ xs) none =
    let (here, there) = or_false (test x && nat_le n (time x)) (list_any (λ y. test y && nat_le n (time y)) xs) none in
    below_one time n x (filter test xs) (test x) here (below_all test time n xs there)

pushed_time : {A : Type 0} (time : A → ℕ) (before : List A) (x : A) (b : Bool) → AreRising (map time before)
    → (b ≡ true → All (λ m. m < time x) (map time before)) → AreRising (map time (before ++ cond b (x ∷ []) []))
pushed_time time before x true rising below =
    subst AreRising (sym (map-append time before (x ∷ []))) (rising_push (map time before) (time x) rising (below refl))
pushed_time time before x false rising below = subst (λ l. AreRising (map time l)) (sym (append-nil before)) rising

-- the times of those that pass rise, also behind one more
pub rising_more : {A : Type 0} (test : A → Bool) (time : A → ℕ) (done : List A) (x : A) → AreRising (map time (filter test done))
    → (test x ≡ true → list_any (λ y. test y && nat_le (time x) (time y)) done ≡ false) → AreRising (map time (filter test (done ++ x ∷ [])))
rising_more test time done x rising after =
    subst (λ l. AreRising (map time l)) (sym (filter-append test done (x ∷ [])))
    (pushed_time time (filter test done) x (test x) rising (λ passes. below_all test time (time x) done (after passes)))

late_or_last : (a b : Bool) → (a ≡ true → b ≡ true) → b ≡ (a || (b || false))
late_or_last a b more = grind arith

or_nothing : (a : Bool) → a ≡ (a || (false || false))
or_nothing a = grind arith

later : (last time t : ℕ) → nat_le time last ≡ false → nat_le t last ≡ true → nat_le t time ≡ true
later last time t after late = grind (arith, nat_tests)

-- what a map of last times says behind one more time, which is later than those of its key
pub pushed_late : (b : Bool) (old : Option ℕ) (time t : ℕ) → (b ≡ true → is_late old time ≡ false)
    → is_late (cond b (Some time) old) t ≡ (is_late old t || ((b && nat_le t time) || false))
pushed_late false old time t after = or_nothing (is_late old t)
pushed_late true None time t after = late_or_last false (nat_le t time) (λ no. absurd (cc))
pushed_late true (Some last) time t after = late_or_last (nat_le t last) (nat_le t time) (later last time t (after refl))
