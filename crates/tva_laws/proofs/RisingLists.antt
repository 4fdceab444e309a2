-- Lists with keys that rise, and where a list stands from which another one was picked.
use Rattle.tva_laws.proofs.Common.{◌≡◌, ◌≤◌, ◌<◌, ℕ, suc, ◌+◌, Bool, true, List, [], ◌∷◌, ◌++◌, length, Option, Some, None, refl, ap, sym, subst, ◌∙◌, arith, append_assoc, filter, AllByRecursion, filter_map, cons_option, recursion_from_All, All-from_recursion, each-append, AreRising, each_front, nat_tests}

head_same : {X : Type 0} (x y : X) (xs ys : List X) → x ∷ xs ≡ y ∷ ys → x ≡ y
head_same x y xs ys e = cc

tail_same : {X : Type 0} (x y : X) (xs ys : List X) → x ∷ xs ≡ y ∷ ys → xs ≡ ys
tail_same x y xs ys e = cc

not_cons : {X : Type 0} (x : X) (xs : List X) → [] ≡ x ∷ xs → ⊥
not_cons x xs e = cc

-- ## what holds of each

-- what holds at each place holds of each
pub each_at : {X : Type 0} (P : X → Type 0) (before xs : List X)
    → ((front : List X) (x : X) (back : List X) → before ++ xs ≡ front ++ x ∷ back → P x) → AllByRecursion P xs
each_at P before [] k = tt
each_at P before (x ∷ xs) k = (
  k before x xs refl,
  each_at P (before ++ x ∷ []) xs (λ front y back e. k front y back (sym (append_assoc before (x ∷ []) xs) ∙ e)),
)

-- what holds of each that passes
pub each_kept : {X : Type 0} (P : X → Type 0) (q : X → Bool) (xs : List X) → AllByRecursion (λ x. q x ≡ true → P x) xs
    → AllByRecursion P (filter q xs)
each_kept P q [] k = tt
each_kept P q (x ∷ xs) k = grind (arith, nat_tests, each_kept P q xs k.1)

-- ## numbers that rise

abbrev pub Rises : List ℕ → Type 0
Rises [] = Unit {0}
Rises (n ∷ ns) = AllByRecursion (λ m. n < m) ns × Rises ns

pub rises-push : (ns : List ℕ) (n : ℕ) → Rises ns → AllByRecursion (λ m. m < n) ns → Rises (ns ++ n ∷ [])
rises-push [] n r a = (tt, tt)
rises-push (m ∷ ms) n r a = (each-append (λ k. m < k) ms (n ∷ []) r.0 (a.0, tt), rises-push ms n r.1 a.1)

pub rises_from : (ns : List ℕ) → AreRising ns → Rises ns
rises_from [] r = tt
rises_from (n ∷ ns) r = (recursion_from_All (λ m. n < m) ns r.0, rises_from ns r.1)

pub rising_from : (ns : List ℕ) → Rises ns → AreRising ns
rising_from [] r = tt
rising_from (n ∷ ns) r = (All-from_recursion (λ m. n < m) ns r.0, rising_from ns r.1)

pub each_rest : {X : Type 0} (P : X → Type 0) (o : Option X) (xs : List X) → AllByRecursion P (cons_option o xs) → AllByRecursion P xs
each_rest P o xs h = grind (arith, nat_tests)

pub rises_rest : (o : Option ℕ) (ns : List ℕ) → Rises (cons_option o ns) → Rises ns
rises_rest o ns h = grind (arith, nat_tests)

pub rises_front : (ns ms : List ℕ) → Rises (ns ++ ms) → Rises ns
rises_front [] ms r = tt
rises_front (n ∷ ns) ms r = (each_front (λ m. n < m) ns ms r.0, rises_front ns ms r.1)

pub each_last : {X : Type 0} (P : X → Type 0) (xs : List X) (x : X) → AllByRecursion P (xs ++ x ∷ []) → P x
each_last P [] x h = h.0
each_last P (y ∷ ys) x h = each_last P ys x h.1

-- the last one is the greatest
pub rises_last : (ns : List ℕ) (n : ℕ) → Rises (ns ++ n ∷ []) → Rises ns × AllByRecursion (λ m. m < n) ns
rises_last [] n r = (tt, tt)
rises_last (m ∷ ms) n r =
    let rest = rises_last ms n r.1 in
    ((each_front (λ k. m < k) ms (n ∷ []) r.0, rest.0), (each_last (λ k. m < k) ms n r.0, rest.1))

-- so many are there at most
pub few_rise : (m n : ℕ) (ns : List ℕ) → Rises ns → AllByRecursion (λ k. m ≤ k) ns → AllByRecursion (λ k. k < n) ns → m ≤ n
    → m + length ns ≤ n
few_rise m n [] r a b l = omega arith
few_rise m n (k ∷ ks) r a b l =
    let from : m ≤ k = a.0 in
    grind (arith, nat_tests, few_rise (suc k) n ks r.1 (later ks r.0) b.1 (omega arith))
  where
    later : (js : List ℕ) → AllByRecursion (λ j. k < j) js → AllByRecursion (λ j. suc k ≤ j) js
    later [] h = tt
    later (j ∷ js) h = (let i : k < j = h.0 in omega arith, later js h.1)

-- ## keys

module _ {X : Type 0} (key : X → Option ℕ) where
  -- what has a key stands behind what is less
  pub key_within : (n m : ℕ) (xs : List X) (y : X) (ys : List X) → key y ≡ Some m → AllByRecursion (λ k. n < k)
      (filter_map key (xs ++ y ∷ ys)) → n < m
  key_within n m [] y ys e a = (subst (λ (o : Option ℕ). AllByRecursion (λ k. n < k) (cons_option o (filter_map key ys))) e a).0
  key_within n m (x ∷ xs) y ys e a = key_within n m xs y ys e (each_rest (λ k. n < k) (key x) (filter_map key (xs ++ y ∷ ys)) a)

  past : (n : ℕ) (x : X) (xs : List X) → key x ≡ Some n → Rises (filter_map key (x ∷ xs)) → AllByRecursion (λ k. n < k) (filter_map key xs)
  past n x xs e r = (subst (λ (o : Option ℕ). Rises (cons_option o (filter_map key xs))) e r).0

  pub record Same (b : List X) (d : X) (a c : List X) (e : X) (f : List X) : Type 0 where
    pub before : b ≡ c
    pub here : d ≡ e
    pub after : a ≡ f

  -- where keys rise, what has a key stands at one place
  pub one_place : (b : List X) (d : X) (a c : List X) (e : X) (f : List X) (n : ℕ) → b ++ d ∷ a ≡ c ++ e ∷ f → key d ≡ Some n
      → key e ≡ Some n → Rises (filter_map key (b ++ d ∷ a)) → Same b d a c e f
  one_place [] d a [] e f n same k l r = record { before = refl; here = head_same d e a f same; after = tail_same d e a f same }
  one_place [] d a (y ∷ ys) e f n same k l r =
      let rest : a ≡ ys ++ e ∷ f = tail_same d y a (ys ++ e ∷ f) same in
      let late : AllByRecursion (λ j. n < j) (filter_map key (ys ++ e ∷ f)) =
      subst (λ (xs : List X). AllByRecursion (λ j. n < j) (filter_map key xs)) rest (past n d a k r) in
      grind (arith, nat_tests, key_within n n ys e f l late)
  one_place (x ∷ xs) d a [] e f n same k l r =
      let here : key x ≡ Some n = ap key (head_same x e (xs ++ d ∷ a) f same) ∙ l in
      grind (arith, nat_tests, key_within n n xs d a k (past n x (xs ++ d ∷ a) here r), past n x (xs ++ d ∷ a) here r)
  one_place (x ∷ xs) d a (y ∷ ys) e f n same k l r = grind (arith, nat_tests, tail_same, rises_rest, head_same, one_place xs d a ys e f n (tail_same x y (xs ++ d ∷ a) (ys ++ e ∷ f) same) k l (rises_rest (key x) (filter_map key (xs ++ d ∷ a)) r))

-- ## what was picked

pub record Place {X Y : Type 0} (h : X → Option Y) (xs : List X) (front : List Y) (y : Y) : Type 0 where
  pub before : List X
  pub at : X
  pub after : List X
  pub is : xs ≡ before ++ at ∷ after
  pub gives : h at ≡ Some y
  pub front_is : filter_map h before ≡ front

place_by : {X Y : Type 0} (h : X → Option Y) (x : X) (xs : List X) (front : List Y) (y : Y) (back : List Y) (o : Option Y) → h x ≡ o
    → ((zs : List Y) → filter_map h xs ≡ zs ++ y ∷ back → Place h xs zs y)
    → cons_option o (filter_map h xs) ≡ front ++ y ∷ back → Place h (x ∷ xs) front y
place_by h x xs front y back None is rest e =
    let p = rest front e in
    record {
      before = x ∷ p.before;
      at = p.at;
      after = p.after;
      is = ap (λ zs. x ∷ zs) p.is;
      gives = p.gives;
      front_is = ap (λ o. cons_option o (filter_map h p.before)) is ∙ p.front_is;
    }
place_by h x xs [] y back (Some z) is rest e = record {
  before = [];
  at = x;
  after = xs;
  is = refl;
  gives = is ∙ ap Some (head_same z y (filter_map h xs) back e);
  front_is = refl;
}
place_by h x xs (w ∷ ws) y back (Some z) is rest e =
    let p = rest ws (tail_same z w (filter_map h xs) (ws ++ y ∷ back) e) in
    record {
      before = x ∷ p.before;
      at = p.at;
      after = p.after;
      is = ap (λ zs. x ∷ zs) p.is;
      gives = p.gives;
      front_is = grind (arith, nat_tests, head_same);
    }

-- where each that was picked stands
pub place : {X Y : Type 0} (h : X → Option Y) (xs : List X) (front : List Y) (y : Y) (back : List Y)
    → filter_map h xs ≡ front ++ y ∷ back → Place h xs front y
place h [] [] y back e = absurd (not_cons y back e)
place h [] (z ∷ zs) y back e = absurd (not_cons z (zs ++ y ∷ back) e)
place h (x ∷ xs) front y back e = place_by h x xs front y back (h x) refl (λ zs k. place h xs zs y back k) e
