-- Where a test first passes, and one more element.
use Rattle.tva_config.proofs.Common.{◌≡◌, ℕ, ◌+◌, Bool, true, false, cond, ◌||◌, List, [], ◌∷◌, ◌++◌, length, Option, Some, None, is_some, refl, ap, sym, ◌∙◌, arith, list_any, position_from}

some_at : {A : Type 0} (test : A → Bool) (k : ℕ) (xs : List A) (b : Bool) → is_some (position_from test (k + 1) xs) ≡ list_any test xs → is_some (cond b (Some k) (position_from test (k + 1) xs)) ≡ (b || list_any test xs)
some_at test k xs true more = refl
some_at test k xs false more = more

pub position_is_some : {A : Type 0} (test : A → Bool) (k : ℕ) (xs : List A) → is_some (position_from test k xs) ≡ list_any test xs
position_is_some test k [] = refl
position_is_some test k (x ∷ xs) = some_at test k xs (test x) (position_is_some test (k + 1) xs)

push_at : {A : Type 0} (test : A → Bool) (k : ℕ) (ys : List A) (x : A) (b : Bool)
    → position_from test (k + 1) (ys ++ x ∷ []) ≡ cond (list_any test ys) (position_from test (k + 1) ys) (cond (test x) (Some ((k + 1) + length ys)) None)
    → cond b (Some k) (position_from test (k + 1) (ys ++ x ∷ [])) ≡ cond (b || list_any test ys) (cond b (Some k) (position_from test (k + 1) ys)) (cond (test x) (Some (k + (length ys + 1))) None)
push_at test k ys x true more = refl
push_at test k ys x false more =
    let same : (k + 1) + length ys ≡ k + (length ys + 1) = omega arith in
    more ∙ ap (λ n. cond (list_any test ys) (position_from test (k + 1) ys) (cond (test x) (Some n) None)) same

pub position_push : {A : Type 0} (test : A → Bool) (k : ℕ) (xs : List A) (x : A)
    → position_from test k (xs ++ x ∷ []) ≡ cond (list_any test xs) (position_from test k xs) (cond (test x) (Some (k + length xs)) None)
position_push test k [] x =
    let same : k ≡ k + 0 = omega arith in
    ap (λ n. cond (test x) (Some n) None) same
position_push test k (y ∷ ys) x =
    let long : length ys + 1 ≡ length (y ∷ ys) = omega arith in
    push_at test k ys x (test y) (position_push test (k + 1) ys x)
    ∙ ap (λ n. cond (test y || list_any test ys) (cond (test y) (Some k) (position_from test (k + 1) ys)) (cond (test x) (Some (k + n)) None)) long

none_at : {A : Type 0} (o : Option A) → cond (is_some o) o None ≡ o
none_at None = refl
none_at (Some x) = refl

pub position_or_none : {A : Type 0} (test : A → Bool) (k : ℕ) (xs : List A) → cond (list_any test xs) (position_from test k xs) None ≡ position_from test k xs
position_or_none test k xs = ap (λ b. cond b (position_from test k xs) None) (sym (position_is_some test k xs)) ∙ none_at (position_from test k xs)
