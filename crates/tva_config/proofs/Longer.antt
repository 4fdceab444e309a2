-- A list that grows from the front of another.
use Rattle.tva_config.proofs.Common.{◌≡◌, ◌∙◌, ◌==◌, ◌<◌, ◌≤◌, ◌+◌, ℕ, cond, List, [], ◌∷◌, ◌++◌, length, get_or, drop, Option, Some, None, sym, ap, arith, append_assoc, append-nil, cons_option, filter_map, nat_tests, drop_more, drop_all, picked}

-- one more element is found, and the rest is one shorter
pub longer : {B : Type 0} (found now : List B) (y : B) (before rest all : List B)
    → before ≡ y ∷ rest → now ≡ found ++ y ∷ [] → found ++ before ≡ all → now ++ rest ≡ all
longer found now y before rest all next pushed so_far =
    ap (λ l. l ++ rest) pushed ∙ append_assoc found (y ∷ []) rest ∙ ap (λ l. found ++ l) (sym next) ∙ so_far

-- an element that isn't wanted
pub as_long : {B : Type 0} (found now before rest all : List B)
    → before ≡ rest → now ≡ found → found ++ before ≡ all → now ++ rest ≡ all
as_long found now before rest all next same so_far = ap (λ l. l ++ rest) same ∙ ap (λ l. found ++ l) (sym next) ∙ so_far

-- nothing is left
pub whole : {B : Type 0} (found before all : List B) → before ≡ [] → found ++ before ≡ all → found ≡ all
whole found before all over so_far = sym (append-nil found) ∙ ap (λ l. found ++ l) (sym over) ∙ so_far

-- what is taken where two numbers are one
pub taken : {B : Type 0} (n m : ℕ) (y : B) → n ≡ m → cond (n == m) (Some y) None ≡ Some y
taken n m y same = grind (arith, nat_tests)

pub skipped : {B : Type 0} (n m : ℕ) (y : B) → (n ≡ m → ⊥) → cond (n == m) (Some y) None ≡ None
skipped n m y other = grind (arith, nat_tests)

-- going over a list whose chosen elements are found
pub picked_one : {A B : Type 0} (choice : ℕ → A → Option B) (xs : List A) (i : ℕ) (d : A) (y : B) (found now all : List B)
    → i < length xs → choice i (get_or xs i d) ≡ Some y → now ≡ found ++ y ∷ []
    → found ++ picked choice i (drop i xs) ≡ all → now ++ picked choice (i + 1) (drop (i + 1) xs) ≡ all
picked_one choice xs i d y found now all within chosen pushed so_far =
    longer found now y (picked choice i (drop i xs)) (picked choice (i + 1) (drop (i + 1) xs)) all
    (ap (picked choice i) (drop_more xs i d within) ∙ ap (λ o. cons_option o (picked choice (i + 1) (drop (i + 1) xs))) chosen) pushed so_far

pub picked_none : {A B : Type 0} (choice : ℕ → A → Option B) (xs : List A) (i : ℕ) (d : A) (found now all : List B)
    → i < length xs → choice i (get_or xs i d) ≡ None → now ≡ found
    → found ++ picked choice i (drop i xs) ≡ all → now ++ picked choice (i + 1) (drop (i + 1) xs) ≡ all
picked_none choice xs i d found now all within chosen same so_far =
    as_long found now (picked choice i (drop i xs)) (picked choice (i + 1) (drop (i + 1) xs)) all
    (ap (picked choice i) (drop_more xs i d within) ∙ ap (λ o. cons_option o (picked choice (i + 1) (drop (i + 1) xs))) chosen) same so_far

pub picked_all : {A B : Type 0} (choice : ℕ → A → Option B) (xs : List A) (i : ℕ) (found all : List B)
    → length xs ≤ i → found ++ picked choice i (drop i xs) ≡ all → found ≡ all
picked_all choice xs i found all past so_far = whole found (picked choice i (drop i xs)) all (ap (picked choice i) (drop_all i xs past)) so_far

-- the same where an element's number doesn't count
pub mapped_one : {A B : Type 0} (choice : A → Option B) (xs : List A) (i : ℕ) (d : A) (y : B) (found now all : List B)
    → i < length xs → choice (get_or xs i d) ≡ Some y → now ≡ found ++ y ∷ []
    → found ++ filter_map choice (drop i xs) ≡ all → now ++ filter_map choice (drop (i + 1) xs) ≡ all
mapped_one choice xs i d y found now all within chosen pushed so_far =
    longer found now y (filter_map choice (drop i xs)) (filter_map choice (drop (i + 1) xs)) all
    (ap (filter_map choice) (drop_more xs i d within) ∙ ap (λ o. cons_option o (filter_map choice (drop (i + 1) xs))) chosen) pushed so_far

pub mapped_none : {A B : Type 0} (choice : A → Option B) (xs : List A) (i : ℕ) (d : A) (found now all : List B)
    → i < length xs → choice (get_or xs i d) ≡ None → now ≡ found
    → found ++ filter_map choice (drop i xs) ≡ all → now ++ filter_map choice (drop (i + 1) xs) ≡ all
mapped_none choice xs i d found now all within chosen same so_far =
    as_long found now (filter_map choice (drop i xs)) (filter_map choice (drop (i + 1) xs)) all
    (ap (filter_map choice) (drop_more xs i d within) ∙ ap (λ o. cons_option o (filter_map choice (drop (i + 1) xs))) chosen) same so_far

pub mapped_all : {A B : Type 0} (choice : A → Option B) (xs : List A) (i : ℕ) (found all : List B)
    → length xs ≤ i → found ++ filter_map choice (drop i xs) ≡ all → found ≡ all
mapped_all choice xs i found all past so_far = whole found (filter_map choice (drop i xs)) all (ap (filter_map choice) (drop_all i xs past)) so_far
