-- The last numbers of a list that aren't 0, one by one.
use Rattle.tva_shim.proofs.Common.{◌≡◌, ℕ, ◌<◌, ◌+◌, Bool, true, false, cond, nat_lt, List, [], ◌∷◌, ◌++◌, length, get_or, take, filter, refl, sym, ap, ◌∙◌, append-nil, take_more, filter-append, last_or_zero, last_but_one_or_zero}

abbrev last : List ℕ → ℕ
last ns = last_or_zero (filter (nat_lt 0) ns)

abbrev before : List ℕ → ℕ
before ns = last_but_one_or_zero (filter (nat_lt 0) ns)

last_or_zero-push : (ns : List ℕ) (n : ℕ) → last_or_zero (ns ++ n ∷ []) ≡ n
last_or_zero-push (m ∷ k ∷ ns) n = last_or_zero-push (k ∷ ns) n
last_or_zero-push _ n = refl

last_or_zero-chosen : (b : Bool) (ns : List ℕ) (n : ℕ) → last_or_zero (ns ++ cond b (n ∷ []) []) ≡ cond b n (last_or_zero ns)
last_or_zero-chosen true ns n = last_or_zero-push ns n
last_or_zero-chosen false ns n = ap last_or_zero (append-nil ns)

-- one more
pub last-more : (ns : List ℕ) (i d so_far next : ℕ) → i < length ns → so_far ≡ last (take i ns)
    → next ≡ cond (nat_lt 0 (get_or ns i d)) (get_or ns i d) so_far → next ≡ last (take (i + 1) ns)
last-more ns i d so_far next h is one_more =
    let n = get_or ns i d in
    one_more ∙ ap (cond (nat_lt 0 n) n) is
    ∙ sym (ap last (take_more ns i d h) ∙ (ap last_or_zero (filter-append (nat_lt 0) (take i ns) (n ∷ [])) ∙ last_or_zero-chosen (nat_lt 0 n) (filter (nat_lt 0) (take i ns)) n))

-- ## the one before

last_but_one-push : (ns : List ℕ) (n : ℕ) → last_but_one_or_zero (ns ++ n ∷ []) ≡ last_or_zero ns
last_but_one-push (m ∷ k ∷ j ∷ ns) n = last_but_one-push (k ∷ j ∷ ns) n
last_but_one-push _ n = refl

last_but_one-chosen : (b : Bool) (ns : List ℕ) (n : ℕ)
    → last_but_one_or_zero (ns ++ cond b (n ∷ []) []) ≡ cond b (last_or_zero ns) (last_but_one_or_zero ns)
last_but_one-chosen true ns n = last_but_one-push ns n
last_but_one-chosen false ns n = ap last_but_one_or_zero (append-nil ns)

pub before-more : (ns : List ℕ) (i d so_far one_before next : ℕ) → i < length ns → so_far ≡ last (take i ns)
    → one_before ≡ before (take i ns) → next ≡ cond (nat_lt 0 (get_or ns i d)) so_far one_before
    → next ≡ before (take (i + 1) ns)
before-more ns i d so_far one_before next h last_is before_is one_more =
    let n = get_or ns i d in
    one_more ∙ ap (λ x. cond (nat_lt 0 n) x one_before) last_is
    ∙ ap (λ x. cond (nat_lt 0 n) (last (take i ns)) x) before_is
    ∙ sym (ap before (take_more ns i d h) ∙ (ap last_but_one_or_zero (filter-append (nat_lt 0) (take i ns) (n ∷ [])) ∙ last_but_one-chosen (nat_lt 0 n) (filter (nat_lt 0) (take i ns)) n))
