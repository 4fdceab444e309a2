-- Going over the items of an array.
use Rattle.tva_config_entries.proofs.Common.{◌≡◌, ◌∙◌, ◌<◌, ◌≤◌, ◌+◌, ℕ, List, [], ◌∷◌, ◌++◌, length, get_or, drop, Option, Some, None, sym, ap, subst, append_assoc, append-nil, option_map, at_drop_more, at_drop_all, Data, Value, view, items_view, and_first, items}

-- so far these were found, and the rest of the array gives what is missing
abbrev pub Collects : {A : Type 0} → (Data → Option A) → List A → List Value → ℕ → Type 0
Collects kind found vs i = option_map (λ rest. found ++ rest) (items kind (items_view (drop i vs))) ≡ items kind (items_view vs)

rest_at : {A : Type 0} (kind : Data → Option A) (vs : List Value) (i : ℕ) (v : Value) → i < length vs → v ≡ get_or vs i v
    → items kind (items_view (drop i vs)) ≡ and_first (kind (view v)) (items kind (items_view (drop (i + 1) vs)))
rest_at kind vs i v within is =
    at_drop_more (λ l. items kind (items_view l)) vs i v within
    ∙ ap (λ z. and_first (kind (view z)) (items kind (items_view (drop (i + 1) vs)))) (sym is)

found_more : {A : Type 0} (found : List A) (x : A) (k : Option A) (o all : Option (List A)) → k ≡ Some x
    → option_map (λ rest. found ++ rest) (and_first k o) ≡ all → option_map (λ rest. (found ++ x ∷ []) ++ rest) o ≡ all
found_more found x None o all is e = absurd (cc)
found_more found x (Some y) None all is e = e
found_more found x (Some y) (Some ys) all is e =
    let same : y ≡ x = cc in
    ap Some (append_assoc found (x ∷ []) ys) ∙ subst (λ z. Some (found ++ z ∷ ys) ≡ all) same e

found_none : {A : Type 0} (found : List A) (k : Option A) (o all : Option (List A)) → k ≡ None
    → option_map (λ rest. found ++ rest) (and_first k o) ≡ all → None ≡ all
found_none found None o all is e = e
found_none found (Some y) o all is e = absurd (cc)

-- one more item of the kind
pub collects_more : {A : Type 0} (kind : Data → Option A) (found now : List A) (vs ws : List Value) (i : ℕ) (v : Value) (x : A)
    → ws ≡ vs → i < length ws → v ≡ get_or ws i v → kind (view v) ≡ Some x → now ≡ found ++ x ∷ []
    → Collects kind found vs i → Collects kind now vs (i + 1)
collects_more kind found now vs ws i v x same within is read pushed so_far =
    let here = rest_at kind vs i v (subst (λ l. i < length l) same within) (subst (λ l. v ≡ get_or l i v) same is) in
    subst (λ l. Collects kind l vs (i + 1)) (sym pushed)
    (found_more found x (kind (view v)) (items kind (items_view (drop (i + 1) vs))) (items kind (items_view vs)) read
    (ap (λ o. option_map (λ rest. found ++ rest) o) (sym here) ∙ so_far))

-- an item that isn't of the kind
pub collects_none : {A : Type 0} (kind : Data → Option A) (found : List A) (vs ws : List Value) (i : ℕ) (v : Value)
    → ws ≡ vs → i < length ws → v ≡ get_or ws i v → kind (view v) ≡ None → Collects kind found vs i → None ≡ items kind (items_view vs)
collects_none kind found vs ws i v same within is read so_far =
    let here = rest_at kind vs i v (subst (λ l. i < length l) same within) (subst (λ l. v ≡ get_or l i v) same is) in
    found_none found (kind (view v)) (items kind (items_view (drop (i + 1) vs))) (items kind (items_view vs)) read
    (ap (λ o. option_map (λ rest. found ++ rest) o) (sym here) ∙ so_far)

-- no item is left
pub collects_all : {A : Type 0} (kind : Data → Option A) (found : List A) (vs ws : List Value) (i : ℕ)
    → ws ≡ vs → length ws ≤ i → Collects kind found vs i → Some found ≡ items kind (items_view vs)
collects_all kind found vs ws i same past so_far =
    ap Some (sym (append-nil found))
    ∙ ap (λ o. option_map (λ rest. found ++ rest) o) (sym (at_drop_all (λ l. items kind (items_view l)) vs i (subst (λ l. length l ≤ i) same past)))
    ∙ so_far
