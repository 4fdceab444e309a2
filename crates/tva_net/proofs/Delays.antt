-- The least delay.
use Rattle.tva_net.proofs.Common.{◌≡◌, ℕ, ◌+◌, ◌-◌, ◌<◌, List, [], ◌∷◌, ◌++◌, length, get_or, take, drop, refl, sym, subst, ◌∙◌, ap, arith, add-one, take_more, take_rest, length-drop, get_or-drop, LinkPlan, least_delay}
use Rattle.std.specs.Prelude.{min}

least_more : (none : ℕ) (x : LinkPlan) (xs : List LinkPlan) (y : LinkPlan) → least_delay none (x ∷ (xs ++ y ∷ [])) ≡ min (least_delay none (x ∷ xs)) y.delay
least_more none x [] y = refl
least_more none x (z ∷ zs) y =
    let rest = least_more none z zs y in
    ap (λ (n : ℕ). min x.delay n) rest ∙ omega arith

least_step : (none : ℕ) (x : LinkPlan) (links : List LinkPlan) (i : ℕ) (d : LinkPlan) (least : ℕ) → i < length links → least ≡ least_delay none (x ∷ take i links) → min least (get_or links i d).delay ≡ least_delay none (x ∷ take (i + 1) links)
least_step none x links i d least l e =
    ap (λ (n : ℕ). min n (get_or links i d).delay) e
    ∙ (sym (least_more none x (take i links) (get_or links i d))
    ∙ ap (λ (ls : List LinkPlan). least_delay none (x ∷ ls)) (sym (take_more links i d l)))

-- the same over a list that is gone through from its second on
least_on : (none : ℕ) (links : List LinkPlan) (i : ℕ) (d : LinkPlan) (least : ℕ) → i + 1 < length links → least ≡ least_delay none (take (i + 1) links) → min least (get_or links (i + 1) d).delay ≡ least_delay none (take (i + 1 + 1) links)
least_on none [] i d least l e = absurd (omega arith)
least_on none (x ∷ xs) i d least l e =
    let before : take (i + 1) (x ∷ xs) ≡ x ∷ take i xs = ap (λ (k : ℕ). take k (x ∷ xs)) (add-one i) in
    let after : take (i + 1 + 1) (x ∷ xs) ≡ x ∷ take (i + 1) xs = ap (λ (k : ℕ). take k (x ∷ xs)) (add-one (i + 1)) in
    let here : get_or (x ∷ xs) (i + 1) d ≡ get_or xs i d = ap (λ (k : ℕ). get_or (x ∷ xs) k d) (add-one i) in
    ap (λ (y : LinkPlan). min least y.delay) here
    ∙ (least_step none x xs i d least (omega arith) (e ∙ ap (least_delay none) before)
    ∙ ap (least_delay none) (sym after))

-- the same as the loop goes over what stands behind the first
pub least_next : (none : ℕ) (links : List LinkPlan) (i : ℕ) (d : LinkPlan) (least next : ℕ) → i < length (take (length links - 1) (drop 1 links)) → next ≡ min least (get_or (take (length links - 1) (drop 1 links)) i d).delay → least ≡ least_delay none (take (i + 1) links) → next ≡ least_delay none (take (i + 1 + 1) links)
least_next none links i d least next l e h =
    let items : take (length links - 1) (drop 1 links) ≡ drop 1 links = take_rest links 1 in
    let behind : i < length (drop 1 links) = subst (λ (ls : List LinkPlan). i < length ls) items l in
    let within : i + 1 < length links = omega (arith, length-drop 1 links) in
    let order : 1 + i ≡ i + 1 = omega arith in
    let here : get_or (take (length links - 1) (drop 1 links)) i d ≡ get_or links (i + 1) d =
    ap (λ (ls : List LinkPlan). get_or ls i d) items ∙ (get_or-drop 1 links i d ∙ ap (λ (k : ℕ). get_or links k d) order) in
    e ∙ (ap (λ (y : LinkPlan). min least y.delay) here ∙ least_on none links i d least within h)
