-- Words that are joined.
use Rattle.tva_lines.proofs.Common.{◌≡◌, ◌∙◌, sym, ap, refl, ℕ, List, [], ◌∷◌, ◌++◌, append_assoc, join_with_byte}

-- two joined lists, with the byte between them, are all words joined
pub join-append : (c : ℕ) (x : List ℕ) (xs : List (List ℕ)) (y : List ℕ) (ys : List (List ℕ)) → join_with_byte c ((x ∷ xs) ++ (y ∷ ys)) ≡ join_with_byte c (x ∷ xs) ++ (c ∷ join_with_byte c (y ∷ ys))
join-append c x [] y ys = refl
join-append c x (z ∷ zs) y ys = ap (λ t. x ++ (c ∷ t)) (join-append c z zs y ys) ∙ sym (append_assoc x (c ∷ join_with_byte c (z ∷ zs)) (c ∷ join_with_byte c (y ∷ ys)))

-- words that were put in two parts
pub put_in_parts : (c : ℕ) (x : List ℕ) (xs : List (List ℕ)) (y : List ℕ) (ys : List (List ℕ)) (a b d : List ℕ) → a ≡ join_with_byte c (x ∷ xs) → b ≡ a ++ (c ∷ []) → d ≡ b ++ join_with_byte c (y ∷ ys) → d ≡ join_with_byte c ((x ∷ xs) ++ (y ∷ ys))
put_in_parts c x xs y ys a b d ea eb ed = ed ∙ ap (λ t. t ++ join_with_byte c (y ∷ ys)) (eb ∙ ap (λ t. t ++ (c ∷ [])) ea) ∙ append_assoc (join_with_byte c (x ∷ xs)) (c ∷ []) (join_with_byte c (y ∷ ys)) ∙ sym (join-append c x xs y ys)
