-- Words that are joined.
use Rattle.tva_shim_text.proofs.Common.{◌≡◌, ◌∙◌, sym, ap, ℕ, List, [], ◌∷◌, ◌++◌, append_assoc, map, ◌-◌, ◌≤◌, take, drop, length, get_or, arith, flat_map, join_with_byte, or_dash}
use Rattle.std.proofs.lemmas.List.{append-nil, take_all}

-- joined words are the first, and the others with the byte before each
join-flat : {X : Type 0} (c : ℕ) (w : List ℕ) (word : X → List ℕ) (rest : List X) → join_with_byte c (w ∷ map word rest) ≡ w ++ flat_map (λ x. c ∷ word x) rest
join-flat c w word [] = sym (append-nil w)
join-flat c w word (x ∷ xs) = ap (λ t. w ++ (c ∷ t)) (join-flat c (word x) word xs)

pub or_dash-first : {X : Type 0} (word : X → List ℕ) (first : X) (rest : List X) → or_dash (map word (first ∷ rest)) ≡ word first ++ flat_map (λ x. 44 ∷ word x) rest
or_dash-first word first rest = join-flat 44 (word first) word rest

-- the elements behind the first
behind_first : {X : Type 0} (x : X) (xs : List X) → take (length (x ∷ xs) - 1) (drop 1 (x ∷ xs)) ≡ xs
behind_first x xs = let e : length (x ∷ xs) - 1 ≡ length xs = omega arith in rw e (take_all (length xs) xs (omega arith))

-- a name and a list of words, put one after another
pub put_words : {X : Type 0} (word : X → List ℕ) (xs : List X) (d : X) (i : ℕ) (old name a b c : List ℕ) → 1 ≤ length xs → length (take (length xs - 1) (drop 1 xs)) ≤ i → a ≡ old ++ name → b ≡ a ++ word (get_or xs 0 d) → c ≡ b ++ flat_map (λ x. 44 ∷ word x) (take i (take (length xs - 1) (drop 1 xs))) → c ≡ old ++ (name ++ (or_dash (map word xs) ++ []))
put_words word [] d i old name a b c some end ea eb ec = absurd (omega arith)
put_words word (x ∷ xs) d i old name a b c some end ea eb ec =
    let all : take i (take (length (x ∷ xs) - 1) (drop 1 (x ∷ xs))) ≡ xs = take_all i _ end ∙ behind_first x xs in
    ec ∙ ap (λ l. b ++ flat_map (λ x. 44 ∷ word x) l) all
    ∙ ap (λ t. t ++ flat_map (λ x. 44 ∷ word x) xs) (eb ∙ ap (λ t. t ++ word x) ea)
    ∙ append_assoc (old ++ name) (word x) (flat_map (λ x. 44 ∷ word x) xs)
    ∙ append_assoc old name (word x ++ flat_map (λ x. 44 ∷ word x) xs)
    ∙ ap (λ t. old ++ (name ++ t)) (sym (or_dash-first word x xs) ∙ sym (append-nil (or_dash (map word (x ∷ xs)))))
