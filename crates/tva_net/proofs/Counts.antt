-- How many rows each node has, one row after another.
use Rattle.tva_net.proofs.Common.{◌≡◌, ℕ, ◌+◌, ◌<◌, Bool, true, false, cond, List, [], ◌∷◌, ◌++◌, length, get_or, set, map, filter, take, refl, sym, subst, ◌∙◌, ap, arith, inl, inr, length-append, add-zero, ◌==◌, cases_eq, cond-true, cond-false, eq-eqb, ne_eqb, get_or-set_other, get_or-set_same, length-set, map-append, take_more, filter-append, Row, Input, FromTrace, rows_at, AreRowCounts}

one_row : (row : Row) (b : Bool) → length (map FromTrace (cond b (row ∷ []) [])) ≡ cond b 1 0
one_row row true = refl
one_row row false = refl

row_more : (rows : List Row) (row : Row) (m : ℕ) → length (rows_at (rows ++ row ∷ []) m) ≡ length (rows_at rows m) + cond (row.node == m) 1 0
row_more rows row m =
    ap (λ (rs : List Row). length (map FromTrace rs)) (filter-append (λ (r : Row). r.node == m) rows (row ∷ []))
    ∙ (ap (λ (is : List Input). length is) (map-append FromTrace (filter (λ (r : Row). r.node == m) rows) (cond (row.node == m) (row ∷ []) []))
    ∙ (length-append (rows_at rows m) (map FromTrace (cond (row.node == m) (row ∷ []) []))
    ∙ ap (λ k. length (rows_at rows m) + k) (one_row row (row.node == m))))

module _ (n : ℕ) (rows : List Row) (row : Row) (counts : List ℕ) (within : row.node < n) (c : AreRowCounts n rows counts) where
  abbrev more : ℕ
  more = get_or counts row.node 0 + 1

  inside : row.node < length counts
  inside = let count = c.count in omega arith

  each_more : (m : ℕ) → m < n → get_or (set counts row.node more) m 0 ≡ length (rows_at (rows ++ row ∷ []) m)
  each_more m l = elim (cases_eq row.node m) [
    | inl e ↦
        sym (ap (λ k. get_or (set counts row.node more) k 0) e)
        ∙ (get_or-set_same counts row.node more 0 inside
        ∙ (ap (λ k. k + 1) (c.each row.node within ∙ ap (λ k. length (rows_at rows k)) e)
        ∙ sym (row_more rows row m ∙ ap (λ k. length (rows_at rows m) + k) (cond-true (row.node == m) 1 0 (eq-eqb row.node m e)))))
    | inr o ↦
        get_or-set_other counts row.node m more 0 (λ e. o (sym e))
        ∙ (c.each m l
        ∙ sym (row_more rows row m ∙ (ap (λ k. length (rows_at rows m) + k) (cond-false (row.node == m) 1 0 (ne_eqb row.node m o)) ∙ add-zero (length (rows_at rows m)))))
  ]

  pub counts_more : AreRowCounts n (rows ++ row ∷ []) (set counts row.node more)
  counts_more = record { count = length-set counts row.node more ∙ c.count; each = each_more }

-- the rows up to one more
pub all_more : (n : ℕ) (rows : List Row) (i : ℕ) (row : Row) (counts : List ℕ) → i < length rows → row ≡ get_or rows i row → row.node < n → AreRowCounts n (take i rows) counts
    → AreRowCounts n (take (i + 1) rows) (set counts row.node (get_or counts row.node 0 + 1))
all_more n rows i row counts l is within c =
    subst (λ (rs : List Row). AreRowCounts n rs (set counts row.node (get_or counts row.node 0 + 1)))
    (sym (take_more rows i row l ∙ ap (λ (r : Row). take i rows ++ r ∷ []) (sym is))) (counts_more n (take i rows) row counts within c)
