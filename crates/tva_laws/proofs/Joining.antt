-- What so many sources give, each in the order of time, has a join.
use Rattle.tva_laws.proofs.Common.{◌≡◌, ℕ, zero, suc, ◌<◌, ◌≤◌, List, [], ◌++◌, append-nil, refl, sym, subst, ap₂, ◌∙◌, arith, inl, inr, ◌==◌, AllByRecursion, cases_lt, eq-eqb, ne_eqb, filter-append, IsJoin, NeverFalls, from_source, put_all, each-weaker, filter-all, filter-none, nat_tests}
use Rattle.tva_run.proofs.Joined.{join-put_all}

module _ {X : Type 0} (time source : X → ℕ) (gives : ℕ → List X) (own : (s : ℕ) → AllByRecursion (λ x. source x ≡ s) (gives s)) (rise : (s : ℕ) → NeverFalls time (gives s)) where
  -- what the sources up to one give, one source after another
  all_to : ℕ → List X
  all_to zero = gives zero
  all_to (suc m) = all_to m ++ gives (suc m)

  of_other : (s k : ℕ) → (k ≡ s → ⊥) → from_source source s (gives k) ≡ []
  of_other s k n = grind (arith, nat_tests, filter-none, each-weaker, ne_eqb)

  of_same : (s : ℕ) → from_source source s (gives s) ≡ gives s
  of_same s = grind (arith, nat_tests, filter-all, each-weaker, eq-eqb)

  one_more : (m s : ℕ) → from_source source s (all_to (suc m)) ≡ from_source source s (all_to m) ++ from_source source s (gives (suc m))
  unfolding all_to
  one_more m s = filter-append (λ x. source x == s) (all_to m) (gives (suc m))

  past : (m s : ℕ) → m < s → from_source source s (all_to m) ≡ []
  unfolding all_to
  past zero s l = of_other s 0 (λ e. omega (arith, l, e))
  past (suc m) s l = grind (arith, nat_tests, one_more, of_other, past m s (omega (arith, l)))

  among : (m s : ℕ) → s ≤ m → from_source source s (all_to m) ≡ gives s
  unfolding all_to
  among zero s l = let first : 0 ≡ s = omega (arith, l) in subst (λ k. from_source source k (gives 0) ≡ gives k) first (of_same 0)
  among (suc m) s l = elim (cases_lt s (suc m)) [
    | inl below ↦ one_more m s ∙ (ap₂ (λ (xs ys : List X). xs ++ ys) (among m s (omega (arith, below))) (of_other s (suc m) (λ e. omega (arith, below, e))) ∙ append-nil (gives s))
    | inr last ↦
        let same : suc m ≡ s = omega (arith, l, last) in
        subst (λ k. from_source source k (all_to (suc m)) ≡ gives k) same
        (one_more m (suc m) ∙ ap₂ (λ (xs ys : List X). xs ++ ys) (past m (suc m) (omega arith)) (of_same (suc m)))
  ]

  -- where no source past one gives anything
  pub joined : (m : ℕ) → ((s : ℕ) → m < s → gives s ≡ []) → (xs : List X) × IsJoin time source gives xs
  joined m none =
      let all : List X = all_to m in
      let is : (s : ℕ) → from_source source s all ≡ gives s = λ s. elim (cases_lt m s) [ inl far ↦ past m s far ∙ sym (none s far) | inr near ↦ among m s near ] in
      let nothing : ℕ → List X = λ s. [] in
      let begins : IsJoin time source nothing [] = record { in_order = tt; each = λ s. refl } in
      let j = join-put_all time source nothing all [] begins (λ s. subst (λ (xs : List X). NeverFalls time xs) (sym (is s)) (rise s)) in
      (put_all time source all [], record { in_order = j.in_order; each = λ s. j.each s ∙ is s })
