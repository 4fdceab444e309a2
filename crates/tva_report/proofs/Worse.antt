-- Lemmas on the worst of some pairs.
use Rattle.tva_report.proofs.Common.{◌≡◌, ℕ, ◌*◌, ◌<◌, ◌≤◌, true, false, List, [], ◌∷◌, ◌++◌, refl, ap, arith, inl, inr, ◌⊎◌, Some, All, AllByRecursion, cases_Bool, lt-ltb, ltb-false, ltb-true, All-cons, All-head, All-nil, All-tail, recursion_from_All, Pair, is_worse, limit_of, worst_from, worst_of}
use Rattle.std.proofs.Math.Nat.{lt_of_mul-lt-mul_right, mul-le-mul_right, mul-lt-mul_of_pos_right}
use Rattle.tva_report.specs.Worst.{IsWorst}

abbrev pub HasUnits : Pair × ℕ → Type 0
HasUnits s = 1 ≤ s.0.grant.rights.n

-- what is greater than the one is greater than what is not greater than it
cross : (b p w lb lp lw : ℕ) → p * lb ≤ b * lp → b * lw < w * lb → 0 < lp → p * lw < w * lp
cross b p w lb lp lw h k pos =
    let one : (p * lb) * lw ≤ (b * lp) * lw = mul-le-mul_right lw h in
    let two : (b * lw) * lp < (w * lb) * lp = mul-lt-mul_of_pos_right k pos in
    let three : (p * lw) * lb < (w * lp) * lb = omega arith in
    lt_of_mul-lt-mul_right lb three

is_greater : (a b : Pair × ℕ) → is_worse a b ≡ true → b.1 * limit_of a.0.grant < a.1 * limit_of b.0.grant
is_greater a b h = ltb-true (b.1 * limit_of a.0.grant) (a.1 * limit_of b.0.grant) h

worse_past : (w p b : Pair × ℕ) → HasUnits p → is_worse w b ≡ true → is_worse p b ≡ false → is_worse w p ≡ true
worse_past w p b units h n =
    lt-ltb (p.1 * limit_of w.0.grant) (w.1 * limit_of p.0.grant)
    (cross b.1 p.1 w.1 (limit_of b.0.grant) (limit_of p.0.grant) (limit_of w.0.grant)
    (ltb-false (b.1 * limit_of p.0.grant) (p.1 * limit_of b.0.grant) n) (is_greater w b h) (omega arith))

worse_still : (w p b : Pair × ℕ) → HasUnits b → is_worse w p ≡ true → is_worse p b ≡ true → is_worse w b ≡ true
worse_still w p b units h k =
    let less : b.1 * limit_of p.0.grant < p.1 * limit_of b.0.grant = is_greater p b k in
    lt-ltb (b.1 * limit_of w.0.grant) (w.1 * limit_of b.0.grant)
    (cross p.1 b.1 w.1 (limit_of p.0.grant) (limit_of b.0.grant) (limit_of w.0.grant) (omega arith) (is_greater w p h) (omega arith))

-- the first of some is the worst of them or less
first_less : (w p : Pair × ℕ) (ps front rest : List (Pair × ℕ)) → p ∷ ps ≡ front ++ w ∷ rest → All (λ s. is_worse w s ≡ true) front → (w ≡ p) ⊎ (is_worse w p ≡ true)
first_less w p ps [] rest e h = inl cc
first_less w p ps (q ∷ qs) rest e h =
    let same : p ≡ q = cc in
    inr (rw same (All-head (λ s. is_worse w s ≡ true) q qs h))

-- one more stands before those of which that is the worst
onto : (w best p : Pair × ℕ) (ps : List (Pair × ℕ)) → HasUnits best → is_worse p best ≡ true → IsWorst w (p ∷ ps) → IsWorst w (best ∷ p ∷ ps)
onto w best p ps units h r = record {
  front = best ∷ r.front;
  rest = r.rest;
  stands = ap (λ xs. best ∷ xs) r.stands;
  before =
      All-cons (λ s. is_worse w s ≡ true) best r.front
      (elim (first_less w p ps r.front r.rest r.stands r.before) [
        | inl e ↦ rw e h
        | inr e ↦ worse_still w p best units e h
      ])
      r.before;
  behind = r.behind;
}

-- one more stands behind the first, which it doesn't pass
past : (w best p : Pair × ℕ) (ps front rest : List (Pair × ℕ)) → HasUnits p → is_worse p best ≡ false → best ∷ ps ≡ front ++ w ∷ rest → All (λ s. is_worse w s ≡ true) front → All (λ s. is_worse s w ≡ false) rest → IsWorst w (best ∷ p ∷ ps)
past w best p ps [] rest units h e before behind =
    let same : best ≡ w = cc in
    let others : ps ≡ rest = cc in
    record {
      front = [];
      rest = p ∷ rest;
      stands = rw (same, others) refl;
      before = before;
      behind = All-cons (λ s. is_worse s w ≡ false) p rest (rw same at h) behind;
    }
past w best p ps (q ∷ qs) rest units h e before behind =
    let same : best ≡ q = cc in
    let others : ps ≡ qs ++ w ∷ rest = cc in
    let less : is_worse w best ≡ true = rw same (All-head (λ s. is_worse w s ≡ true) q qs before) in
    record {
      front = best ∷ p ∷ qs;
      rest = rest;
      stands = rw others refl;
      before =
          All-cons (λ s. is_worse w s ≡ true) best (p ∷ qs) less
          (All-cons (λ s. is_worse w s ≡ true) p qs (worse_past w p best units less h) (All-tail (λ s. is_worse w s ≡ true) q qs before));
      behind = behind;
    }

found : (best : Pair × ℕ) (ps : List (Pair × ℕ)) → HasUnits best → AllByRecursion HasUnits ps → IsWorst (worst_from best ps) (best ∷ ps)
found best [] units all = record {
  front = [];
  rest = [];
  stands = refl;
  before = All-nil (λ s. is_worse best s ≡ true);
  behind = All-nil (λ s. is_worse s best ≡ false);
}
found best (p ∷ ps) units all =
    elim (cases_Bool (is_worse p best)) [
      | inl e ↦ rw e (onto (worst_from p ps) best p ps units e (found p ps all.0 all.1))
      | inr e ↦
          let r = found best ps units all.1 in
          rw e (past (worst_from best ps) best p ps r.front r.rest all.0 e r.stands r.before r.behind)
    ]

pub worst_is : (sums : List (Pair × ℕ)) (worst : Pair × ℕ) → All HasUnits sums → worst_of sums ≡ Some worst → IsWorst worst sums
worst_is [] worst all h = absurd cc
worst_is (s ∷ sums) worst all h =
    let each = recursion_from_All HasUnits (s ∷ sums) all in
    let same : worst_from s sums ≡ worst = cc in
    rw (← same) (found s sums each.0 each.1)
