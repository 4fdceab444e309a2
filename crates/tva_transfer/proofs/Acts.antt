-- Acts and steps in their order.
use Rattle.tva_transfer.proofs.Common.{◌≡◌, ℕ, true, false, eqb, List, [], ◌∷◌, ◌++◌, refl, sym, ap, subst, ◌∙◌, ⊎_elim, cases_Bool, eqb-true, eq-eqb, append-nil, filter_map-append, Act, Step, acts_at, arith}
use Rattle.std.proofs.Math.Seq.{append_snoc}

-- what holds of no element, and of each list with one more where it holds of the list, holds of all lists
module _ {A : Type 0} (P : List A → Type 0) (none : P []) (more : (xs : List A) (x : A) → P xs → P (xs ++ x ∷ [])) where
  from : (done rest : List A) → P done → P (done ++ rest)
  from done [] p = subst P (sym (append-nil done)) p
  from done (x ∷ rest) p = subst P (append_snoc done x rest) (from (done ++ x ∷ []) rest (more done x p))

  pub by_last : (xs : List A) → P xs
  by_last xs = from [] xs none

-- an act at a courier is one of the steps
pub record IsStep (steps : List Step) (number : ℕ) (before : List Act) (act : Act) (after : List Act) : Type 0 where
  pub earlier : List Step
  pub later : List Step
  pub is : steps ≡ earlier ++ record { at = number; act = act } ∷ later
  pub before_is : acts_at number earlier ≡ before
  pub after_is : acts_at number later ≡ after

pub acts_at-step : (number : ℕ) (earlier later : List Step) (act : Act) → acts_at number (earlier ++ record { at = number; act = act } ∷ later) ≡ acts_at number earlier ++ act ∷ acts_at number later
acts_at-step number earlier later act = grind (arith, filter_map-append, eq-eqb)

skipped : (s : Step) (steps : List Step) (number : ℕ) → eqb s.at number ≡ false → acts_at number (s ∷ steps) ≡ acts_at number steps
skipped s steps number other = rw other refl

taken : (s : Step) (steps : List Step) (number : ℕ) → eqb s.at number ≡ true → acts_at number (s ∷ steps) ≡ s.act ∷ acts_at number steps
taken s steps number same = rw same refl

later_step : (s : Step) (steps : List Step) (number : ℕ) (before : List Act) (act : Act) (after : List Act) → eqb s.at number ≡ false → IsStep steps number before act after → IsStep (s ∷ steps) number before act after
later_step s steps number before act after other r = record {
  earlier = s ∷ r.earlier;
  later = r.later;
  is = ap (λ xs. s ∷ xs) r.is;
  before_is = skipped s r.earlier number other ∙ r.before_is;
  after_is = r.after_is;
}

pub step_at : (steps : List Step) (number : ℕ) (before : List Act) (act : Act) (after : List Act) → acts_at number steps ≡ before ++ act ∷ after → IsStep steps number before act after
step_at [] number [] act after e = absurd (cc)
step_at [] number (x ∷ before) act after e = absurd (cc)
step_at (s ∷ steps) number [] act after e = ⊎_elim
    (λ yes. let is : s.act ∷ acts_at number steps ≡ act ∷ after = sym (taken s steps number yes) ∙ e in
    let here : s.act ≡ act = cc in
    let rest : acts_at number steps ≡ after = cc in
    let step : s ≡ record { at = number; act = act } = ap (λ n. record { at = n; act = s.act }) (eqb-true s.at number yes) ∙ ap (λ a. record { at = number; act = a }) here in
    record { earlier = []; later = steps; is = ap (λ (x : Step). x ∷ steps) step; before_is = refl; after_is = rest })
    (λ no. later_step s steps number [] act after no (step_at steps number [] act after (sym (skipped s steps number no) ∙ e)))
    (cases_Bool (eqb s.at number))
step_at (s ∷ steps) number (x ∷ before) act after e = ⊎_elim
    (λ yes. let is : s.act ∷ acts_at number steps ≡ x ∷ (before ++ act ∷ after) = sym (taken s steps number yes) ∙ e in
    let here : s.act ≡ x = cc in
    let rest : acts_at number steps ≡ before ++ act ∷ after = cc in
    let r = step_at steps number before act after rest in
    record { earlier = s ∷ r.earlier; later = r.later; is = ap (λ xs. s ∷ xs) r.is; before_is = taken s r.earlier number yes ∙ (ap (λ acts. s.act ∷ acts) r.before_is ∙ ap (λ a. a ∷ before) here); after_is = r.after_is })
    (λ no. later_step s steps number (x ∷ before) act after no (step_at steps number (x ∷ before) act after (sym (skipped s steps number no) ∙ e)))
    (cases_Bool (eqb s.at number))
