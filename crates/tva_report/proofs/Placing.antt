-- Lemmas on where pairs stand while their sums grow.
use Rattle.tva_report.proofs.Common.{◌≡◌, ℕ, ◌+◌, ◌<◌, List, [], ◌∷◌, ◌++◌, length, get_or, set, cond, refl, ◌∙◌, ap, arith, inl, inr, Some, None, Option, add-zero, suc, position_from, cases_Bool, Pair, same_pair, add_to, place_of}
use Rattle.tva_report.proofs.Adding.{tells_pairs}

abbrev pub from : ℕ → Pair → List (Pair × ℕ) → Option ℕ
from i pair sums = position_from (λ s. same_pair s.0 pair) i sums

-- the place where a pair stands
pub record IsThere (i place : ℕ) (pair : Pair) (more : ℕ) (sums : List (Pair × ℕ)) (at : ℕ) : Type 0 where
  pub counted : place ≡ i + at
  pub inside : at < length sums
  pub grown : (d : Pair × ℕ) → add_to same_pair pair more sums ≡ set sums at ((get_or sums at d).0, (get_or sums at d).1 + more)

there_from : (i place : ℕ) (pair : Pair) (more : ℕ) (sums : List (Pair × ℕ)) → from i pair sums ≡ Some place → (at : ℕ) × IsThere i place pair more sums at
there_from i place pair more [] h = absurd cc
there_from i place pair more (s ∷ sums) h =
    elim (cases_Bool (same_pair s.0 pair)) [
      | inl e ↦
          let k : Some i ≡ Some place = rw e at h in
          let l : i ≡ place = cc in
          (0, record { counted = omega arith; inside = omega arith; grown = λ d. rw e refl })
      | inr e ↦
          let rest = there_from (i + 1) place pair more sums (rw e at h) in
          let c = rest.1.counted in
          let l = rest.1.inside in
          (suc rest.0, record { counted = omega arith; inside = omega arith; grown = λ d. rw e (ap (λ ss. s ∷ ss) (rest.1.grown d)) })
    ]

pub there : (place : ℕ) (pair : Pair) (more : ℕ) (sums : List (Pair × ℕ)) → place_of pair sums ≡ Some place → IsThere 0 place pair more sums place
there place pair more sums h =
    let found = there_from 0 place pair more sums h in
    let e : found.0 ≡ place = let c = found.1.counted in omega arith in
    rw e at found.1

-- no pair moves when one grows
pub keeps : (i place : ℕ) (pair other : Pair) (more : ℕ) (sums : List (Pair × ℕ)) → from i pair sums ≡ Some place → from i other (add_to same_pair pair more sums) ≡ from i other sums
keeps i place pair other more [] h = absurd cc
keeps i place pair other more (s ∷ sums) h =
    elim (cases_Bool (same_pair s.0 pair)) [
      | inl e ↦ rw e refl
      | inr e ↦ rw e (ap (λ r. cond (same_pair s.0 other) (Some i) r) (keeps (i + 1) place pair other more sums (rw e at h)))
    ]

-- a new pair comes last
pub comes_last : (i : ℕ) (pair : Pair) (more : ℕ) (sums : List (Pair × ℕ)) → from i pair sums ≡ None → add_to same_pair pair more sums ≡ sums ++ (pair, more) ∷ []
comes_last i pair more [] h = refl
comes_last i pair more (s ∷ sums) h =
    elim (cases_Bool (same_pair s.0 pair)) [
      | inl e ↦ let z = rw e at h in absurd cc
      | inr e ↦ rw e (ap (λ ss. s ∷ ss) (comes_last (i + 1) pair more sums (rw e at h)))
    ]

pub place-last : (i : ℕ) (pair other : Pair) (more : ℕ) (sums : List (Pair × ℕ)) → from i pair sums ≡ None → from i other (sums ++ (pair, more) ∷ []) ≡ cond (same_pair pair other) (Some (i + length sums)) (from i other sums)
place-last i pair other more [] h = rw add-zero refl
place-last i pair other more (s ∷ sums) h =
    elim (cases_Bool (same_pair s.0 pair)) [
      | inl e ↦ let z = rw e at h in absurd cc
      | inr e ↦
          let rest = place-last (i + 1) pair other more sums (rw e at h) in
          let next : (i + 1) + length sums ≡ i + length (s ∷ sums) = omega arith in
          elim (cases_Bool (same_pair s.0 other)) [
            | inl a ↦
                elim (cases_Bool (same_pair pair other)) [
                  | inl b ↦
                      let p = tells_pairs.same_is pair other b in
                      let z = rw p at e in absurd cc
                  | inr b ↦ rw (a, b) refl
                ]
            | inr a ↦ rw a (rest ∙ rw next refl)
          ]
    ]
