-- Lemmas on the first difference of two lists of lines.
use Rattle.tva_report.proofs.Common.{◌≡◌, ◌≢◌, ℕ, ◌+◌, ◌-◌, true, false, List, [], ◌∷◌, ◌++◌, length, take, refl, ◌∙◌, arith, inl, inr, Some, None, suc, add-zero, slice_get, unwrap_or, bytes_eq, cases_Bool, bytes_eq-Decides, IsFirstDifference, difference_from, finding}
use Rattle.tva_report.specs.declared.differences.Finding.{Finding}

same_line : (x : List ℕ) → bytes_eq x x ≡ true
same_line x = (bytes_eq-Decides x x).1 refl

pub equal_lines : (x y : List ℕ) → bytes_eq x y ≡ true → x ≡ y
equal_lines x y = (bytes_eq-Decides x y).0

unequal_lines : (x y : List ℕ) → bytes_eq x y ≡ false → x ≢ y
unequal_lines x y h e = let k = (bytes_eq-Decides x y).1 e in absurd cc

pub none_of_same : (n : ℕ) (xs : List (List ℕ)) → difference_from n xs xs ≡ None
none_of_same n [] = refl
none_of_same n (x ∷ xs) = rw (same_line x) (none_of_same (n + 1) xs)

pub same_of_none : (n : ℕ) (xs ys : List (List ℕ)) → difference_from n xs ys ≡ None → xs ≡ ys
same_of_none n [] [] h = refl
same_of_none n [] (y ∷ ys) h = absurd cc
same_of_none n (x ∷ xs) [] h = absurd cc
same_of_none n (x ∷ xs) (y ∷ ys) h =
    elim (cases_Bool (bytes_eq x y)) [
      | inl a ↦ let e = equal_lines x y a in let rest = same_of_none (n + 1) xs ys (rw a at h) in cc
      | inr a ↦ let e = rw a at h in absurd cc
    ]

pub missing : (n : ℕ) (xs : List (List ℕ)) (x : List ℕ) (more : List (List ℕ)) → difference_from n (xs ++ x ∷ more) xs ≡ Some (finding (n + length xs) x [])
missing n [] x more = rw add-zero refl
missing n (y ∷ ys) x more =
    let e : (n + 1) + length ys ≡ n + length (y ∷ ys) = omega arith in
    rw (same_line y, missing (n + 1) ys x more, e) refl

pub added : (n : ℕ) (xs : List (List ℕ)) (x : List ℕ) (more : List (List ℕ)) → difference_from n xs (xs ++ x ∷ more) ≡ Some (finding (n + length xs) [] x)
added n [] x more = rw add-zero refl
added n (y ∷ ys) x more =
    let e : (n + 1) + length ys ≡ n + length (y ∷ ys) = omega arith in
    rw (same_line y, added (n + 1) ys x more, e) refl

-- the same lines in front count, and are no difference
pub past_same : (n : ℕ) (xs more ys : List (List ℕ)) → difference_from n (xs ++ more) (xs ++ ys) ≡ difference_from (n + length xs) more ys
past_same n [] more ys = rw add-zero refl
past_same n (x ∷ xs) more ys =
    let e : (n + 1) + length xs ≡ n + length (x ∷ xs) = omega arith in
    rw (same_line x, past_same (n + 1) xs more ys, e) refl

-- the difference by how many lines stand before it, where the first lines have that number
pub record IsDifferenceAt (n k : ℕ) (f : Finding) (xs ys : List (List ℕ)) : Type 0 where
  pub numbered : f.line ≡ n + k
  pub before : take k xs ≡ take k ys
  pub differs : slice_get xs k ≢ slice_get ys k
  pub expected : f.expected ≡ unwrap_or (slice_get xs k) []
  pub found : f.found ≡ unwrap_or (slice_get ys k) []

here : (n : ℕ) (x y : List ℕ) (xs ys : List (List ℕ)) (f : Finding) → x ≢ y → Some (finding n x y) ≡ Some f → IsDifferenceAt n 0 f (x ∷ xs) (y ∷ ys)
here n x y xs ys f h e =
    let g : finding n x y ≡ f = cc in
    rw (← g) (record { numbered = omega arith; before = refl; differs = λ d. h cc; expected = refl; found = refl })

later : (n k : ℕ) (x y : List ℕ) (xs ys : List (List ℕ)) (f : Finding) → x ≡ y → IsDifferenceAt (n + 1) k f xs ys → IsDifferenceAt n (suc k) f (x ∷ xs) (y ∷ ys)
later n k x y xs ys f e d = record {
  numbered = d.numbered ∙ omega arith;
  before = let b = d.before in cc;
  differs = d.differs;
  expected = d.expected;
  found = d.found;
}

pub found_at : (n : ℕ) (xs ys : List (List ℕ)) (f : Finding) → difference_from n xs ys ≡ Some f → (k : ℕ) × IsDifferenceAt n k f xs ys
found_at n [] [] f h = absurd cc
found_at n [] (y ∷ ys) f h =
    let g : finding n [] y ≡ f = cc in
    (0, rw (← g) (record { numbered = omega arith; before = refl; differs = λ d. absurd cc; expected = refl; found = refl }))
found_at n (x ∷ xs) [] f h =
    let g : finding n x [] ≡ f = cc in
    (0, rw (← g) (record { numbered = omega arith; before = refl; differs = λ d. absurd cc; expected = refl; found = refl }))
found_at n (x ∷ xs) (y ∷ ys) f h =
    elim (cases_Bool (bytes_eq x y)) [
      | inl a ↦
          let rest = found_at (n + 1) xs ys f (rw a at h) in
          (suc rest.0, later n rest.0 x y xs ys f (equal_lines x y a) rest.1)
      | inr a ↦ (0, here n x y xs ys f (unequal_lines x y a) (rw a at h))
    ]

pub is_first : (xs ys : List (List ℕ)) (f : Finding) → difference_from 1 xs ys ≡ Some f → IsFirstDifference f xs ys
is_first xs ys f h =
    let at = found_at 1 xs ys f h in
    let k : at.0 ≡ f.line - 1 = let l = at.1.numbered in omega arith in
    record {
      numbered = let l = at.1.numbered in omega arith;
      before = rw k at at.1.before;
      differs = rw k at at.1.differs;
      expected = rw k at at.1.expected;
      found = rw k at at.1.found;
    }
