-- The inputs of a node that wait.
use Rattle.tva_node.proofs.Common.{◌≡◌, ℕ, ◌+◌, ◌<◌, ◌≤◌, List, [], ◌∷◌, ◌++◌, Some, sym, subst, ◌∙◌, arith, false, true, append-nil, append_assoc, AllByRecursion, eqb-true, nat_tests, filter-append, recursion_from_All, IsInOrder, cut-early, cut-late, each_later, each-put_all, in_order-put_all, Input, input_time, input_source, in_turn, due, rest_late, AreLeft, IsNoneBefore, first_time, is_due}
use Rattle.std.specs.Prelude.{All}

pub in_turn-ordered : (xs : List Input) → IsInOrder input_time input_source (in_turn xs)
in_turn-ordered xs = in_order-put_all input_time input_source xs [] tt

in_order-back : (xs ys : List Input) → IsInOrder input_time input_source (xs ++ ys) → IsInOrder input_time input_source ys
in_order-back [] ys h = h
in_order-back (x ∷ xs) ys h = in_order-back xs ys h.1

-- where the next is late, all that wait are
first_late : (n : ℕ) (waiting : List Input) → IsInOrder input_time input_source waiting → IsNoneBefore n (first_time waiting) → AllByRecursion (λ i. n ≤ input_time i) waiting
first_late n [] o h = tt
first_late n (i ∷ is) o h = each_later input_time input_source n i is o h

module _ (inbox : List Input) (taken : List Input) (waiting : List Input) (left : AreLeft inbox taken waiting) where
  rest_ordered : IsInOrder input_time input_source waiting
  rest_ordered = in_order-back taken waiting (subst (IsInOrder input_time input_source) left (in_turn-ordered inbox))

  pub left_late : (n : ℕ) → IsNoneBefore n (first_time waiting) → AllByRecursion (λ i. n ≤ input_time i) waiting
  left_late n h = first_late n waiting rest_ordered h

  -- where all that was taken is early and all that is left is late, what was taken is what is due
  pub taken_due : (n : ℕ) → AllByRecursion (λ i. input_time i < n) taken → IsNoneBefore n (first_time waiting) → due n (in_turn inbox) ≡ taken
  taken_due n a h = grind (arith, nat_tests, filter-append, cut-early, cut-late, left_late, append-nil)

  -- each that waits was given
  pub waiting_each : (P : Input → Type 0) → All P inbox → AllByRecursion P waiting
  waiting_each P h = each_back P taken waiting (subst (AllByRecursion P) left (each-put_all input_time input_source P inbox [] (recursion_from_All P inbox h) tt))
    where
      each_back : (P : Input → Type 0) (xs ys : List Input) → AllByRecursion P (xs ++ ys) → AllByRecursion P ys
      each_back P [] ys h = h
      each_back P (x ∷ xs) ys h = each_back P xs ys h.1

-- the next is not before what is due
pub next_late : (w : ℕ) (inbox waiting : List Input) (t : ℕ) → AreLeft inbox (due w (in_turn inbox)) waiting → first_time waiting ≡ Some t → w ≤ t
next_late w inbox waiting t left e = grind (arith, nat_tests, rest_late)

-- the next is taken
pub next_left : (inbox taken : List Input) (input : Input) (waiting : List Input) → AreLeft inbox taken (input ∷ waiting) → AreLeft inbox (taken ++ input ∷ []) waiting
next_left inbox taken input waiting e = e ∙ sym (append_assoc taken (input ∷ []) waiting)

-- none waits of a time at which the next does not come
pub none_due : (now : ℕ) (waiting : List Input) → is_due now waiting ≡ false → AllByRecursion (λ i. now ≤ input_time i) waiting → IsNoneBefore (now + 1) (first_time waiting)
none_due now waiting e h = grind (arith, nat_tests)

pub some_due : (now : ℕ) (waiting : List Input) (input : Input) (rest : List Input) → is_due now waiting ≡ true → waiting ≡ input ∷ rest → input_time input ≡ now
some_due now waiting input rest h e = eqb-true (input_time input) now (subst (λ is. is_due now is ≡ true) e h)
