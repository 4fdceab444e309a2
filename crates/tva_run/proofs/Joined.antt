-- Joins before a time, and joins with more put in.
use Rattle.tva_run.proofs.Common.{arith, nat_tests, ◌≡◌, ℕ, List, ◌++◌, sym, ◌∙◌, IsJoin, NeverFalls, cut, from_source, put_all}
use Rattle.tva_run.proofs.Joins.{filter_swap, in_order-filter, join_unique}
use Rattle.tva_run.proofs.Putting.{in_order-put_all, source-put_all}

module _ {X : Type 0} (time source : X → ℕ) (gives : ℕ → List X) where
  pub one_join : (xs ys : List X) → IsJoin time source gives xs → IsJoin time source gives ys → xs ≡ ys
  one_join xs ys a b = join_unique time source xs ys a.in_order b.in_order (λ s. a.each s ∙ sym (b.each s))

  pub join-cut : (until : ℕ) (xs : List X) → IsJoin time source gives xs → IsJoin time source (λ s. cut time until (gives s)) (cut time until xs)
  join-cut until xs j = grind (arith, nat_tests, in_order-filter, filter_swap)

  pub join-put_all : (xs ys : List X) → IsJoin time source gives ys → ((s : ℕ) → NeverFalls time (gives s ++ from_source source s xs)) → IsJoin time source (λ s. gives s ++ from_source source s xs) (put_all time source xs ys)
  join-put_all xs ys j rises = grind (arith, nat_tests, in_order-put_all, source-put_all)
