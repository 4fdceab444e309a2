-- Each key's items after an offer and after a take.
use Rattle.tva_drr.proofs.Common.{◌≡◌, ◌≢◌, ℕ, ◌-◌, Some, false, List, [], ◌∷◌, ◌++◌, ◌∙◌, subst, arith, nat_tests, leb_tells, DrrLimits, Queue, queue, fair, has_key, items_of, first, head, put, refilled, settled, front_settled, popped, taken, AreQueues, GoesLast, GoesFirst, IsFront}
use Rattle.tva_drr.proofs.Lists.{items_of_none}

module _ {T : Type 0} where
  items_of-put-own : (start key : ℕ) (item : T) (qs : List (Queue T)) → items_of key (put start key item qs) ≡ items_of key qs ++ item ∷ []
  items_of-put-own start key item [] = grind (arith, nat_tests)
  items_of-put-own start key item (p ∷ qs) = grind (arith, nat_tests, items_of-put-own 0 key item qs)

  items_of-put-other : (k start key : ℕ) (item : T) (qs : List (Queue T)) → k ≢ key → items_of k (put start key item qs) ≡ items_of k qs
  items_of-put-other k start key item [] n = grind (arith, nat_tests)
  items_of-put-other k start key item (p ∷ qs) n = grind (arith, nat_tests, items_of-put-other k 0 key item qs n)

  -- an item that is put goes last among its key's items
  pub goes_last : (l : DrrLimits) (start key : ℕ) (item : T) (qs : List (Queue T)) → GoesLast key item (fair l qs) (fair l (put start key item qs))
  goes_last l start key item qs = grind (arith, nat_tests, items_of-put-own, items_of-put-other)

  items_of-refilled : (k quantum : ℕ) (qs : List (Queue T)) → items_of k (refilled quantum qs) ≡ items_of k qs
  items_of-refilled k quantum qs = grind (arith, nat_tests)

  items_of-push-own : (qs : List (Queue T)) (q : Queue T) → has_key q.key qs ≡ false → items_of q.key (qs ++ q ∷ []) ≡ q.items
  items_of-push-own [] q h = grind (arith, nat_tests)
  items_of-push-own (p ∷ qs) q h = grind (arith, nat_tests, items_of-push-own qs q)

  items_of-push-other : (k : ℕ) (qs : List (Queue T)) (q : Queue T) → k ≢ q.key → items_of k (qs ++ q ∷ []) ≡ items_of k qs
  items_of-push-other k [] q n = grind (arith, nat_tests)
  items_of-push-other k (p ∷ qs) q n = grind (arith, nat_tests, items_of-push-other k qs q n)

  module _ (measure : T → ℕ) (quantum : ℕ) where
    pub items_of-settled-own : (key deficit : ℕ) (xs : List T) (qs : List (Queue T)) → has_key key qs ≡ false → items_of key (settled measure quantum key deficit xs qs) ≡ xs
    items_of-settled-own key deficit [] qs h = items_of-refilled key quantum qs ∙ items_of_none key qs h
    items_of-settled-own key deficit (x ∷ xs) qs h = grind (arith, nat_tests, items_of-refilled key quantum (qs ++ queue key deficit (x ∷ xs) ∷ []), items_of-push-own qs (queue key deficit (x ∷ xs)) h)

    items_of-settled-other : (k key deficit : ℕ) (xs : List T) (qs : List (Queue T)) → k ≢ key → items_of k (settled measure quantum key deficit xs qs) ≡ items_of k qs
    items_of-settled-other k key deficit xs qs n = grind (arith, nat_tests, items_of-refilled, leb_tells, items_of-push-other)

    served : (l : DrrLimits) (key deficit : ℕ) (xs : List T) (qs : List (Queue T)) (x : T) → has_key key qs ≡ false → first xs ≡ Some x
        → GoesFirst key x (fair l (queue key deficit xs ∷ qs)) (fair l (front_settled measure quantum (popped measure key deficit xs ∷ qs)))
    served l key deficit xs qs x h e = grind (arith, nat_tests, items_of-settled-own, items_of-settled-other)

    -- an item that is taken was the first of its key's items
    pub goes_first : (l : DrrLimits) (key : ℕ) (qs : List (Queue T)) (x : T) → AreQueues measure l qs → IsFront key qs → head qs ≡ Some x → GoesFirst key x (fair l qs) (fair l (taken measure quantum qs))
    goes_first l key [] x h f e = absurd f
    goes_first l key (q ∷ qs) x h f e = subst (λ k. GoesFirst k x (fair l (q ∷ qs)) (fair l (taken measure quantum (q ∷ qs)))) f (served l q.key q.deficit q.items qs x h.1 e)
