-- Product: a take of the front's first item.
use Rattle.std.specs.Prelude.{ℕ, ◌+◌, ◌-◌, nat_lt, if◌then◌else◌, List, [], ◌∷◌, ◌++◌}
use Rattle.tva_drr.specs.Queues.{Queue, Fair, queue, fair}

module _ {T : Type 0} where
  -- the queue that now stands at the front gets the quantum
  abbrev pub refilled : ℕ → List (Queue T) → List (Queue T)
  refilled quantum [] = []
  refilled quantum (q ∷ qs) = queue q.key (q.deficit + quantum) q.items ∷ qs

  module _ (measure : T → ℕ) where
    -- the queue's first item goes, and its deficit falls by the item's length
    abbrev pub popped : ℕ → ℕ → List T → Queue T
    popped key deficit [] = queue key deficit []
    popped key deficit (x ∷ xs) = queue key (deficit - measure x) xs

    abbrev pub front_popped : List (Queue T) → List (Queue T)
    front_popped [] = []
    front_popped (q ∷ qs) = popped q.key q.deficit q.items ∷ qs

    -- a front without items leaves the list, with its deficit; one whose deficit is below its
    -- head's length goes last with its deficit; another stays
    abbrev pub settled : ℕ → ℕ → ℕ → List T → List (Queue T) → List (Queue T)
    settled quantum key deficit [] qs = refilled quantum qs
    settled quantum key deficit (x ∷ xs) qs =
        if nat_lt deficit (measure x) then refilled quantum (qs ++ queue key deficit (x ∷ xs) ∷ [])
        else queue key deficit (x ∷ xs) ∷ qs

    abbrev pub front_settled : ℕ → List (Queue T) → List (Queue T)
    front_settled quantum [] = []
    front_settled quantum (q ∷ qs) = settled quantum q.key q.deficit q.items qs

    -- the queues after a take
    abbrev pub taken : ℕ → List (Queue T) → List (Queue T)
    taken quantum qs = front_settled quantum (front_popped qs)

    -- what a take leaves
    abbrev pub take_leaves : Fair T → Fair T
    take_leaves f = fair f.limits (taken f.limits.quantum f.queues)
