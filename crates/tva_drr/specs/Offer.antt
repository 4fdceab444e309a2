-- Product: an offer of an item with a key.
use Rattle.std.specs.Prelude.{ℕ, ◌+◌, ◌==◌, nat_lt, nat_le, Bool, not, ◌&&◌, ◌||◌, if◌then◌else◌, List, [], ◌∷◌, ◌++◌}
use Rattle.std.specs.Prelude.{length}
use Rattle.tva_drr.specs.declared.offered.Offered.{Offered}
use Rattle.tva_drr.specs.declared.offered.Offered.TheVariants.{Queued, NoQueue, QueueFull}
use Rattle.tva_drr.specs.Queues.{Queue, Fair, queue, fair, has_key, items_of, bytes_in, all_bytes}

module _ {T : Type 0} where
  -- the key has no queue, and there are as many queues as there may be
  abbrev pub lacks_queue : Fair T → ℕ → Bool
  lacks_queue f key = not (has_key key f.queues) && nat_le f.limits.queues (length f.queues)

  -- with the item its queue would hold too many items or bytes, or all queues too many bytes
  abbrev pub lacks_room : (T → ℕ) → Fair T → ℕ → T → Bool
  lacks_room measure f key item =
      nat_lt f.limits.ring (length (items_of key f.queues) + 1)
      || nat_lt f.limits.queue_bytes (bytes_in measure (items_of key f.queues) + measure item)
      || nat_lt f.limits.class_bytes (all_bytes measure f.queues + measure item)

  -- the item goes last among its key's items; a new key goes last in the list, with the deficit
  -- `start` where the list was empty, and else with 0
  abbrev pub put : ℕ → ℕ → T → List (Queue T) → List (Queue T)
  put start key item [] = queue key start (item ∷ []) ∷ []
  put start key item (q ∷ qs) =
      if q.key == key then queue q.key q.deficit (q.items ++ item ∷ []) ∷ qs else q ∷ put 0 key item qs

  -- what an offer answers
  abbrev pub offer_answer : (T → ℕ) → Fair T → ℕ → T → Offered T
  offer_answer measure f key item =
      if lacks_queue f key then NoQueue item else (if lacks_room measure f key item then QueueFull item else Queued)

  -- what an offer leaves
  abbrev pub offer_leaves : (T → ℕ) → Fair T → ℕ → T → Fair T
  offer_leaves measure f key item =
      if lacks_queue f key then f
      else (if lacks_room measure f key item then f else fair f.limits (put f.limits.quantum key item f.queues))
