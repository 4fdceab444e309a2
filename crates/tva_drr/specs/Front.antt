-- Kit: what is known of the front's queue beside the queues, for the invariant and the contracts of the functions on it.
use Rattle.std.specs.Prelude.{◌≡◌, ℕ, List, [], ◌∷◌, length}
use Rattle.tva_drr.specs.Queues.{Queue, bytes_in}
use Rattle.tva_drr.specs.declared.front.Front.{Front}

module _ {T : Type 0} (measure : T → ℕ) where
  -- the front's key, how many items it has and their bytes; no items where there is no queue
  abbrev pub IsKnown : Front → List (Queue T) → Type 0
  IsKnown front [] = front.items ≡ 0
  IsKnown front (q ∷ qs) = (front.key ≡ q.key) × (front.items ≡ length q.items) × (front.bytes ≡ bytes_in measure q.items)
